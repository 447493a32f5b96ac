-- What `cover sample` leaves: the output holds the sample, and the answer has its counts.
use Rattle.std.specs.Prelude.{◌≡◌, ◌⊎◌, ℕ, ◌*◌, List, None, length, IsTrue}
use Rattle.cov_io.specs.Contents.{HoldsNow}
use Rattle.cov_io.specs.Count.{Rose}
use Rattle.cov_io.specs.State.{State}
use Rattle.cov_types.specs.Coverage.{Members, IsFormed}
use Rattle.cov_types.specs.Uses.{uses_of}
use Rattle.feature_files.specs.Form.{IsWrittenAs}
use Rattle.feature_files.specs.Reading.{bare}
use Rattle.plane.specs.Validity.{IsValid}
use Rattle.cover_cli.specs.Answers.{IsAnswer}
use Rattle.cover_cli.specs.Sample.{sampled, IsSample}
use Rattle.cover_cli.specs.declared.outcome.Outcome.{Outcome}
use Rattle.cover_cli.specs.declared.outcome.Outcome.TheVariants.{WriteFault, NoMemory}
use Rattle.cover_words.specs.Words.{Sample}

-- the output holds the written form of the sample, which is valid and has a member for each cell, the answer has its counts, and every other file is
-- as it was
pub record HoldsSample (side seed : ℕ) (to : List ℕ) (old new : State) (answer : Outcome) : Type 0 where
  pub out : Members
  pub sample : IsSample side seed out
  pub formed : IsFormed out
  pub valid : IsValid (uses_of out)
  pub members : length out ≡ side * side
  pub counted : answer ≡ sampled out
  pub text : List ℕ
  pub written : IsWrittenAs to None (bare out) text
  pub held : HoldsNow to text old.files new.files

-- a sample is written and counted, unless a write fault was counted or memory ran out: it reads no file
abbrev pub SampleLaw : Type 0
SampleLaw = (side seed : ℕ) (to : List ℕ) (old new : State) (answer : Outcome) → IsTrue old.tells_files → IsAnswer (Sample side seed to) old new answer
    → HoldsSample side seed to old new answer ⊎ (((answer ≡ WriteFault) × Rose old.write_faults new.write_faults) ⊎ (answer ≡ NoMemory))
