-- What writing a text comes to.
use Rattle.std.specs.Prelude.{◌≡◌, ℕ, ◌≤◌, List, length, IsTrue, false, ◌⊎◌}
use Rattle.cov_io.specs.Calls.{IsPromised}
use Rattle.cov_io.specs.Contents.{HoldsNow, HoldsPrefix}
use Rattle.cov_io.specs.Count.{Rose}
use Rattle.cov_io.specs.Frame.{KeepsInput}
use Rattle.cov_io.specs.State.{State}
use Rattle.cover_cli.specs.declared.outcome.Outcome.{Outcome}
use Rattle.cover_cli.specs.declared.outcome.Outcome.TheVariants.{WriteFault}
use Rattle.cover_cli.specs.declared.making.Made.{Made}

-- the file of this name holds the text, and there was no fault
pub record IsWrittenWhole (to text : List ℕ) (old new : State) : Type 0 where
  pub held : IsTrue old.tells_files → HoldsNow to text old.files new.files
  pub faults : new.write_faults ≡ old.write_faults

-- the file of this name is as before or holds the first bytes of the text, and a fault was counted
pub record IsWrittenInPart (to text : List ℕ) (old new : State) : Type 0 where
  pub held : IsTrue old.tells_files → HoldsPrefix to text old.files new.files
  pub faults : Rose old.write_faults new.write_faults
  pub unpromised : IsPromised to old → length text ≤ old.room → ⊥

-- the answer after the text was written, whole or in part
pub record IsTextWritten (to : List ℕ) (made : Made) (old new : State) (outcome : Outcome) : Type 0 where
  pub cases : ((outcome ≡ made.outcome) × IsWrittenWhole to made.text.items old new) ⊎ ((outcome ≡ WriteFault) × IsWrittenInPart to made.text.items old new)
  pub closed : new.has_output ≡ false
  pub input : KeepsInput old new
