-- The promise of locate: each point is on an edge, else in the least member that holds it, else in none.
use Rattle.std.specs.Prelude.{◌≡◌, ◌⊎◌, ℕ, List, None, IsTrue}
use Rattle.cov_io.specs.Contents.{HoldsNow}
use Rattle.cov_io.specs.State.{State}
use Rattle.cov_locate.specs.Points.{ArePoints}
use Rattle.cov_types.specs.Uses.{uses_of}
use Rattle.cov_types.specs.declared.coord.Coord.{Coord}
use Rattle.feature_files.specs.Reading.{IsRead}
use Rattle.geo_json.specs.Reading.{Reading}
use Rattle.cover_cli.specs.Answers.{IsAnswer}
use Rattle.cover_cli.specs.Headline.{IsFileFault}
use Rattle.cover_cli.specs.Input.{Holds}
use Rattle.cover_cli.specs.Locate.{ArePlaceRows}
use Rattle.cover_cli.specs.declared.outcome.Outcome.{Outcome}
use Rattle.cover_cli.specs.declared.outcome.Outcome.TheVariants.{Done}
use Rattle.cover_words.specs.Words.{Locate}

-- the output has a row for each point that tells where it lies in the coverage, and every other file is as it was
pub record HoldsPlaces (r : Reading) (list : List Coord) (to : List ℕ) (old new : State) : Type 0 where
  pub text : List ℕ
  pub rows : ArePlaceRows (uses_of r.members) list text
  pub held : HoldsNow to text old.files new.files

-- for every file in the grammar and range of its name and every points file without a fault locate is done and the output tells where each
-- point lies, want of memory and faults of files aside
abbrev pub LocateLaw : Type 0
LocateLaw = (from points to input file : List ℕ) (r : Reading) (list : List Coord) (old new : State) (answer : Outcome) → IsTrue old.tells_files
    → Holds old from input → IsRead from None input r → Holds old points file → ArePoints file list
    → IsAnswer (Locate from points to) old new answer → ((answer ≡ Done) × HoldsPlaces r list to old new) ⊎ IsFileFault answer
