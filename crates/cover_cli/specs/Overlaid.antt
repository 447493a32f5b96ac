-- The promise of overlay: each point lies in the pair of the least members that hold it.
use Rattle.std.specs.Prelude.{◌≡◌, ◌⊎◌, ℕ, ◌++◌, List, None, length, IsTrue}
use Rattle.arrangement.specs.Noding.{IsNoded}
use Rattle.arrangement.specs.declared.odd_use.OddUse.{OddUse}
use Rattle.cov_io.specs.Contents.{HoldsNow}
use Rattle.cov_io.specs.State.{State}
use Rattle.cov_types.specs.Coverage.{Members, IsFormed}
use Rattle.cov_types.specs.Uses.{uses_of}
use Rattle.cov_types.specs.declared.seg.Seg.{Seg}
use Rattle.feature_files.specs.Form.{IsWrittenAs}
use Rattle.feature_files.specs.Reading.{IsRead}
use Rattle.geo_json.specs.Reading.{Reading}
use Rattle.overlaid_laws.specs.Overlaid.{IsOverlaid, HoldsByPair}
use Rattle.overlaid_laws.specs.declared.pair.Pair.{Pair}
use Rattle.plane.specs.Validity.{IsValid}
use Rattle.cover_cli.specs.Answers.{IsAnswer}
use Rattle.cover_cli.specs.Headline.{IsFileFault}
use Rattle.cover_cli.specs.Input.{Holds}
use Rattle.cover_cli.specs.Overlay.{with_pairs, TellsTooMany}
use Rattle.cover_cli.specs.declared.outcome.Outcome.{Outcome}
use Rattle.cover_cli.specs.declared.outcome.Outcome.TheVariants.{Done}
use Rattle.cover_words.specs.Words.{Overlay}

-- the text is the written form, by the name of the output, of a valid coverage, the overlay of the two, each member with the properties of its pair: each point off the
-- jointly noded edges lies in the member of a pair exactly where these are the least snapped members of the two coverages that hold it
pub record IsOverlaidText (to : List ℕ) (a b : Members) (text : List ℕ) : Type 0 where
  pub pairs : List Pair
  pub out : Members
  pub written : IsWrittenAs to None (with_pairs pairs out) text
  pub formed : IsFormed out
  pub valid : IsValid (uses_of out)
  pub overlaid : IsOverlaid a b pairs out
  pub held : (edges : List Seg) (odd : List OddUse) → (noded : IsNoded (uses_of (a ++ b)) edges odd) → HoldsByPair (length a) edges noded.snapped pairs out

-- the output is such a text, and every other file is as it was
pub record HoldsOverlaidText (a b : Members) (to : List ℕ) (old new : State) : Type 0 where
  pub text : List ℕ
  pub is_overlaid : IsOverlaidText to a b text
  pub held : HoldsNow to text old.files new.files

-- for any two files in the grammar and range of their names whose readings are valid and have neither too many members nor too many pairs overlay is done and the output
-- is an overlaid text, want of memory and faults of files aside
abbrev pub OverlayLaw : Type 0
OverlayLaw = (first second to input other : List ℕ) (r s : Reading) (old new : State) (answer : Outcome) → IsTrue old.tells_files
    → Holds old first input → IsRead first None input r → IsValid (uses_of r.members)
    → Holds old second other → IsRead second None other s → IsValid (uses_of s.members)
    → ((outcome : Outcome) → ¬ TellsTooMany r.members s.members outcome)
    → IsAnswer (Overlay first second to) old new answer → ((answer ≡ Done) × HoldsOverlaidText r.members s.members to old new) ⊎ IsFileFault answer
