-- The headline: for every file in the grammar and range clean writes a valid coverage, and each point lies in the member that the definitions say.
use Rattle.std.specs.Prelude.{◌≡◌, ◌⊎◌, ℕ, ◌≤◌, Bool, true, false, List, length, Option, Some, IsTrue}
use Rattle.cov_types.specs.declared.seg.Seg.{Seg}
use Rattle.cov_types.specs.Coverage.{Members, IsFormed}
use Rattle.cov_types.specs.Uses.{uses_of}
use Rattle.plane.specs.Joined.{IsOff}
use Rattle.plane.specs.Label.{label_at}
use Rattle.plane.specs.Point.{Point}
use Rattle.plane.specs.Validity.{IsValid}
use Rattle.arrangement.specs.declared.odd_use.OddUse.{OddUse}
use Rattle.arrangement.specs.Noding.{IsNoded}
use Rattle.gap_replay.specs.Cleaned.{IsCleanedBy}
use Rattle.gap_replay.specs.HeldByReplay.{IsHeldByReplay}
use Rattle.merge_rule.specs.RuleState.{RuleState}
use Rattle.region_owners.specs.Owner.{Rule}
use Rattle.cleaned_laws.specs.HeldByLabel.{IsHeldByLabel}
use Rattle.cov_io.specs.Contents.{HoldsNow}
use Rattle.cov_io.specs.State.{State}
use Rattle.feature_files.specs.Form.{IsWrittenAs}
use Rattle.feature_files.specs.Reading.{with_members, IsRead}
use Rattle.geo_json.specs.Reading.{Reading}
use Rattle.cover_cli.specs.declared.outcome.Outcome.{Outcome}
use Rattle.cover_cli.specs.declared.outcome.Outcome.TheVariants.{Done, ReadFault, WriteFault, NoMemory}
use Rattle.cover_cli.specs.Task.{TaskRule}
use Rattle.cover_cli.specs.Answers.{IsAnswer}
use Rattle.cover_cli.specs.Clean.{picks_of, state_for, IsCleanedFor}
use Rattle.geo_text.specs.declared.reader.TheConstants.{LONGEST_INPUT}
use Rattle.cover_words.specs.Words.{Clean}

-- each point off the noded edges lies in the one snapped member that holds it, where several do in the one that the rule picks, and where none does in none or,
-- within a narrow gap, in the neighbour of longest border or, where the rule is asked for gaps too, in the one that it picks for the gap
abbrev pub AreHeldBy : (too : Bool) (members : Members) (rule : Rule RuleState) (state : RuleState) (w : ℕ) (out : Members) → IsCleanedBy too members rule state w out → Type 0
AreHeldBy false members rule state w out cleaned = (edges : List Seg) (odd : List OddUse) (noded : IsNoded (uses_of members) edges odd) (p : Point) → IsOff edges p
    → IsHeldByLabel rule state cleaned.overlay w out (label_at noded.snapped (length members) p) p
AreHeldBy true members rule state w out cleaned = (edges : List Seg) (odd : List OddUse) (noded : IsNoded (uses_of members) edges odd) (p : Point) → IsOff edges p
    → IsHeldByReplay rule state cleaned.overlay w cleaned.gaps out (label_at noded.snapped (length members) p) p

-- the text is the written form, by the name of the output and at the scale, of a valid coverage with the properties and ids that were read, the members cleaned
-- by the rule at the gap width, in which each point lies so
pub record IsCleanText (rule : TaskRule) (gap : ℕ) (too : Bool) (scale : Option ℕ) (to : List ℕ) (r : Reading) (text : List ℕ) : Type 0 where
  pub out : Members
  pub written : IsWrittenAs to scale (with_members r out) text
  pub formed : IsFormed out
  pub valid : IsValid (uses_of out)
  pub cleaned : IsCleanedFor rule gap too r.members out
  pub held : AreHeldBy too r.members (picks_of rule) (state_for rule (length r.members)) gap out cleaned

-- the output is a clean text, and every other file is as it was
pub record HoldsCleanText (rule : TaskRule) (gap : ℕ) (too : Bool) (scale : Option ℕ) (r : Reading) (to : List ℕ) (old new : State) : Type 0 where
  pub text : List ℕ
  pub is_clean : IsCleanText rule gap too scale to r text
  pub held : HoldsNow to text old.files new.files

-- a call on a file failed, or memory ran out
abbrev pub IsFileFault : Outcome → Type 0
IsFileFault answer = (answer ≡ ReadFault) ⊎ ((answer ≡ WriteFault) ⊎ (answer ≡ NoMemory))

-- for every file in the grammar and range of its name, at the scale of the words, clean is done and the output is a clean text at that scale,
-- want of memory and faults of files aside
abbrev pub HeadlineLaw : Type 0
HeadlineLaw = (rule : TaskRule) (gap : ℕ) (too : Bool) (scale : Option ℕ) (from to input : List ℕ) (r : Reading) (old new : State) (answer : Outcome) → IsTrue old.tells_files
    → old.files from ≡ Some input → length input ≤ LONGEST_INPUT → IsRead from scale input r
    → IsAnswer (Clean rule gap too scale from to) old new answer → ((answer ≡ Done) × HoldsCleanText rule gap too scale r to old new) ⊎ IsFileFault answer
