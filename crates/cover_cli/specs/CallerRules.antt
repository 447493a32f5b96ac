-- The promise of handed-in rules: what clean writes by one, and how it comes back.
use Rattle.std.specs.Prelude.{◌≡◌, ℕ, Bool, List, length, get_or, slice_set, Option, IsTrue}
use Rattle.cov_io.specs.Contents.{HoldsNow}
use Rattle.cov_io.specs.State.{State}
use Rattle.cov_rules.specs.Asked.{prepared, IsAskedAll}
use Rattle.cov_rules.specs.Hired.{by_kind}
use Rattle.cov_types.specs.Coverage.{Members, IsFormed}
use Rattle.feature_files.specs.Form.{IsWrittenAs}
use Rattle.feature_files.specs.Reading.{with_members, IsRead}
use Rattle.gap_replay.specs.Cleaned.{IsCleanedBy}
use Rattle.geo_json.specs.Reading.{Reading}
use Rattle.merge_rule.specs.RuleState.{RuleState, no_state}
use Rattle.cover_cli.specs.Answers.{IsAnswer}
use Rattle.cover_cli.specs.Handed.{AreRulesLeft}
use Rattle.cover_cli.specs.Input.{Holds}
use Rattle.cover_cli.specs.Task.{task_of}
use Rattle.cover_cli.specs.declared.outcome.Outcome.TheVariants.{Done}
use Rattle.cover_words.specs.Words.{Clean}
use Rattle.cover_words.specs.declared.rule_choice.RuleChoice.TheVariants.{Handed}

-- the input is read, and the output holds the written form of its coverage, cleaned through the pick and next of the rule of these numbers from its room for the
-- members, with the properties and ids that were read; every other file is as it was, and the rule now has the last numbers of that
pub record HoldsByRule (numbers : RuleState) (gap : ℕ) (too : Bool) (scale : Option ℕ) (from to : List ℕ) (old new : State) (now : RuleState) : Type 0 where
  pub input : List ℕ
  pub holds : Holds old from input
  pub reading : Reading
  pub reads : IsRead from scale input reading
  pub out : Members
  pub cleaned : IsCleanedBy too reading.members by_kind (prepared numbers (length reading.members)) gap out
  pub formed : IsFormed out
  pub text : List ℕ
  pub written : IsWrittenAs to scale (with_members reading out) text
  pub held : HoldsNow to text old.files new.files
  pub last : IsAskedAll reading.members gap too numbers now

-- where a cleaning by the handed-in rule at the place is done, this holds of that rule, and every other rule is as it was
abbrev pub CallerRulesLaw : Type 0
CallerRulesLaw = (rules after : List RuleState) (place gap : ℕ) (too : Bool) (scale : Option ℕ) (from to : List ℕ) (old new : State) → IsTrue old.tells_files
    → IsAnswer (task_of rules (Clean (Handed place) gap too scale from to)) old new Done → AreRulesLeft (Clean (Handed place) gap too scale from to) old Done rules after
    → (now : RuleState) × ((after ≡ slice_set rules place now) × HoldsByRule (get_or rules place no_state) gap too scale from to old new now)
