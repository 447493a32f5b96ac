-- What cleaning a coverage answers and writes.
use Rattle.std.specs.Prelude.{◌≡◌, ℕ, Bool, List, length, Option}
use Rattle.cov_rules.specs.Asked.{prepared}
use Rattle.cov_rules.specs.Hired.{by_kind}
use Rattle.cov_types.specs.Coverage.{Members, IsFormed}
use Rattle.feature_files.specs.Form.{IsWrittenAs}
use Rattle.feature_files.specs.Reading.{with_members}
use Rattle.geo_json.specs.Reading.{Reading}
use Rattle.merge_rule.specs.RuleState.{RuleState, no_state}
use Rattle.region_owners.specs.Owner.{Rule, rule_by, least_index, greatest_area, least_area, longest_border}
use Rattle.gap_replay.specs.Cleaned.{IsCleanedBy}
use Rattle.cover_cli.specs.declared.outcome.Outcome.{Outcome}
use Rattle.cover_cli.specs.declared.outcome.Outcome.TheVariants.{Done}
use Rattle.cover_cli.specs.Task.{TaskRule, OneOfFour, HandedIn}
use Rattle.cover_words.specs.declared.rule_name.RuleName.{RuleName}
use Rattle.cover_words.specs.declared.rule_name.RuleName.TheVariants.{LeastIndex, GreatestArea, LeastArea, LongestBorder}

-- the rule of the name
abbrev pub rule_of : RuleName → Rule RuleState
rule_of LeastIndex = rule_by least_index
rule_of GreatestArea = rule_by greatest_area
rule_of LeastArea = rule_by least_area
rule_of LongestBorder = rule_by longest_border

-- what the rule of a task picks and keeps
abbrev pub picks_of : TaskRule → Rule RuleState
picks_of (OneOfFour name) = rule_of name
picks_of (HandedIn numbers) = by_kind

-- the state in which it comes to the first region of so many members
abbrev pub state_for : TaskRule → ℕ → RuleState
state_for (OneOfFour name) members = no_state
state_for (HandedIn numbers) members = prepared numbers members

-- the coverage, cleaned by the rule of a task at the gap width, which is asked for narrow gaps too where that is said
abbrev pub IsCleanedFor : TaskRule → ℕ → Bool → Members → Members → Type 0
IsCleanedFor rule gap too members out = IsCleanedBy too members (picks_of rule) (state_for rule (length members)) gap out

-- it is done, and the text is the written form, by the name of the output and at the scale, of the coverage, cleaned by the rule at the gap width, with the
-- properties and ids that were read
pub record IsCleaning (rule : TaskRule) (gap : ℕ) (too : Bool) (scale : Option ℕ) (to : List ℕ) (r : Reading) (outcome : Outcome) (text : List ℕ) : Type 0 where
  pub done : outcome ≡ Done
  pub out : Members
  pub cleaned : IsCleanedFor rule gap too r.members out
  pub formed : IsFormed out
  pub written : IsWrittenAs to scale (with_members r out) text
