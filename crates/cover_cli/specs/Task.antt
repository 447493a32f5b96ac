-- What an operation has to do: the operation with its rule, as that came.
use Rattle.std.specs.Prelude.{List, get_or}
use Rattle.merge_rule.specs.RuleState.{RuleState, no_state}
use Rattle.cover_words.specs.Words.{OperationBy, Operation, Validate, MapFaults, Clean, Simplify, Union, Node, Regions, Locate, Sample, Overlay}
use Rattle.cover_words.specs.declared.rule_choice.RuleChoice.{RuleChoice}
use Rattle.cover_words.specs.declared.rule_choice.RuleChoice.TheVariants.{Own, Handed}
use Rattle.cover_words.specs.declared.rule_name.RuleName.{RuleName}

-- the rule of a cleaning: one of the four, or one that was handed in, with its numbers as they came: what is fixed and what it keeps
pub data TaskRule : Type 0 where
  OneOfFour : RuleName → TaskRule
  HandedIn : RuleState → TaskRule

-- an operation with such a rule
abbrev pub Task : Type 0
Task = OperationBy TaskRule

-- the chosen rule, where the handed-in rules have these numbers
abbrev pub told_rule : List RuleState → RuleChoice → TaskRule
told_rule rules (Own name) = OneOfFour name
told_rule rules (Handed place) = HandedIn (get_or rules place no_state)

-- the operation with its rule, where the handed-in rules have these numbers
abbrev pub task_of : List RuleState → Operation → Task
task_of rules (Validate gap scale from to) = Validate gap scale from to
task_of rules (MapFaults gap scale from to) = MapFaults gap scale from to
task_of rules (Clean rule gap too scale from to) = Clean (told_rule rules rule) gap too scale from to
task_of rules (Simplify tolerance inner scale from to) = Simplify tolerance inner scale from to
task_of rules (Union scale from to) = Union scale from to
task_of rules (Node scale from to) = Node scale from to
task_of rules (Regions scale from to) = Regions scale from to
task_of rules (Sample side seed to) = Sample side seed to
task_of rules (Locate from points to) = Locate from points to
task_of rules (Overlay first second to) = Overlay first second to
