-- What a merge rule keeps from region to region.
use Rattle.std.specs.Prelude.{List, [], ℤ}

-- the state of a rule: two lists of whole numbers
abbrev pub RuleState : Type 0
RuleState = List ℤ × List ℤ

-- the state of a rule that keeps nothing
abbrev pub no_state : RuleState
no_state = ([], [])
