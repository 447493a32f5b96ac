-- The kinds of rules that a chain can have for parts: the first number of what is fixed says the kind.
use Rattle.std.specs.Prelude.{Bool, false, ◌&&◌, ◌||◌, ◌==◌, if◌then◌else◌, ℕ, List, [], ◌∷◌, length, drop, Option, None, ℤ, pos}
use Rattle.std.specs.Ordering.{int_eq}
use Rattle.region_owners.specs.Facts.{RegionFacts}
use Rattle.merge_rule.specs.RuleState.{RuleState}
use Rattle.cov_rules.specs.EvenShare.{even_room, even_pick, even_next}
use Rattle.cov_rules.specs.Priority.{priority_pick}
use Rattle.cov_rules.specs.ClearBorder.{clear_pick}

-- the list begins with the number
abbrev pub begins_with : ℕ → List ℤ → Bool
begins_with number [] = false
begins_with number (first ∷ more) = int_eq first (pos number)

-- kind 1: the number alone is fixed, and any numbers are kept
abbrev pub is_even_share : RuleState → Bool
is_even_share rule = begins_with 1 rule.0 && (length rule.0 == 1)

-- kind 2: the number and an order are fixed, and nothing is kept
abbrev pub is_priority : RuleState → Bool
is_priority rule = begins_with 2 rule.0 && (length rule.1 == 0)

-- kind 3: the number alone is fixed, and nothing is kept
abbrev pub is_clear_border : RuleState → Bool
is_clear_border rule = begins_with 3 rule.0 && (length rule.0 == 1) && (length rule.1 == 0)

-- one of the three kinds
abbrev pub is_simple : RuleState → Bool
is_simple rule = is_even_share rule || is_priority rule || is_clear_border rule

-- what a rule of the three kinds keeps when it is prepared for so many members
abbrev pub simple_room : RuleState → ℕ → List ℤ
simple_room rule members = if is_even_share rule then even_room rule.1 members else rule.1

-- the place of the candidate that it picks
abbrev pub simple_pick : RuleState → RegionFacts → Option ℕ
simple_pick rule facts =
    if is_even_share rule then even_pick rule.1 facts
    else if is_priority rule then priority_pick (drop 1 rule.0) facts
    else if is_clear_border rule then clear_pick facts
    else None

-- what it keeps then
abbrev pub simple_next : RuleState → RegionFacts → List ℤ
simple_next rule facts = if is_even_share rule then even_next rule.1 facts else rule.1
