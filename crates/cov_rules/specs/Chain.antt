-- Kind 4, a chain: its parts are asked one after the other, up to the first that picks.
use Rattle.std.specs.Prelude.{◌&&◌, ◌==◌, if◌then◌else◌, is_some, ℕ, zero, suc, List, [], ◌∷◌, ◌++◌, length, map, take, drop, flat_map, Option, Some, None, option_map, ℤ, pos, negsuc}
use Rattle.std.specs.List.{list_all, zip}
use Rattle.region_owners.specs.Facts.{RegionFacts}
use Rattle.merge_rule.specs.RuleState.{RuleState}
use Rattle.cov_rules.specs.FirstGiven.{first_given}
use Rattle.cov_rules.specs.Simple.{begins_with, is_simple, simple_room, simple_pick, simple_next}

-- ---- lists of numbers in one

-- the list behind its length
abbrev pub with_length : List ℤ → List ℤ
with_length list = pos (length list) ∷ list

-- the rest of a list of which so many numbers are to come, and the lists after it
abbrev pub lists_after : ℕ → List ℤ → Option (List ℤ × List (List ℤ))
lists_after zero [] = Some ([], [])
lists_after (suc left) [] = None
lists_after zero (pos n ∷ numbers) = option_map (λ found. ([], found.0 ∷ found.1)) (lists_after n numbers)
lists_after zero (negsuc n ∷ numbers) = None
lists_after (suc left) (number ∷ numbers) = option_map (λ found. (number ∷ found.0, found.1)) (lists_after left numbers)

-- the lists that stand one after the other, each behind its length; none where the numbers have another form
abbrev pub lists_in : List ℤ → Option (List (List ℤ))
lists_in numbers = option_map (λ found. found.1) (lists_after 0 numbers)

-- ---- parts

-- rules with these lists, where there is a list of each sort for each, and all are of the kinds that a chain can have for parts
abbrev pub parts_with : Option (List (List ℤ)) → Option (List (List ℤ)) → Option (List RuleState)
parts_with (Some fixed) (Some kept) = if (length fixed == length kept) && list_all is_simple (zip fixed kept) then Some (zip fixed kept) else None
parts_with fixed kept = None

-- the parts of a chain, and none where the rule has another form
abbrev pub parts_of : RuleState → Option (List RuleState)
parts_of rule = if begins_with 4 rule.0 then parts_with (lists_in (drop 1 rule.0)) (lists_in rule.1) else None

-- what of a chain of these parts is fixed
abbrev pub fixed_by : List RuleState → List ℤ
fixed_by parts = pos 4 ∷ flat_map (λ part. with_length part.0) parts

-- what a chain of these parts keeps
abbrev pub kept_by : List RuleState → List ℤ
kept_by parts = flat_map (λ part. with_length part.1) parts

-- the parts, the first so many of them prepared for the members
abbrev pub prepared_first : ℕ → List RuleState → ℕ → List RuleState
prepared_first count parts members = map (λ part. (part.0, simple_room part members)) (take count parts) ++ drop count parts

-- the first pick of a part
abbrev pub first_pick : List RuleState → RegionFacts → Option ℕ
first_pick parts facts = first_given (λ part. simple_pick part facts) parts

-- the parts up to the first that picks have their next numbers, and those after it their own
abbrev pub next_parts : List RuleState → RegionFacts → List RuleState
next_parts [] facts = []
next_parts (part ∷ parts) facts = (part.0, simple_next part facts) ∷ (if is_some (simple_pick part facts) then parts else next_parts parts facts)
