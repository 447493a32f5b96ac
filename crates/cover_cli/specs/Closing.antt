-- The lines that the program prints in the end.
use Rattle.std.specs.Prelude.{ℕ, List, [], ◌∷◌, ◌++◌, codes, flat_map, Option, None, option_map, option_and_then, slice_get, ℤ}
use Rattle.std.specs.Fmt.{signed_decimal}
use Rattle.std.specs.Option.{option_map_or}
use Rattle.merge_rule.specs.RuleState.{RuleState}
use Rattle.cover_cli.specs.Outcome.{message_of}
use Rattle.cover_cli.specs.declared.outcome.Outcome.{Outcome}
use Rattle.cover_cli.specs.declared.outcome.Outcome.TheVariants.{Done}

-- each number behind a space, with a minus where it is negative
abbrev pub numbers_text : List ℤ → List ℕ
numbers_text numbers = flat_map (λ number. 32 ∷ signed_decimal number) numbers

-- the second line, behind a line end
abbrev pub tallies_text : List ℤ → List ℕ
tallies_text numbers = 10 ∷ (codes "tallies" ++ numbers_text numbers)

-- the numbers that the used rule keeps, where the outcome is done and the place has a rule
abbrev pub tallies_of : Outcome → Option ℕ → List RuleState → Option (List ℤ)
tallies_of Done used rules = option_map (λ rule. rule.1) (option_and_then (slice_get rules) used)
tallies_of outcome used rules = None

-- the message of the outcome, and that line where there are such numbers
abbrev pub closing_text : Outcome → Option ℕ → List RuleState → List ℕ
closing_text outcome used rules = message_of outcome ++ option_map_or tallies_text (tallies_of outcome used rules) []
