-- A rule with a state, for trying what is generic over its rule.
use Rattle.std.specs.Prelude.{ℕ, ◌+◌, ◌%◌, ◌^◌, [], ◌∷◌, length, get_or, pos, unsigned_abs}
use Rattle.region_owners.specs.Owner.{Rule}
use Rattle.merge_rule.specs.RuleState.{RuleState}

-- how many calls the state counts: the first number of its first list
abbrev pub calls_of : RuleState → ℕ
calls_of state = unsigned_abs (get_or state.0 0 (pos 0))

-- the state that counts so many calls
abbrev pub counted : ℕ → RuleState
counted calls = (pos calls ∷ [], [])

-- the rule that takes the candidates in turn, by the count of its calls, which goes round at 2^64
abbrev pub in_turn : Rule RuleState
in_turn = record { pick = λ state facts. calls_of state % length facts.candidates; next = λ state facts. counted ((calls_of state + 1) % 2 ^ 64) }
