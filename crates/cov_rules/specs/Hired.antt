-- The rule by kind as a merge rule, which picks the first candidate where the kind picks none.
use Rattle.std.specs.Prelude.{unwrap_or}
use Rattle.region_owners.specs.Owner.{Rule}
use Rattle.merge_rule.specs.RuleState.{RuleState}
use Rattle.cov_rules.specs.Kinds.{pick, next}

-- its state is what is fixed and what is kept, and only the latter changes
abbrev pub by_kind : Rule RuleState
by_kind = record { pick = λ state facts. unwrap_or (pick state.0 state.1 facts) 0; next = λ state facts. (state.0, next state.0 state.1 facts) }
