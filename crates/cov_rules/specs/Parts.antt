-- The parts of a chain as what is fixed and what is kept.
use Rattle.std.specs.Prelude.{◌∷◌, [], List, map, ℤ, pos}
use Rattle.merge_rule.specs.RuleState.{RuleState}
use Rattle.cov_rules.specs.declared.part.Part.{Part}
use Rattle.cov_rules.specs.declared.part.Part.TheVariants.{Even, First, Clear}
use Rattle.cov_rules.specs.Chain.{fixed_by, kept_by}

-- what of the part is fixed and what it keeps
abbrev pub state_of : Part → RuleState
state_of (Even kept) = (pos 1 ∷ [], kept)
state_of (First order) = (pos 2 ∷ map pos order, [])
state_of (Clear rule) = (pos 3 ∷ [], [])

-- what of a chain of these parts is fixed
abbrev pub chain_fixed : List Part → List ℤ
chain_fixed parts = fixed_by (map state_of parts)

-- what it keeps
abbrev pub chain_kept : List Part → List ℤ
chain_kept parts = kept_by (map state_of parts)
