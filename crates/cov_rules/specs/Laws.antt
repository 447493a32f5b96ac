-- What holds of rules by kind.
use Rattle.std.specs.Prelude.{◌<◌, List, length, ℤ, IfSome}
use Rattle.region_owners.specs.Facts.{RegionFacts}
use Rattle.cov_rules.specs.Kinds.{pick}

-- a pick is a place in the candidates
abbrev pub PlaceLaw : Type 0
PlaceLaw = (fixed kept : List ℤ) (facts : RegionFacts) → IfSome (pick fixed kept facts) (λ place. place < length facts.candidates)
