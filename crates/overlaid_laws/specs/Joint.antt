-- The uses of two coverages as one coverage: the members of the first and then those of the second.
use Rattle.std.specs.Prelude.{ℕ, ◌+◌, List, map}
use Rattle.cov_types.specs.declared.edge_use.EdgeUse.{EdgeUse}

-- the uses with each member numbered n higher
abbrev pub shifted : ℕ → List EdgeUse → List EdgeUse
shifted n uses = map (λ u. record { member = n + u.member; seg = u.seg }) uses
