-- Even-odd containment, and the overlay label of a point.
use Rattle.std.specs.Prelude.{ℕ, ◌%◌, Bool, ◌&&◌, ◌==◌, List, count_by}
use Rattle.cov_types.specs.declared.seg.Seg.{Seg}
use Rattle.cov_types.specs.declared.edge_use.EdgeUse.{EdgeUse}
use Rattle.plane.specs.Point.{Point}
use Rattle.plane.specs.Ray.{is_over}

-- a list of edges holds p where an odd number of its entries is over p
abbrev pub holds : List Seg → Point → Bool
holds edges p = count_by (λ e. is_over e p) edges % 2 == 1

-- a member holds p where the list of its own segments does
abbrev pub member_holds : List EdgeUse → ℕ → Point → Bool
member_holds uses member p = count_by (λ u. (u.member == member) && is_over u.seg p) uses % 2 == 1
