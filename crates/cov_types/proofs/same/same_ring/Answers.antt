use Rattle.std.proofs.lemmas.Slice.Eq.{slice_eq-Decides}
use Rattle.cov_types.proofs.Equal.{Decides-same_coords, Decides-along}
use Rattle.cov_types.proofs.same.same_ring.Goals as goal

pub returns : goal.returns
returns c =
    let a = c.a.inside.points.items in
    let b = c.b.inside.points.items in
    Decides-along a b _ _ _ c.a.view_is c.b.view_is (slice_eq-Decides Decides-same_coords a b c.eq.result c.eq.ensures)
