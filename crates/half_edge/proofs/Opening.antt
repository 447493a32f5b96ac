-- Whether the way straight down the ray is between a half-edge and the next.
use mathlib.Core.List.{List}
use Rattle.std.proofs.Common.{◌≡◌, sym, ◌∙◌, ap, subst, ℕ, not}
use Rattle.std.specs.Ordering.{is_lt, is_ge}
use Rattle.half_edge.proofs.Deciding.{ge-not_lt}
use Rattle.cov_types.specs.declared.seg.Seg.{Seg}
use Rattle.sector_laws.specs.Direction.{direction_cmp}
use Rattle.sector_laws.proofs.AtVertex.{at_vertex}
use Rattle.sector_laws.specs.Sector.{HalfEdge, twin, is_before_by_angle, IsHalfEdge, IsNext, IsNextNumber, IsPlanar}
use Rattle.sector_laws.proofs.Next.{one_next}
use Rattle.sector_laws.proofs.Numbers.{one_half_edge}
use Rattle.sector_laws.proofs.Sectors.{twin_leaves}

-- the test that the next does not come before the way back
pub opens : (edges : List Seg) → IsPlanar edges → (n m k : ℕ) (next back : HalfEdge) → IsNextNumber edges n m → IsHalfEdge edges m next
    → ((g : HalfEdge) → IsHalfEdge edges n g → IsHalfEdge edges k (twin g)) → IsHalfEdge edges k back
    → (f g : HalfEdge) → IsHalfEdge edges n f → IsNext edges f g → is_ge (direction_cmp next back) ≡ not (is_before_by_angle g (twin f))
opens edges planar n m k next back numbered at_next opposite at_back f g at_f follows =
    let from : numbered.from ≡ f = one_half_edge edges n numbered.from f numbered.from_is at_f in
    let to : numbered.to ≡ g = one_next edges planar f numbered.to g (subst (λ x. IsNext edges x numbered.to) from numbered.follows) follows in
    let first : next ≡ g = one_half_edge edges m next numbered.to at_next numbered.to_is ∙ to in
    let second : back ≡ twin f = one_half_edge edges k back (twin f) at_back (opposite f at_f) in
    let met = follows.leaves.from ∙ sym (twin_leaves edges planar f follows.among).from in
    ge-not_lt (direction_cmp next back) ∙ ap not ((λ i. is_lt (direction_cmp (first i) (second i))) ∙ sym (at_vertex g (twin f) met))
