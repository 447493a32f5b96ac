-- The uses of a coverage have even ends and rise, so joined points are held by the same members.
use Rattle.std.proofs.Common.{◌≡◌, sym, subst, ℕ, List, [], ◌∷◌, length, map, All, lit<, append-nil}
use Rattle.std.proofs.lemmas.List.Elements.{All-contains, All-map, All-from_recursion}
use Rattle.cov_types.specs.declared.coord.Coord.{Coord}
use Rattle.cov_types.specs.declared.edge_use.EdgeUse.{EdgeUse}
use Rattle.cov_types.specs.declared.seg.Seg.{Seg}
use Rattle.cov_types.specs.Coverage.{AllInRange, IsMemberInRange, IsPolyInRange, IsRingInRange}
use Rattle.cov_types.specs.Range.{IsSegInRange}
use Rattle.cov_types.specs.Uses.{uses_of}
use Rattle.cov_types.proofs.AllUses.{uses-in_range}
use Rattle.cov_types.proofs.EvenEnds.{even-ends}
use Rattle.plane.specs.Point.{Point}
use Rattle.plane.specs.Parity.{member_holds}
use Rattle.plane.specs.Label.{label_at}
use Rattle.plane.specs.Joined.{Joined}
use Rattle.plane.proofs.Sweeps.{rises-in_range}
use Rattle.crossing_laws.specs.Crossing.{IsSwept, MemberHasEvenEnds, edges_of}
use Rattle.crossing_laws.specs.Winding.{ring_weights, winding}
use Rattle.crossing_laws.proofs.Lists.{contains-map}
use Rattle.crossing_laws.proofs.Sums.{member_holds-joined, label-joined, crossing_sum-joined}
use Rattle.crossing_laws.proofs.Rings.{ring_balanced, ring_edges}

-- edges in range rise
pub swept_in_range : (edges : List Seg) → All IsSegInRange edges → IsSwept edges
swept_in_range edges h = λ e i. rises-in_range e (All-contains IsSegInRange edges e h i)

-- the segments of a coverage in range rise
pub uses_swept : (members : List (List (List (List Coord)))) → AllInRange members → IsSwept (map (λ u. u.seg) (uses_of members))
uses_swept members h = swept_in_range (map (λ u. u.seg) (uses_of members)) (All-map IsSegInRange (λ (u : EdgeUse). u.seg) (uses_of members) (uses-in_range members h))

-- and each member of a coverage has even ends
pub uses_even : (members : List (List (List (List Coord)))) (member : ℕ) → MemberHasEvenEnds (uses_of members) member
uses_even members member = λ inside. even-ends members inside member

pub coverage_holds-joined : (members : List (List (List (List Coord)))) → AllInRange members → (p q : Point) → Joined (map (λ u. u.seg) (uses_of members)) p q
    → (member : ℕ) → member_holds (uses_of members) member p ≡ member_holds (uses_of members) member q
coverage_holds-joined members h p q j member =
    member_holds-joined (uses_of members) member (map (λ u. u.seg) (uses_of members)) (contains-map (λ (u : EdgeUse). u.seg) (uses_of members))
    (uses_swept members h) (uses_even members member) p q j

pub coverage_label-joined : (members : List (List (List (List Coord)))) → AllInRange members → (p q : Point) → Joined (map (λ u. u.seg) (uses_of members)) p q
    → label_at (uses_of members) (length members) p ≡ label_at (uses_of members) (length members) q
coverage_label-joined members h p q j =
    label-joined (uses_of members) (length members) (map (λ u. u.seg) (uses_of members)) (contains-map (λ (u : EdgeUse). u.seg) (uses_of members))
    (uses_swept members h) (even-ends members) p q j

-- ---- one ring

-- a ring as the coverage of one member with one polygon of it
abbrev alone : List Coord → List (List (List (List Coord)))
alone points = ((points ∷ []) ∷ []) ∷ []

alone_in_range : (points : List Coord) → IsRingInRange points → AllInRange (alone points)
alone_in_range points h = record {
  coords =
      All-from_recursion IsMemberInRange (alone points)
      (All-from_recursion IsPolyInRange ((points ∷ []) ∷ []) (All-from_recursion IsRingInRange (points ∷ []) (h, tt), tt), tt);
  count = lit< tt;
}

alone_edges : (points : List Coord) → map (λ (u : EdgeUse). u.seg) (uses_of (alone points)) ≡ edges_of (ring_weights points)
alone_edges points = simp append-nil (sym (ring_edges 0 points))

-- the sides of a ring in range rise
pub ring_swept : (points : List Coord) → IsRingInRange points → IsSwept (edges_of (ring_weights points))
ring_swept points h = subst IsSwept (alone_edges points) (uses_swept (alone points) (alone_in_range points h))

-- so it winds as often round two joined points
pub winding-joined : (points : List Coord) → IsRingInRange points → (p q : Point) → Joined (edges_of (ring_weights points)) p q → winding points p ≡ winding points q
winding-joined points h p q j = crossing_sum-joined (ring_weights points) (ring_swept points h) (ring_balanced points) p q j
