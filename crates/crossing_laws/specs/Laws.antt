-- The laws of joined points and of crossing sums.
use Rattle.std.specs.Prelude.{◌≡◌, ◌↔◌, ℕ, ◌%◌, List, length, map, Contains, ◌+ℤ◌, unsigned_abs}
use Rattle.cov_types.specs.declared.coord.Coord.{Coord}
use Rattle.cov_types.specs.declared.edge_use.EdgeUse.{EdgeUse}
use Rattle.cov_types.specs.declared.seg.Seg.{Seg}
use Rattle.cov_types.specs.Coverage.{AllInRange, IsRingInRange}
use Rattle.cov_types.specs.Range.{IsSegInRange}
use Rattle.cov_types.specs.Uses.{uses_of, HasEvenEnds}
use Rattle.plane.specs.Point.{Point, at_coord, SamePoint}
use Rattle.plane.specs.Segment.{side, IsEnd, upper, lower}
use Rattle.plane.specs.Parity.{holds, member_holds}
use Rattle.plane.specs.Label.{label_at}
use Rattle.plane.specs.Region.{IsRegionOf}
use Rattle.plane.specs.Joined.{IsOff, IsClear, Joined}
use Rattle.crossing_laws.specs.Across.{AllMeetInEnds, times, member_times, weight_of}
use Rattle.crossing_laws.specs.Crossing.{WeightedEdge, edges_of, crossing_sum, IsBalanced, IsSwept, HaveEvenEnds, MemberHasEvenEnds}
use Rattle.crossing_laws.specs.Winding.{ring_weights, coverage_weights, winding}
use Rattle.crossing_laws.specs.Meeting.{side_from, IsOpposite, IsStrictlyOpposite, AreZero, IsMeeting}

-- ---- joined is an equivalence on the points off the edges

-- a point off the edges is joined with itself
abbrev pub ReflexiveLaw : Type 0
ReflexiveLaw = (edges : List Seg) (p : Point) → IsOff edges p → Joined edges p p

-- a way back is a way
abbrev pub SymmetricLaw : Type 0
SymmetricLaw = (edges : List Seg) (p q : Point) → Joined edges p q → Joined edges q p

-- a way and a way on are a way
abbrev pub TransitiveLaw : Type 0
TransitiveLaw = (edges : List Seg) (p q r : Point) → Joined edges p q → Joined edges q r → Joined edges p r

-- only points off the edges are joined
abbrev pub OffLaw : Type 0
OffLaw = (edges : List Seg) (p q : Point) → Joined edges p q → IsOff edges p × IsOff edges q

-- joined does not depend on the fraction that stands for a point
abbrev pub SameEndLaw : Type 0
SameEndLaw = (edges : List Seg) (p p' q : Point) → SamePoint p p' → Joined edges p q → Joined edges p' q

-- and fewer edges leave joined points joined
abbrev pub FewerEdgesLaw : Type 0
FewerEdgesLaw = (edges fewer : List Seg) → ((e : Seg) → Contains fewer e → Contains edges e) → (p q : Point) → Joined edges p q → Joined fewer p q

-- ---- joined points have one region

-- joined points have one region
abbrev pub RegionLaw : Type 0
RegionLaw = (edges : List Seg) (p q : Point) (r : ℕ) → Joined edges p q → IsRegionOf edges p r → IsRegionOf edges q r

-- a point has one region at most
abbrev pub OneRegionLaw : Type 0
OneRegionLaw = (edges : List Seg) (p : Point) (r s : ℕ) → IsRegionOf edges p r → IsRegionOf edges p s → r ≡ s

-- points of one region are joined
abbrev pub SameRegionLaw : Type 0
SameRegionLaw = (edges : List Seg) (p q : Point) (r : ℕ) → IsRegionOf edges p r → IsRegionOf edges q r → Joined edges p q

-- ---- opposite sides give a common point

-- p and q on opposite sides of a segment whose ends are on opposite sides of the way from p to q, the four sides not all 0:
-- the way meets the segment, at the mean of p and q with the sizes of the sides as weights
abbrev pub OppositeSidesLaw : Type 0
OppositeSidesLaw = (s : Seg) (p q : Point) → IsOpposite (side s p) (side s q) → IsOpposite (side_from p q s.lo) (side_from p q s.hi)
    → ¬ AreZero (side s p) (side s q) (side_from p q s.lo) (side_from p q s.hi)
    → (r : Point) × IsMeeting s p q (unsigned_abs (side s q)) (unsigned_abs (side s p)) r

-- two segments, each with its ends on opposite sides of the other: they have a common point inside both
abbrev pub CrossLaw : Type 0
CrossLaw = (s t : Seg) → IsStrictlyOpposite (side s (at_coord t.lo)) (side s (at_coord t.hi)) → IsStrictlyOpposite (side t (at_coord s.lo)) (side t (at_coord s.hi))
    → (r : Point) × IsMeeting s (at_coord t.lo) (at_coord t.hi) (unsigned_abs (side s (at_coord t.hi))) (unsigned_abs (side s (at_coord t.lo))) r
    × ¬ IsEnd s r × ¬ IsEnd t r

-- ---- the law of crossing sums

-- where the weights are balanced, the edges over two joined points add up to one sum
abbrev pub CrossingSumLaw : Type 0
CrossingSumLaw = (weighted : List WeightedEdge) → IsSwept (edges_of weighted) → IsBalanced weighted
    → (p q : Point) → Joined (edges_of weighted) p q → crossing_sum weighted p ≡ crossing_sum weighted q

-- edges with even ends hold joined points alike
abbrev pub ParityLaw : Type 0
ParityLaw = (edges : List Seg) → IsSwept edges → HaveEvenEnds edges → (p q : Point) → Joined edges p q → holds edges p ≡ holds edges q

-- a member whose uses have even ends holds points alike that are joined round all the edges
abbrev pub MemberLaw : Type 0
MemberLaw = (uses : List EdgeUse) (member : ℕ) (edges : List Seg) → ((u : EdgeUse) → Contains uses u → Contains edges u.seg) → IsSwept edges
    → MemberHasEvenEnds uses member → (p q : Point) → Joined edges p q → member_holds uses member p ≡ member_holds uses member q

-- so the points have one label where all members' uses have even ends
abbrev pub LabelLaw : Type 0
LabelLaw = (uses : List EdgeUse) (members : ℕ) (edges : List Seg) → ((u : EdgeUse) → Contains uses u → Contains edges u.seg) → IsSwept edges
    → HasEvenEnds uses → (p q : Point) → Joined edges p q → label_at uses members p ≡ label_at uses members q

-- the members of a coverage in range hold points alike that are joined round its segments
abbrev pub CoverageLaw : Type 0
CoverageLaw = (members : List (List (List (List Coord)))) → AllInRange members → (p q : Point) → Joined (map (λ u. u.seg) (uses_of members)) p q
    → (member : ℕ) → member_holds (uses_of members) member p ≡ member_holds (uses_of members) member q

-- so the points have one label
abbrev pub CoverageLabelLaw : Type 0
CoverageLabelLaw = (members : List (List (List (List Coord)))) → AllInRange members → (p q : Point) → Joined (map (λ u. u.seg) (uses_of members)) p q
    → label_at (uses_of members) (length members) p ≡ label_at (uses_of members) (length members) q

-- ---- closed rings

-- the sides of a closed ring are balanced
abbrev pub RingLaw : Type 0
RingLaw = (points : List Coord) → IsBalanced (ring_weights points)

-- so a ring in range winds as often round two joined points
abbrev pub WindingLaw : Type 0
WindingLaw = (points : List Coord) → IsRingInRange points → (p q : Point) → Joined (edges_of (ring_weights points)) p q → winding points p ≡ winding points q

-- the sides of a coverage are balanced, and they are the segments that it uses
pub record AreSidesBalanced (members : List (List (List (List Coord)))) : Type 0 where
  pub balanced : IsBalanced (coverage_weights members)
  pub used : edges_of (coverage_weights members) ≡ map (λ u. u.seg) (uses_of members)

-- and this is so of every coverage
abbrev pub CoverageSidesLaw : Type 0
CoverageSidesLaw = (members : List (List (List (List Coord)))) → AreSidesBalanced members

-- ---- across an edge

-- where the edges of a list meet e in ends alone, and e is none of them, none comes between the side points of e
abbrev pub BesideLaw : Type 0
BesideLaw = (e : Seg) (edges : List Seg) → IsSegInRange e → AllMeetInEnds e edges → ¬ Contains edges e → IsClear edges (lower e) (upper e)

-- where they are e or meet e in ends alone, the side points of e are held alike exactly where e occurs an even number of times
abbrev pub AcrossLaw : Type 0
AcrossLaw = (e : Seg) (edges : List Seg) → IsSegInRange e → AllMeetInEnds e edges
    → (holds edges (lower e) ≡ holds edges (upper e)) ↔ (times e edges % 2 ≡ 0)

-- and by a member, exactly where it uses e an even number of times
abbrev pub MemberAcrossLaw : Type 0
MemberAcrossLaw = (e : Seg) (uses : List EdgeUse) (member : ℕ) → IsSegInRange e → AllMeetInEnds e (map (λ u. u.seg) uses)
    → (member_holds uses member (lower e) ≡ member_holds uses member (upper e)) ↔ (member_times e uses member % 2 ≡ 0)

-- the crossing sum below e is that above it and the weights of e
abbrev pub SumAcrossLaw : Type 0
SumAcrossLaw = (e : Seg) (weighted : List WeightedEdge) → IsSegInRange e → AllMeetInEnds e (edges_of weighted)
    → crossing_sum weighted (lower e) ≡ crossing_sum weighted (upper e) +ℤ weight_of e weighted
