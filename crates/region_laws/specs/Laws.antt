-- The laws that a walk round regions stands on.
use Rattle.std.specs.Prelude.{◌≡◌, ◌⊎◌, ℕ, ◌≤◌, Bool, List, Contains}
use Rattle.cov_types.specs.declared.coord.Coord.{Coord}
use Rattle.cov_types.specs.declared.seg.Seg.{Seg}
use Rattle.plane.specs.Point.{Point, at_coord}
use Rattle.plane.specs.Segment.{upper}
use Rattle.plane.specs.Joined.{IsOff, Joined}
use Rattle.plane.specs.Region.{IsSide, IsJoinedSide, IsRegionOf, IsOuter, AreRegions}
use Rattle.sector_laws.specs.Sector.{HalfEdge, left, IsNext, AreDistinct, IsPlanar}
use Rattle.region_laws.specs.Below.{IsNearestBelow, HasNoneBelow}
use Rattle.crossing_laws.specs.Crossing.{IsBalanced}
use Rattle.region_laws.specs.Weights.{weigh_sides}
use Rattle.region_laws.specs.Linked.{LeavesOverRay, IsLinkOut, IsLinked, IsKept, IsWalk}
use Rattle.region_laws.specs.Crossed.{IsCrossed}

-- ---- the edge below

-- a point off the edges is joined with the upper side point of the nearest edge below it
abbrev pub BelowLaw : Type 0
BelowLaw = (edges : List Seg) → IsPlanar edges → (p : Point) → IsOff edges p → (e : Seg) → IsNearestBelow edges p e → Joined edges p (upper e)

-- and is outer where no edge is below it
abbrev pub NoneBelowLaw : Type 0
NoneBelowLaw = (edges : List Seg) → IsPlanar edges → (p : Point) → IsOff edges p → HasNoneBelow edges p → IsOuter edges p

-- each point has a nearest edge below it, or none below it
abbrev pub NearestOrNoneLaw : Type 0
NearestOrNoneLaw = (edges : List Seg) → IsPlanar edges → (p : Point) → ((e : Seg) × IsNearestBelow edges p e) ⊎ HasNoneBelow edges p

-- ---- links

-- the side on the left of a half-edge that leaves v over the ray is joined with the upper side of the nearest edge below v
abbrev pub LinkDownLaw : Type 0
LinkDownLaw = (edges : List Seg) → IsPlanar edges → (v : Coord) (g : HalfEdge) → LeavesOverRay edges v g → (e : Seg) → IsNearestBelow edges (at_coord v) e → Joined edges (left g) (upper e)

-- and is outer where no edge is below v
abbrev pub LinkOutLaw : Type 0
LinkOutLaw = (edges : List Seg) → IsPlanar edges → (v : Coord) (g : HalfEdge) → LeavesOverRay edges v g → HasNoneBelow edges (at_coord v) → IsOuter edges (left g)

-- so linked sides have joined side points
abbrev pub LinkedJoinedLaw : Type 0
LinkedJoinedLaw = (edges : List Seg) → IsPlanar edges → (n m : ℕ) → IsLinked edges n m → (p q : Point) → IsSide edges n p → IsSide edges m q → Joined edges p q

-- and a side from which a link leads past the range is outer
abbrev pub OutSideLaw : Type 0
OutSideLaw = (edges : List Seg) → IsPlanar edges → (n : ℕ) → IsLinkOut edges n → (p : Point) → IsSide edges n p → IsOuter edges p

-- ---- tests that the next half-edge keeps

-- what the lower sides weigh more than the upper ones is balanced, for any test on sides that next keeps
abbrev pub BalancedSidesLaw : Type 0
BalancedSidesLaw = (edges : List Seg) → IsPlanar edges → AreDistinct edges → (passes : HalfEdge → Bool) → ((h g : HalfEdge) → IsNext edges h g → passes h ≡ passes g)
    → IsBalanced (weigh_sides passes edges)

-- a test that next and the links keep is the same on half-edges with joined points on their left
abbrev pub KeptLaw : Type 0
KeptLaw = (edges : List Seg) → IsPlanar edges → AreDistinct edges → (passes : HalfEdge → Bool) → IsKept edges passes
    → (h g : HalfEdge) → Contains edges h.edge → Contains edges g.edge → Joined edges (left h) (left g) → passes h ≡ passes g

-- so sides with joined side points have one number, for any numbers that links keep
abbrev pub JoinedNumberLaw : Type 0
JoinedNumberLaw = (edges : List Seg) → IsPlanar edges → AreDistinct edges → (number : ℕ → ℕ) → ((n m : ℕ) → IsLinked edges n m → number n ≡ number m)
    → (n m : ℕ) (p q : Point) → IsSide edges n p → IsSide edges m q → Joined edges p q → number n ≡ number m

-- ---- tests that a crossing keeps

-- each region is reached from each other one over edges: a test that is the same across each edge and at joined points is the same on all sides
abbrev pub CrossedLaw : Type 0
CrossedLaw = (edges : List Seg) → IsPlanar edges → (passes : HalfEdge → Bool) → IsCrossed edges passes
    → (h g : HalfEdge) → Contains edges h.edge → Contains edges g.edge → passes h ≡ passes g

-- ---- the numbers of the regions

-- there is a list that gives each side its region, the least side that it is joined with
abbrev pub RegionsExistLaw : Type 0
RegionsExistLaw = (edges : List Seg) → IsPlanar edges → AreDistinct edges → (numbers : List ℕ) × AreRegions edges numbers

-- and only one
abbrev pub OneNumberingLaw : Type 0
OneNumberingLaw = (edges : List Seg) (numbers others : List ℕ) → AreRegions edges numbers → AreRegions edges others → numbers ≡ others

-- the numbers of the sides are those of their regions
abbrev pub AreSideRegions : List Seg → (ℕ → ℕ) → Type 0
AreSideRegions edges number = (n : ℕ) (p : Point) → IsSide edges n p → IsRegionOf edges p (number n)

-- the number of each side is that of a side that is no later and is joined with it
abbrev pub AreNoLater : List Seg → (ℕ → ℕ) → Type 0
AreNoLater edges number = (n : ℕ) (p : Point) → IsSide edges n p → (number n ≤ n) × IsJoinedSide edges p (number n)

-- numbers that links keep are those of the regions, where each is that of a joined side that is no later
abbrev pub WalkLaw : Type 0
WalkLaw = (edges : List Seg) → IsPlanar edges → AreDistinct edges → (number : ℕ → ℕ) → ((n m : ℕ) → IsLinked edges n m → number n ≡ number m)
    → AreNoLater edges number → AreSideRegions edges number

-- so are the numbers of a walk, which links down only where no earlier side is
abbrev pub FewerLinksLaw : Type 0
FewerLinksLaw = (edges : List Seg) → IsPlanar edges → AreDistinct edges → (number : ℕ → ℕ) (outer : ℕ) → IsWalk edges number outer
    → AreNoLater edges number → AreSideRegions edges number

-- and on such a walk each side with an outer side point has the number of the outer region
abbrev pub OuterNumberLaw : Type 0
OuterNumberLaw = (edges : List Seg) → IsPlanar edges → AreDistinct edges → (number : ℕ → ℕ) (outer : ℕ) → IsWalk edges number outer
    → (n : ℕ) (p : Point) → IsSide edges n p → IsOuter edges p → number n ≡ outer
