-- The laws of half-edges and of the sectors between them.
use Rattle.std.specs.Prelude.{◌≡◌, ℕ, ◌+◌, ◌-◌, ◌*◌, ◌/◌, ◌%◌, ◌<◌, ◌==◌, ◌⊎◌, ◌↔◌, true, false, pos, ◌<ℤ◌, ◌≤ℤ◌, List, length, Contains, Some, slice_get}
use Rattle.cov_types.specs.declared.coord.Coord.{Coord}
use Rattle.cov_types.specs.declared.seg.Seg.{Seg}
use Rattle.plane.specs.Point.{Point}
use Rattle.plane.specs.Segment.{turn_of}
use Rattle.plane.specs.Joined.{Joined}
use Rattle.plane.specs.Region.{IsSide}
use Rattle.sector_laws.specs.Sector.{HalfEdge, target, left, twin, half_edges, IsHalfEdge, is_before_by_angle, is_in_sector, Leaves, IsNext, IsNextNumber, IsFan, AreDistinct, IsPlanar}

-- ---- round the region on the left

-- the side points on the left of a half-edge and of the next one are joined
abbrev pub NextJoinedLaw : Type 0
NextJoinedLaw = (edges : List Seg) → IsPlanar edges → (h g : HalfEdge) → IsNext edges h g → Joined edges (left h) (left g)

-- so are the side points of two sides whose half-edges follow one another
abbrev pub SidesJoinedLaw : Type 0
SidesJoinedLaw = (edges : List Seg) → IsPlanar edges → (n m : ℕ) → IsNextNumber edges n m → (p q : Point) → IsSide edges n p → IsSide edges m q → Joined edges p q

-- ---- each half-edge has one next, and is the next of one

-- each half-edge of the list has a next
abbrev pub SomeNextLaw : Type 0
SomeNextLaw = (edges : List Seg) → IsPlanar edges → (h : HalfEdge) → Contains edges h.edge → (g : HalfEdge) × IsNext edges h g

-- and one only
abbrev pub OneNextLaw : Type 0
OneNextLaw = (edges : List Seg) → IsPlanar edges → (h g k : HalfEdge) → IsNext edges h g → IsNext edges h k → g ≡ k

-- and it is the next of one only
abbrev pub NextOfOneLaw : Type 0
NextOfOneLaw = (edges : List Seg) → IsPlanar edges → (h k g : HalfEdge) → IsNext edges h g → IsNext edges k g → h ≡ k

-- by numbers: each has a next
abbrev pub SomeNextNumberLaw : Type 0
SomeNextNumberLaw = (edges : List Seg) → IsPlanar edges → (n : ℕ) → n < length (half_edges edges) → (m : ℕ) × IsNextNumber edges n m

-- and one only, where no edge stands twice in the list
abbrev pub OneNextNumberLaw : Type 0
OneNextNumberLaw = (edges : List Seg) → IsPlanar edges → AreDistinct edges → (n m k : ℕ) → IsNextNumber edges n m → IsNextNumber edges n k → m ≡ k

-- and it is the next of one only
abbrev pub NextOfOneNumberLaw : Type 0
NextOfOneNumberLaw = (edges : List Seg) → IsPlanar edges → AreDistinct edges → (n k m : ℕ) → IsNextNumber edges n m → IsNextNumber edges k m → n ≡ k

-- ---- the order by angle

-- of two half-edges that leave a vertex one comes first, or they are one
abbrev pub AngleTotalLaw : Type 0
AngleTotalLaw = (edges : List Seg) → IsPlanar edges → (v : Coord) (h g : HalfEdge) → Leaves edges v h → Leaves edges v g
    → (h ≡ g) ⊎ ((is_before_by_angle h g ≡ true) ⊎ (is_before_by_angle g h ≡ true))

-- and not both
abbrev pub AngleAsymmetricLaw : Type 0
AngleAsymmetricLaw = (edges : List Seg) → IsPlanar edges → (v : Coord) (h g : HalfEdge) → Leaves edges v h → Leaves edges v g
    → is_before_by_angle h g ≡ true → is_before_by_angle g h ≡ false

-- and what comes before one that comes before another comes before it
abbrev pub AngleTransitiveLaw : Type 0
AngleTransitiveLaw = (edges : List Seg) → IsPlanar edges → (v : Coord) (h g k : HalfEdge) → Leaves edges v h → Leaves edges v g → Leaves edges v k
    → is_before_by_angle h g ≡ true → is_before_by_angle g k ≡ true → is_before_by_angle h k ≡ true

-- ---- what is in the sector from g counter-clockwise to a, by turns alone

-- less than half a turn: k is on the left of g, and a on the left of k
abbrev pub NarrowSectorLaw : Type 0
NarrowSectorLaw = (edges : List Seg) → IsPlanar edges → (v : Coord) (g a k : HalfEdge) → Leaves edges v g → Leaves edges v a → Leaves edges v k
    → pos 0 <ℤ turn_of v (target g) (target a)
    → (is_in_sector g a k ≡ true) ↔ ((pos 0 <ℤ turn_of v (target g) (target k)) × (pos 0 <ℤ turn_of v (target k) (target a)))

-- more than half a turn: what is outside is not on the left of g, and a not on the left of it
abbrev pub WideSectorLaw : Type 0
WideSectorLaw = (edges : List Seg) → IsPlanar edges → (v : Coord) (g a k : HalfEdge) → Leaves edges v g → Leaves edges v a → Leaves edges v k
    → turn_of v (target g) (target a) <ℤ pos 0
    → (is_in_sector g a k ≡ false) ↔ ((turn_of v (target g) (target k) ≤ℤ pos 0) × (turn_of v (target k) (target a) ≤ℤ pos 0))

-- half a turn: k is on the left of g
abbrev pub StraightSectorLaw : Type 0
StraightSectorLaw = (edges : List Seg) → IsPlanar edges → (v : Coord) (g a k : HalfEdge) → Leaves edges v g → Leaves edges v a → Leaves edges v k
    → ¬ (g ≡ a) → turn_of v (target g) (target a) ≡ pos 0 → (is_in_sector g a k ≡ true) ↔ (pos 0 <ℤ turn_of v (target g) (target k))

-- the full turn: k is another one
abbrev pub FullSectorLaw : Type 0
FullSectorLaw = (edges : List Seg) → IsPlanar edges → (v : Coord) (g k : HalfEdge) → Leaves edges v g → Leaves edges v k → (is_in_sector g g k ≡ true) ↔ ¬ (k ≡ g)

-- ---- fans

-- a half-edge follows the twin of the one after it in the fan
abbrev pub FanLaw : Type 0
FanLaw = (edges : List Seg) → IsPlanar edges → (v : Coord) (fan : List HalfEdge) → IsFan edges v fan
    → (i : ℕ) (g a : HalfEdge) → slice_get fan i ≡ Some g → slice_get fan (i + 1) ≡ Some a → IsNext edges (twin a) g

-- and the last one follows the twin of the first
abbrev pub FanRoundLaw : Type 0
FanRoundLaw = (edges : List Seg) → IsPlanar edges → (v : Coord) (fan : List HalfEdge) → IsFan edges v fan
    → (g a : HalfEdge) → slice_get fan (length fan - 1) ≡ Some g → slice_get fan 0 ≡ Some a → IsNext edges (twin a) g

-- ---- numbers

-- the half-edge n is one of edge n / 2, forwards where n is even
abbrev pub NumberLaw : Type 0
NumberLaw = (edges : List Seg) (n : ℕ) (e : Seg) → slice_get edges (n / 2) ≡ Some e → IsHalfEdge edges n (record { edge = e; forwards = n % 2 == 0 })

-- its twin has the number beside it
abbrev pub TwinNumberLaw : Type 0
TwinNumberLaw = (edges : List Seg) (k : ℕ) (h : HalfEdge) → IsHalfEdge edges (2 * k) h → IsHalfEdge edges (2 * k + 1) (twin h)

-- its side has the same number
abbrev pub SideNumberLaw : Type 0
SideNumberLaw = (edges : List Seg) (n : ℕ) (h : HalfEdge) → IsHalfEdge edges n h → IsSide edges n (left h)

-- each half-edge of the list has a number, and one only where no edge stands twice
abbrev pub SomeNumberLaw : Type 0
SomeNumberLaw = (edges : List Seg) (h : HalfEdge) → Contains edges h.edge → (n : ℕ) × IsHalfEdge edges n h

-- and one number only, where no edge stands twice
abbrev pub OneNumberLaw : Type 0
OneNumberLaw = (edges : List Seg) → AreDistinct edges → (n m : ℕ) (h : HalfEdge) → IsHalfEdge edges n h → IsHalfEdge edges m h → n ≡ m
