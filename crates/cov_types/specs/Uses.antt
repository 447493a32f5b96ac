-- The segments that a coverage uses, and their ends in a set of points.
use Rattle.std.specs.Prelude.{ℕ, ◌+◌, ◌%◌, ◌==◌, ◌≡◌, Bool, true, false, cond, List, ◌++◌, take, drop, map, zip, flat_map, sum_by, Option, Some, None, option_to_list, refl}
use Rattle.std.specs.List.{enumerate_from}
use Rattle.cov_types.specs.Coord.{is_before}
use Rattle.cov_types.specs.declared.coord.Coord.{Coord}
use Rattle.cov_types.specs.declared.edge_use.EdgeUse.{EdgeUse}
use Rattle.cov_types.specs.declared.seg.Seg.{Seg}

-- the sides of a ring: each point with the next, the last with the first
abbrev pub sides : List Coord → List (Coord × Coord)
sides points = zip points (drop 1 points ++ take 1 points)

-- the segment from a to b where the test of their order is true, and otherwise other
abbrev pub seg_if : (a b : Coord) → (t : Bool) → is_before a b ≡ t → Option Seg → Option Seg
seg_if a b true ordered other = Some (record { lo = a; hi = b; ordered = ordered })
seg_if a b false ordered other = other

-- the segment between two points, its lesser end first; none where they are one point
abbrev pub seg_between : Coord → Coord → Option Seg
seg_between a b = seg_if a b (is_before a b) refl (seg_if b a (is_before b a) refl None)

-- the use that a member makes of the segment between the ends of a side
abbrev pub side_uses : ℕ → Coord × Coord → List EdgeUse
side_uses member side = map (λ s. record { member = member; seg = s }) (option_to_list (seg_between side.0 side.1))

-- the uses of a member's ring, in the order of its points, the closing side last
abbrev pub ring_uses : ℕ → List Coord → List EdgeUse
ring_uses member points = flat_map (side_uses member) (sides points)

-- the uses of a member's polygon, in the order of its rings
abbrev pub poly_uses : ℕ → List (List Coord) → List EdgeUse
poly_uses member rings = flat_map (ring_uses member) rings

-- the uses of a member that stands beside its number, in the order of its polygons
abbrev pub member_uses : ℕ × List (List (List Coord)) → List EdgeUse
member_uses member = flat_map (poly_uses member.0) member.1

-- the uses of a coverage, whose members are numbered from 0
abbrev pub uses_of : List (List (List (List Coord))) → List EdgeUse
uses_of members = flat_map member_uses (enumerate_from 0 members)

-- how many ends of the segment pass the test
abbrev pub ends_inside : (Coord → Bool) → Seg → ℕ
ends_inside inside s = cond (inside s.lo) 1 0 + cond (inside s.hi) 1 0

-- how many ends of the member's segments in the list pass the test
abbrev pub ends_in : (Coord → Bool) → ℕ → List EdgeUse → ℕ
ends_in inside member uses = sum_by (λ u. cond (u.member == member) (ends_inside inside u.seg) 0) uses

-- of any set of points, each member has an even number of segment ends in it
abbrev pub HasEvenEnds : List EdgeUse → Type 0
HasEvenEnds uses = (inside : Coord → Bool) (member : ℕ) → ends_in inside member uses % 2 ≡ 0
