-- Simplifying after Visvalingam and Whyatt (1993): the greedy run over the lines of a coverage.
use Rattle.std.specs.Prelude.{◌≡◌, ◌≢◌, ℕ, ◌+◌, ◌*◌, ◌<◌, ◌≤◌, Bool, true, false, not, cond, IsTrue, List, [], ◌∷◌, map, reverse, take, drop, filter, flat_map, Contains, Option, Some, option_and_then, slice_get, ⊤, pos, ◌+ℤ◌, ◌*ℤ◌, unsigned_abs}
use Rattle.std.specs.List.{list_any, list_all}
use Rattle.std.specs.declared.cmp.Ordering.{Ordering}
use Rattle.std.specs.Ordering.{ordering_then, nat_cmp, is_le}
use Rattle.cov_types.specs.declared.coord.Coord.{Coord}
use Rattle.cov_types.specs.declared.edge_use.EdgeUse.{EdgeUse}
use Rattle.cov_types.specs.declared.seg.Seg.{Seg}
use Rattle.cov_types.specs.Coord.{is_same_coord}
use Rattle.cov_types.specs.Coverage.{Members}
use Rattle.cov_types.specs.Seg.{IsSegBetween}
use Rattle.cov_types.specs.Uses.{uses_of}
use Rattle.plane.specs.Segment.{turn_of}
use Rattle.plane.specs.Snapping.{chain_edges}
use Rattle.arrangement.specs.declared.odd_use.OddUse.{OddUse}
use Rattle.arrangement.specs.Noding.{AreEdges}
use Rattle.greedy_run.specs.Lines.{steps, AreLines}

-- ---- states

-- a state is a list of removed points: whether p is one of them
abbrev pub is_removed : List Coord → Coord → Bool
is_removed removed p = list_any (is_same_coord p) removed

-- what is left of a line, or of any points, in the state
abbrev pub current : List Coord → List Coord → List Coord
current removed points = filter (λ p. not (is_removed removed p)) points

-- the current vertices
abbrev pub current_points : List (List Coord) → List Coord → List Coord
current_points lines removed = flat_map (current removed) lines

-- the current segments
abbrev pub current_edges : List (List Coord) → List Coord → List Seg
current_edges lines removed = flat_map (λ points. chain_edges (current removed points)) lines

-- ---- neighbours

-- k is the last place before this one whose point is not removed, and a is the point there
pub record IsLastBefore (removed points : List Coord) (place k : ℕ) (a : Coord) : Type 0 where
  pub before : k < place
  pub at : slice_get points k ≡ Some a
  pub there : is_removed removed a ≡ false
  pub between : (j : ℕ) (p : Coord) → k < j → j < place → slice_get points j ≡ Some p → is_removed removed p ≡ true

-- k is the first place after this one whose point is not removed, and c is the point there
pub record IsFirstAfter (removed points : List Coord) (place k : ℕ) (c : Coord) : Type 0 where
  pub after : place < k
  pub at : slice_get points k ≡ Some c
  pub there : is_removed removed c ≡ false
  pub between : (j : ℕ) (p : Coord) → place < j → j < k → slice_get points j ≡ Some p → is_removed removed p ≡ true

-- the point before this place in what is left of a line
abbrev pub point_before : List Coord → List Coord → ℕ → Option Coord
point_before removed points place = slice_get (reverse (current removed (take place points))) 0

-- the point after it
abbrev pub point_after : List Coord → List Coord → ℕ → Option Coord
point_after removed points place = slice_get (current removed (drop (place + 1) points)) 0

-- ---- removable points

-- what is simplified: the uses of a coverage, its edges and their lines, the tolerance, and whether only inner lines lose points
pub record Simplification : Type 0 where
  pub uses : List EdgeUse
  pub edges : List Seg
  pub lines : List (List Coord)
  pub are_lines : AreLines edges lines
  pub tolerance : ℕ
  pub inner_only : Bool

-- a place in a line with the doubled area of the triangle there
pub record Spot : Type 0 where
  pub size : ℕ
  pub line : ℕ
  pub place : ℕ

-- the point at a spot
abbrev pub point_at : List (List Coord) → Spot → Option Coord
point_at lines spot = option_and_then (λ points. slice_get points spot.place) (slice_get lines spot.line)

-- spots are ordered by their triangles, then by line, then by place in the line before any removal
abbrev pub spot_cmp : Spot → Spot → Ordering
spot_cmp s t = ordering_then (nat_cmp s.size t.size) (ordering_then (nat_cmp s.line t.line) (nat_cmp s.place t.place))

-- three points
pub record Triangle : Type 0 where
  pub a : Coord
  pub b : Coord
  pub c : Coord

-- p is in the closed triangle: a mean of the three with whole weights that are not all 0
pub record IsInTriangle (t : Triangle) (p : Coord) : Type 0 where
  pub first : ℕ
  pub second : ℕ
  pub third : ℕ
  pub weighted : 1 ≤ first + second + third
  pub x : p.x *ℤ pos (first + second + third) ≡ (pos first *ℤ t.a.x) +ℤ (pos second *ℤ t.b.x) +ℤ (pos third *ℤ t.c.x)
  pub y : p.y *ℤ pos (first + second + third) ≡ (pos first *ℤ t.a.y) +ℤ (pos second *ℤ t.b.y) +ℤ (pos third *ℤ t.c.y)

-- the point at the spot is not removed, and the triangle has it between its neighbours that are not removed
pub record IsTriangleAt (lines : List (List Coord)) (removed : List Coord) (spot : Spot) (t : Triangle) : Type 0 where
  pub points : List Coord
  pub line : slice_get lines spot.line ≡ Some points
  pub here : point_at lines spot ≡ Some t.b
  pub there : is_removed removed t.b ≡ false
  pub from : ℕ
  pub before : IsLastBefore removed points spot.place from t.a
  pub to : ℕ
  pub after : IsFirstAfter removed points spot.place to t.c

-- two members have each segment of the line
pub record IsInner (uses : List EdgeUse) (points : List Coord) : Type 0 where
  pub one : ℕ
  pub other : ℕ
  pub different : one < other
  pub of_one : (e : Seg) → Contains (chain_edges points) e → Contains uses (record { member = one; seg = e })
  pub of_other : (e : Seg) → Contains (chain_edges points) e → Contains uses (record { member = other; seg = e })

-- the point at the spot can be removed: its triangle is small, and nothing else that is left is in the way
pub record IsRemovable (s : Simplification) (removed : List Coord) (spot : Spot) : Type 0 where
  pub t : Triangle
  pub triangle : IsTriangleAt s.lines removed spot t
  pub sized : unsigned_abs (turn_of t.a t.b t.c) ≡ spot.size
  pub small : spot.size ≤ 2 * (s.tolerance * s.tolerance)
  pub free : (p : Coord) → Contains (current_points s.lines removed) p → p ≢ t.a → p ≢ t.b → p ≢ t.c → ¬ IsInTriangle t p
  pub open_side : (e : Seg) → Contains (current_edges s.lines removed) e → ¬ IsSegBetween t.a t.c e
  pub inner : s.inner_only ≡ true → IsInner s.uses triangle.points

-- ---- the run

-- b is at the least removable spot of the state, so it is removed next
pub record IsNextPoint (s : Simplification) (removed : List Coord) (b : Coord) : Type 0 where
  pub spot : Spot
  pub removable : IsRemovable s removed spot
  pub least : (other : Spot) → IsRemovable s removed other → IsTrue (is_le (spot_cmp spot other))
  pub is : point_at s.lines spot ≡ Some b

-- the run comes to the state, whose first point was removed last
abbrev pub IsRunState : Simplification → List Coord → Type 0
IsRunState s [] = ⊤
IsRunState s (b ∷ removed) = IsRunState s removed × IsNextPoint s removed b

-- the run ends in the state, where no point is removable
pub record IsFinalState (s : Simplification) (removed : List Coord) : Type 0 where
  pub run : IsRunState s removed
  pub done : (spot : Spot) → ¬ IsRemovable s removed spot

-- ---- the coverage of a state

-- the points of the ring are all equal
abbrev pub is_one_point : List Coord → Bool
is_one_point points = list_all (λ step. is_same_coord step.0 step.1) (steps points)

-- a ring without the removed points; one whose points are all equal stays as it is
abbrev pub ring_without : List Coord → List Coord → List Coord
ring_without removed points = cond (is_one_point points) points (current removed points)

-- the members of a coverage without the removed points
abbrev pub coverage_without : List Coord → Members → Members
coverage_without removed members = map (λ polys. map (λ rings. map (ring_without removed) rings) polys) members

-- s is to simplify the coverage so
pub record IsSimplificationOf (members : Members) (tolerance : ℕ) (inner_only : Bool) (s : Simplification) : Type 0 where
  pub by_uses : s.uses ≡ uses_of members
  pub odd : List OddUse
  pub are_edges : AreEdges (uses_of members) s.edges odd
  pub by_tolerance : s.tolerance ≡ tolerance
  pub by_flag : s.inner_only ≡ inner_only

-- out is the coverage, simplified: that of the state in which the run over its lines ends
pub record IsSimplified (members : Members) (tolerance : ℕ) (inner_only : Bool) (out : Members) : Type 0 where
  pub s : Simplification
  pub of : IsSimplificationOf members tolerance inner_only s
  pub removed : List Coord
  pub final : IsFinalState s removed
  pub without : out ≡ coverage_without removed members

-- nothing is removable from the coverage: no point of its own lines
pub record IsExhausted (members : Members) (tolerance : ℕ) (inner_only : Bool) : Type 0 where
  pub s : Simplification
  pub of : IsSimplificationOf members tolerance inner_only s
  pub done : (spot : Spot) → ¬ IsRemovable s [] spot
