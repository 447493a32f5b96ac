-- Half-edges: directed edges that leave a vertex, their order by angle, and the sector between two of them.
use Rattle.std.specs.Prelude.{◌≡◌, ◌↔◌, ℕ, Bool, true, false, cond, not, ◌&&◌, ◌||◌, int_lt, pos, List, [], ◌∷◌, flat_map, Some, slice_get, Contains, All, AllPairs}
use Rattle.cov_types.specs.declared.coord.Coord.{Coord}
use Rattle.cov_types.specs.declared.seg.Seg.{Seg}
use Rattle.cov_types.specs.Range.{IsSegInRange}
use Rattle.plane.specs.Noded.{IsNodedFully}
use Rattle.plane.specs.Point.{Point}
use Rattle.plane.specs.Segment.{turn_of, upper, lower}

-- an edge with a direction: forwards from lo to hi, or back
pub record HalfEdge : Type 0 where
  pub edge : Seg
  pub forwards : Bool

-- the vertex where it begins
abbrev pub origin : HalfEdge → Coord
origin h = cond h.forwards h.edge.lo h.edge.hi

-- the vertex where it ends
abbrev pub target : HalfEdge → Coord
target h = cond h.forwards h.edge.hi h.edge.lo

-- the side point on its left
abbrev pub left : HalfEdge → Point
left h = cond h.forwards (upper h.edge) (lower h.edge)

-- the same edge in the other direction
abbrev pub twin : HalfEdge → HalfEdge
twin h = record { edge = h.edge; forwards = not h.forwards }

-- the half-edges of the edges: half-edge 2k runs along edge k from lo to hi, half-edge 2k + 1 back
abbrev pub half_edges : List Seg → List HalfEdge
half_edges edges = flat_map (λ e. record { edge = e; forwards = true } ∷ record { edge = e; forwards = false } ∷ []) edges

-- n is the number of the half-edge h
abbrev pub IsHalfEdge : List Seg → ℕ → HalfEdge → Type 0
IsHalfEdge edges n h = slice_get (half_edges edges) n ≡ Some h

-- of two half-edges that leave one vertex, g turns to the left of h
abbrev pub is_left_of : HalfEdge → HalfEdge → Bool
is_left_of g h = int_lt (pos 0) (turn_of (origin h) (target h) (target g))

-- of two half-edges that leave one vertex, h comes before g counter-clockwise: those that lead forwards first, and then by the turn
abbrev pub is_before_by_angle : HalfEdge → HalfEdge → Bool
is_before_by_angle h g = cond h.forwards (not g.forwards || is_left_of g h) (not g.forwards && is_left_of g h)

-- k leaves strictly inside the sector from g counter-clockwise to h; the sector from a half-edge to itself is the full turn
abbrev pub is_in_sector : HalfEdge → HalfEdge → HalfEdge → Bool
is_in_sector g h k = cond (is_before_by_angle g h) (is_before_by_angle g k && is_before_by_angle k h) (is_before_by_angle g k || is_before_by_angle k h)

-- h is a half-edge of the list, and leaves v
pub record Leaves (edges : List Seg) (v : Coord) (h : HalfEdge) : Type 0 where
  pub among : Contains edges h.edge
  pub from : origin h ≡ v

-- g follows h round the region on the left of h: it leaves where h ends, and none leaves inside the sector from g to the twin of h
pub record IsNext (edges : List Seg) (h g : HalfEdge) : Type 0 where
  pub among : Contains edges h.edge
  pub leaves : Leaves edges (target h) g
  pub none_inside : (k : HalfEdge) → Leaves edges (target h) k → is_in_sector g (twin h) k ≡ false

-- the half-edges that leave v, counter-clockwise from straight down the ray
pub record IsFan (edges : List Seg) (v : Coord) (fan : List HalfEdge) : Type 0 where
  pub in_order : AllPairs (λ h g. is_before_by_angle h g ≡ true) fan
  pub members : (h : HalfEdge) → Contains fan h ↔ Leaves edges v h

-- the half-edge with the number m follows the one with the number n
pub record IsNextNumber (edges : List Seg) (n m : ℕ) : Type 0 where
  pub from : HalfEdge
  pub to : HalfEdge
  pub from_is : IsHalfEdge edges n from
  pub to_is : IsHalfEdge edges m to
  pub follows : IsNext edges from to

-- no edge stands twice in the list
abbrev pub AreDistinct : List Seg → Type 0
AreDistinct edges = AllPairs (λ e f. ¬ (e ≡ f)) edges

-- the edges are in range, and any two of them are equal or meet in ends alone
pub record IsPlanar (edges : List Seg) : Type 0 where
  pub in_range : All IsSegInRange edges
  pub noded : IsNodedFully edges
