-- The ends of edges, and those at one vertex.
use Rattle.std.specs.Prelude.{◌≡◌, ◌≢◌, ℕ, zero, suc, ◌+◌, Bool, false, not, ◌&&◌, List, [], ◌∷◌, count_by, AllPairs, Option, Some, None, slice_get}
use Rattle.cov_types.specs.declared.coord.Coord.{Coord}
use Rattle.cov_types.specs.declared.seg.Seg.{Seg}
use Rattle.cov_types.specs.Coord.{is_before, is_same_coord}
use Rattle.line_walk.specs.declared.edge_end.EdgeEnd.{EdgeEnd}

-- the two ends of each edge, where the edges have the places from k on
abbrev pub ends_from : ℕ → List Seg → List EdgeEnd
ends_from k [] = []
ends_from k (e ∷ es) = record { vertex = e.lo; edge = k } ∷ record { vertex = e.hi; edge = k } ∷ ends_from (k + 1) es

-- no end stands after one at a later vertex, so those at one vertex stand together
abbrev pub AreEndsGrouped : List EdgeEnd → Type 0
AreEndsGrouped ends = AllPairs (λ d e. is_before e.vertex d.vertex ≡ false) ends

-- the end, if there is one, is at the vertex
abbrev pub is_there : Coord → Option EdgeEnd → Bool
is_there v None = false
is_there v (Some d) = is_same_coord d.vertex v

-- there is an end at the place, and it is at the vertex
abbrev pub is_end_at : List EdgeEnd → Coord → ℕ → Bool
is_end_at ends v place = is_there v (slice_get ends place)

-- there is an end before the place, and it is at the vertex
abbrev pub is_end_before : List EdgeEnd → Coord → ℕ → Bool
is_end_before ends v zero = false
is_end_before ends v (suc place) = is_end_at ends v place

-- how many of the ends are at the vertex
abbrev pub ends_at_vertex : List EdgeEnd → Coord → ℕ
ends_at_vertex ends v = count_by (λ d. is_same_coord d.vertex v) ends

-- whether the end at the place and the next are at one vertex, and those around them at others
abbrev pub IsPairAt : List EdgeEnd → ℕ → Bool → Type 0
IsPairAt ends first is = (d : EdgeEnd) → slice_get ends first ≡ Some d
    → is ≡ (is_end_at ends d.vertex (first + 1) && not (is_end_at ends d.vertex (first + 2)) && not (is_end_before ends d.vertex first))

-- just two ends are at the vertex of the end at place i, and the other has this edge
pub record IsOtherEnd (ends : List EdgeEnd) (i edge : ℕ) (v : Coord) : Type 0 where
  pub two : ends_at_vertex ends v ≡ 2
  pub place : ℕ
  pub differs : place ≢ i
  pub at : slice_get ends place ≡ Some (record { vertex = v; edge = edge })

-- the edge of the other end at the vertex v, where just two ends are there, of which one is at place i
abbrev pub IsOtherThere : List EdgeEnd → ℕ → Coord → Option ℕ → Type 0
IsOtherThere ends i v None = ends_at_vertex ends v ≢ 2
IsOtherThere ends i v (Some edge) = IsOtherEnd ends i edge v

-- the same of the vertex of the end at place i
abbrev pub IsOtherOfTwo : List EdgeEnd → ℕ → Option ℕ → Type 0
IsOtherOfTwo ends i other = (d : EdgeEnd) → slice_get ends i ≡ Some d → IsOtherThere ends i d.vertex other
