-- Closed walks along next, the half-edges that they visit, and the way back along each.
use Rattle.std.specs.Prelude.{◌≡◌, ℕ, ◌+◌, ◌*◌, ◌<◌, ◌==◌, Bool, false, cond, List, [], ◌∷◌, length, map, count_by, pos, Option, Some, None, slice_get, slice_index_or, ⊤}
use Rattle.cov_types.specs.declared.coord.Coord.{Coord}
use Rattle.cov_types.specs.declared.seg.Seg.{Seg}
use Rattle.sector_laws.specs.Sector.{HalfEdge, origin, target, half_edges, IsNextNumber}

-- the first of the numbers, and m where there is none
abbrev pub first_or : ℕ → List ℕ → ℕ
first_or m [] = m
first_or m (n ∷ way) = n

-- each half-edge follows the one before, and m the last
abbrev pub LeadsByNext : List Seg → List ℕ → ℕ → Type 0
LeadsByNext edges [] m = ⊤
LeadsByNext edges (n ∷ way) m = IsNextNumber edges n (first_or m way) × LeadsByNext edges way m

-- a closed walk: the first follows the last
pub record IsRound (edges : List Seg) (way : List ℕ) : Type 0 where
  pub leads : LeadsByNext edges way (first_or 0 way)
  pub some : 0 < length way

-- ---- visits

-- whether the half-edge was visited
abbrev pub is_visited : List Bool → ℕ → Bool
is_visited seen n = slice_index_or seen n false

-- one for a half-edge that was visited
abbrev pub visit_of : List Bool → ℕ → ℕ
visit_of seen n = cond (is_visited seen n) 1 0

-- how often the number stands in the list
abbrev pub occurrences : ℕ → List ℕ → ℕ
occurrences n way = count_by (λ m. m == n) way

-- there is a flag for each half-edge, the same along next
pub record AreVisitFlags (edges : List Seg) (seen : List Bool) : Type 0 where
  pub count : length seen ≡ 2 * length edges
  pub along : (n m : ℕ) → IsNextNumber edges n m → is_visited seen n ≡ is_visited seen m

-- the way is a closed walk from the start on, of half-edges that were not visited before, each of which is visited after it
pub record IsWalkFrom (edges : List Seg) (start : ℕ) (before : List Bool) (way : List ℕ) (after : List Bool) : Type 0 where
  pub round : IsRound edges way
  pub first : first_or 0 way ≡ start
  pub flags : AreVisitFlags edges after
  pub each : (n : ℕ) → occurrences n way + visit_of before n ≡ visit_of after n

-- ---- the way back

-- from the end of the half-edge to its origin
abbrev pub back_along : Option HalfEdge → Coord × Coord
back_along None = (record { x = pos 0; y = pos 0 }, record { x = pos 0; y = pos 0 })
back_along (Some h) = (target h, origin h)

-- the ways back along the half-edges with these numbers
abbrev pub ways_back : List Seg → List ℕ → List (Coord × Coord)
ways_back edges way = map (λ n. back_along (slice_get (half_edges edges) n)) way

-- where the half-edge with the number ends
abbrev pub target_of : List Seg → ℕ → Coord
target_of edges n = (back_along (slice_get (half_edges edges) n)).0
