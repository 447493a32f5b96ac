-- Lines of edges, and all of them.
use Rattle.std.specs.Prelude.{◌≡◌, ◌≢◌, ◌⊎◌, ℕ, ◌<◌, ◌↔◌, Bool, true, IsTrue, List, length, map, reverse, All, AllPairs, Contains, Some, slice_get}
use Rattle.std.specs.Global.{Vec}
use Rattle.std.specs.Ordering.{is_le}
use Rattle.cov_types.specs.declared.coord.Coord.{Coord}
use Rattle.cov_types.specs.declared.seg.Seg.{Seg}
use Rattle.cov_types.specs.Coord.{points_cmp}
use Rattle.plane.specs.Snapping.{chain_edges}
use Rattle.greedy_run.specs.Lines.{IsLine}
use Rattle.line_walk.specs.Walk.{IsAtPlaces}

-- the lists of points
abbrev pub plain_lists : List (Vec Coord) → List (List Coord)
plain_lists lists = map (λ (v : Vec Coord). v.items) lists

-- no edge before this one is on its line
abbrev pub IsFirstOfLine : List Seg → ℕ → Type 0
IsFirstOfLine edges first = (points : List Coord) (e f : Seg) (k : ℕ) → IsLine edges points → slice_get edges first ≡ Some e → slice_get edges k ≡ Some f → k < first
    → Contains (chain_edges points) e → ¬ Contains (chain_edges points) f

-- of the points and the same ones from the end to the beginning, the lesser
pub record IsLesserWay (points lesser : List Coord) : Type 0 where
  pub either : (lesser ≡ points) ⊎ (lesser ≡ reverse points)
  pub direction : IsTrue (is_le (points_cmp lesser (reverse lesser)))

-- a line, with the places of its edges, of which the first edge is one
pub record IsLineWith (edges : List Seg) (first : ℕ) (points : List Coord) (places : List ℕ) : Type 0 where
  pub line : IsLine edges points
  pub passed : (e : Seg) → Contains (chain_edges points) e ↔ IsAtPlaces edges places e
  pub within : All (λ k. k < length edges) places
  pub has_first : Contains places first

-- the points of a line in either direction, with the places of its edges
abbrev pub IsWholeWalk : List Seg → ℕ → List Coord → List ℕ → Type 0
IsWholeWalk edges first points places = (lesser : List Coord) → IsLesserWay points lesser → IsLineWith edges first lesser places

-- all lines, each once, in some order
pub record AreLinesUnsorted (edges : List Seg) (lines : List (List Coord)) : Type 0 where
  pub each : All (IsLine edges) lines
  pub every : (e : Seg) → Contains edges e → (points : List Coord) × (Contains lines points × Contains (chain_edges points) e)
  pub once : AllPairs (λ l m. l ≢ m) lines

-- the places are marked, and no others but those that were
pub record IsMarkedBy (places : List ℕ) (before after : List Bool) : Type 0 where
  pub size : length after ≡ length before
  pub exact : (k : ℕ) → (slice_get after k ≡ Some true) ↔ ((slice_get before k ≡ Some true) ⊎ ((k < length before) × Contains places k))
