-- The boundaries of parts, as lists of edges that have the part on one side.
use Rattle.std.specs.Prelude.{◌≡◌, ℕ, ◌+◌, ◌*◌, Bool, true, false, List, [], ◌∷◌, ◌++◌, length, flat_map, map, cond, Some, slice_get, Option}
use Rattle.std.specs.List.{enumerate_from}
use Rattle.std.specs.Global.{Vec}
use Rattle.cov_types.specs.declared.coord.Coord.{Coord}
use Rattle.cov_types.specs.declared.seg.Seg.{Seg}
use Rattle.cov_build.specs.declared.boundary.BoundaryEdge.{BoundaryEdge}
use Rattle.cov_build.specs.declared.part.Part.{Part}
use Rattle.cov_build.specs.Parted.{part_at, is_part}

-- the edge, where just one of its two sides, above and below it, is in the part
abbrev pub boundary_edge : Bool → Bool → Seg → List BoundaryEdge
boundary_edge true false e = record { edge = e; above = true } ∷ []
boundary_edge false true e = record { edge = e; above = false } ∷ []
boundary_edge true true e = []
boundary_edge false false e = []

-- the boundary of the part p
abbrev pub boundary_list : List (Option Part) → ℕ → List Seg → List BoundaryEdge
boundary_list parts p edges = flat_map (λ q. boundary_edge (is_part (part_at parts (2 * q.0)) p) (is_part (part_at parts (2 * q.0 + 1)) p) q.1) (enumerate_from 0 edges)

-- for each number of a part its boundary
pub record AreBoundaries (parts : List (Option Part)) (edges : List Seg) (lists : List (Vec BoundaryEdge)) : Type 0 where
  pub count : length lists ≡ length parts
  pub each : (p : ℕ) (v : Vec BoundaryEdge) → slice_get lists p ≡ Some v → v.items ≡ boundary_list parts p edges

-- each list is as it was, with what the function gives for its number at the end
pub record AreAdded (more : ℕ → List BoundaryEdge) (before after : List (Vec BoundaryEdge)) : Type 0 where
  pub count : length after ≡ length before
  pub each : (p : ℕ) (v w : Vec BoundaryEdge) → slice_get before p ≡ Some v → slice_get after p ≡ Some w → w.items ≡ v.items ++ more p

-- the way along the edge with the part on the left
abbrev pub way_round : BoundaryEdge → Coord × Coord
way_round b = cond b.above (b.edge.lo, b.edge.hi) (b.edge.hi, b.edge.lo)

-- the edges of a boundary
abbrev pub boundary_edges : List BoundaryEdge → List Seg
boundary_edges boundary = map (λ b. b.edge) boundary
