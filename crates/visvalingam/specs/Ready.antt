-- What the queue and the waiting spots of a state take care of: each spot that may become removable.
use Rattle.std.specs.Prelude.{◌≡◌, ◌⊎◌, ◌*◌, ◌≤◌, true, List, Contains, unsigned_abs}
use Rattle.cov_types.specs.declared.coord.Coord.{Coord}
use Rattle.cov_types.specs.declared.seg.Seg.{Seg}
use Rattle.cov_types.specs.Seg.{IsSegBetween}
use Rattle.plane.specs.Segment.{turn_of}
use Rattle.greedy_run.specs.Run.{Triangle, Spot, Simplification, IsTriangleAt, IsInner, current_points, current_edges}
use Rattle.cov_cells.specs.Way.{IsInWay}
use Rattle.visvalingam.specs.Queue.{at_spot}
use Rattle.visvalingam.specs.declared.spot.QueuedSpot.{QueuedSpot}

-- the point at the spot may go but for what may be in the way
pub record IsOpen (s : Simplification) (removed : List Coord) (spot : Spot) : Type 0 where
  pub t : Triangle
  pub triangle : IsTriangleAt s.lines removed spot t
  pub sized : unsigned_abs (turn_of t.a t.b t.c) ≡ spot.size
  pub small : spot.size ≤ 2 * (s.tolerance * s.tolerance)
  pub inner : s.inner_only ≡ true → IsInner s.uses triangle.points

-- a vertex that is left is in the way, and the spot waits for it to go
pub record IsWaiting (s : Simplification) (removed : List Coord) (waiting : Coord → List QueuedSpot) (q : QueuedSpot) (t : Triangle) : Type 0 where
  pub vertex : Coord
  pub there : Contains (current_points s.lines removed) vertex
  pub in_way : IsInWay t vertex
  pub waits : Contains (waiting vertex) q

-- the third side of the triangle is a current segment
abbrev pub IsSpanned : Simplification → List Coord → Triangle → Type 0
IsSpanned s removed t = (e : Seg) × (Contains (current_edges s.lines removed) e × IsSegBetween t.a t.c e)

-- each spot that may become removable is in the queue, or waits, or its third side is current
abbrev pub IsReady : Simplification → List Coord → List QueuedSpot → (Coord → List QueuedSpot) → Type 0
IsReady s removed queue waiting = (q : QueuedSpot) (h : IsOpen s removed (at_spot q)) → Contains queue q ⊎ (IsWaiting s removed waiting q h.t ⊎ IsSpanned s removed h.t)
