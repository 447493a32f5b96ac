-- What is asked of the run, and a state of it.
use Rattle.std.specs.Prelude.{◌≡◌, ℕ, ◌*◌, ◌^◌, ◌≤◌, ◌∷◌, Bool, true, All, List, map, length, Contains, Option, Some, None, slice_get, IsTrue, ◌↔◌, Vec, reverse}
use Rattle.std.specs.Global.{Global}
use Rattle.cov_types.specs.declared.coord.Coord.{Coord}
use Rattle.cov_types.specs.declared.seg.Seg.{Seg}
use Rattle.greedy_run.specs.Run.{Simplification, Spot, IsRemovable, IsNextPoint, IsInner, current_points, current_edges, IsRunState}
use Rattle.visvalingam.specs.Chains.{AreAllLinked}
use Rattle.cov_types.specs.Range.{IsInRange}
use Rattle.visvalingam.specs.Segments.{is_among}
use Rattle.visvalingam.specs.Waiting.{waiting_at}
use Rattle.visvalingam.specs.Ready.{IsReady}
use Rattle.visvalingam.specs.declared.spot.QueuedSpot.{QueuedSpot}
use Rattle.visvalingam.specs.Queue.{at_spot}
use Rattle.visvalingam.specs.declared.corner.Corner.{Corner}
use Rattle.visvalingam.specs.declared.task.Task.{Task}
use Rattle.visvalingam.specs.declared.state.State.{State}

-- the points of each line
abbrev pub lists_of : List (Vec Coord Global) → List (List Coord)
lists_of lines = map (λ v. v.items) lines

-- the run of s is asked for: over these lines, of which those marked may lose points, at this tolerance
pub record IsAsked (s : Simplification) (lines : List (Vec Coord Global)) (open_lines : List Bool) (tolerance : ℕ) : Type 0 where
  pub lines_are : s.lines ≡ lists_of lines
  pub tolerance_is : s.tolerance ≡ tolerance
  pub all_marked : length open_lines ≡ length lines
  pub open_are : (i : ℕ) (points : List Coord) (mark : Bool) → slice_get s.lines i ≡ Some points → slice_get open_lines i ≡ Some mark → IsTrue mark ↔ (s.inner_only ≡ true → IsInner s.uses points)

-- by the task
abbrev pub IsTaskOf : Simplification → Task → Type 0
IsTaskOf s task = IsAsked s task.lines.now task.open_lines.now task.tolerance

-- all points of the lines are in range
abbrev pub AreLinesInRange : List (Vec Coord Global) → Type 0
AreLinesInRange lines = All (λ v. All IsInRange v.items) lines

-- the task has its points and its tolerance in range
pub record IsTaskInRange (task : Task) : Type 0 where
  pub points : AreLinesInRange task.lines.now
  pub tolerance : task.tolerance ≤ 2 ^ 30

-- the removed points of the state, the last first
abbrev pub gone : State → List Coord
gone state = reverse state.removed.items

-- the tables of the state are those of the removed points
pub record AreTables (s : Simplification) (task : Task) (state : State) : Type 0 where
  pub linked : AreAllLinked (gone state) task.lines.now state.links.items
  pub points : (p : Coord) → Contains state.cells p ↔ Contains (current_points s.lines (gone state)) p
  pub edges : (e : Seg) → (is_among state.segments.ends e ≡ true) ↔ Contains (current_edges s.lines (gone state)) e

-- the state is one to which the run comes, and its queue takes care of the spots
pub record IsStateOf (s : Simplification) (task : Task) (state : State) (queue : List QueuedSpot) : Type 0 where
  pub tables : AreTables s task state
  pub run : IsRunState s (gone state)
  pub ready : IsReady s (gone state) queue (waiting_at state.waiting.spots)

-- a triangle of this size may lose its point in this line
pub record IsAllowed (task : Task) (line size : ℕ) : Type 0 where
  pub marked : slice_get task.open_lines.now line ≡ Some true
  pub small : size ≤ 2 * (task.tolerance * task.tolerance)

-- the point at the spot is removable, and it is that of the corner
pub record IsGoing (s : Simplification) (removed : List Coord) (q : QueuedSpot) (corner : Corner) : Type 0 where
  pub removable : IsRemovable s removed (at_spot q)
  pub a : removable.t.a ≡ corner.a
  pub b : removable.t.b ≡ corner.b
  pub c : removable.t.c ≡ corner.c
  pub before : removable.triangle.from ≡ corner.before
  pub after : removable.triangle.to ≡ corner.after

-- what testing a spot leaves: it goes, or the queue does without it
abbrev pub IsSettledSo : Simplification → State → (Coord → List QueuedSpot) → QueuedSpot → Option Corner → Type 0
IsSettledSo s state waiting q (Some corner) = IsGoing s (gone state) q corner × (waiting ≡ waiting_at state.waiting.spots)
IsSettledSo s state waiting q None = IsReady s (gone state) state.queue waiting

-- what is found next: the next point of the run, whose spot left the queue; or nothing is removable
abbrev pub IsFoundSo : Simplification → State → State → Option (QueuedSpot × Corner) → Type 0
IsFoundSo s old new (Some (q, corner)) = IsGoing s (gone old) q corner × IsNextPoint s (gone old) corner.b × IsReady s (gone old) (q ∷ new.queue) (waiting_at new.waiting.spots)
IsFoundSo s old new None = (spot : Spot) → ¬ IsRemovable s (gone old) spot

-- the state after a removal
pub record IsAfter (s : Simplification) (task : Task) (old new : State) (b : Coord) : Type 0 where
  pub gone_is : gone new ≡ b ∷ gone old
  pub tables : AreTables s task new
  pub ready : IsReady s (gone new) new.queue (waiting_at new.waiting.spots)
