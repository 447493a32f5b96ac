-- Corners of the code and the triangles at spots.
use Rattle.std.proofs.Common.{◌≡◌, refl, sym, ◌∙◌, ap, subst, ℕ, ◌*◌, ◌<◌, ◌≤◌, List, length, true, Some, None, Vec, Global, unsigned_abs, arith}
use Rattle.std.proofs.lemmas.List.{length-map}
use Rattle.std.specs.Prelude.{Contains, option_map, option_and_then, slice_get}
use Rattle.std.proofs.lemmas.Option.{same_Some, slice_get-map, slice_get_within}
use Rattle.cov_types.specs.declared.coord.Coord.{Coord}
use Rattle.plane.specs.Segment.{turn_of}
use Rattle.greedy_run.specs.Run.{Triangle, Simplification, IsTriangleAt, current_points}
use Rattle.cov_cells.specs.Way.{IsInWay}
use Rattle.visvalingam.specs.Chains.{IsCornerAt, IsAnswerIn}
use Rattle.visvalingam.specs.Queue.{at_spot}
use Rattle.visvalingam.specs.Ready.{IsOpen, IsSpanned}
use Rattle.visvalingam.specs.State.{IsTaskOf, IsAllowed, IsGoing, lists_of}
use Rattle.visvalingam.specs.declared.corner.Corner.{Corner}
use Rattle.visvalingam.specs.declared.spot.QueuedSpot.{QueuedSpot}
use Rattle.visvalingam.specs.declared.task.Task.{Task}
use Rattle.visvalingam.proofs.Chained.{some_at}
use Rattle.visvalingam.proofs.Ready.{one_triangle, removable_of}

abbrev pub triangle_of : Corner → Triangle
triangle_of k = record { a = k.a; b = k.b; c = k.c }

module _ (s : Simplification) (task : Task) (asked : IsTaskOf s task) (removed : List Coord) where
  -- the points of a line of the task
  pub line_is : (i : ℕ) (points : Vec Coord Global) → slice_get task.lines.now i ≡ Some points → slice_get s.lines i ≡ Some points.items
  line_is i points at = ap (λ ls. slice_get ls i) asked.lines_are ∙ slice_get-map (λ (v : Vec Coord Global). v.items) task.lines.now i ∙ ap (option_map (λ (v : Vec Coord Global). v.items)) at

  pub line_of : (i : ℕ) (points : List Coord) → slice_get s.lines i ≡ Some points → (v : Vec Coord Global) × ((slice_get task.lines.now i ≡ Some v) × (v.items ≡ points))
  line_of i points at =
      let same = ap length asked.lines_are ∙ length_map task.lines.now in
      let within = slice_get_within s.lines i points at in
      let v = some_at task.lines.now i (omega arith) in
      (v.0, (v.1, same_Some v.0.items points (sym (line_is i v.0 v.1) ∙ at)))
    where
      length_map : (vs : List (Vec Coord Global)) → length (lists_of vs) ≡ length vs
      length_map vs = length-map vs (λ (v : Vec Coord Global). v.items)

  -- a corner is the triangle at its spot
  pub at_corner : (size line place : ℕ) (points : Vec Coord Global) (corner : Corner) → slice_get task.lines.now line ≡ Some points → IsCornerAt removed points.items place corner
      → IsTriangleAt s.lines removed (record { size = size; line = line; place = place }) (triangle_of corner)
  at_corner size line place points corner at h = record {
    points = points.items;
    line = line_is line points at;
    here = ap (option_and_then (λ l. slice_get l place)) (line_is line points at) ∙ h.here;
    there = h.there;
    from = corner.before;
    before = h.before;
    to = corner.after;
    after = h.after;
  }

  -- where there is no corner, the spot is not open
  pub none_open : (line place : ℕ) → IsAnswerIn removed task.lines.now line place None → (q : QueuedSpot) → q.line ≡ line → q.place ≡ place → ¬ IsOpen s removed (at_spot q)
  none_open line place answer q same_line same_place h =
      let (v, (at, is)) = line_of q.line h.triangle.points h.triangle.line in
      let none = answer v (subst (λ n. slice_get task.lines.now n ≡ Some v) same_line at) in
      none (record { a = h.t.a; b = h.t.b; c = h.t.c; before = h.triangle.from; after = h.triangle.to }) (subst (λ n. IsCornerAt removed v.items n (record { a = h.t.a; b = h.t.b; c = h.t.c; before = h.triangle.from; after = h.triangle.to })) same_place
      (subst (λ ps. IsCornerAt removed ps q.place (record { a = h.t.a; b = h.t.b; c = h.t.c; before = h.triangle.from; after = h.triangle.to })) (sym is) (record {
        here = sym (ap (option_and_then (λ l. slice_get l q.place)) h.triangle.line) ∙ h.triangle.here;
        there = h.triangle.there;
        before = h.triangle.before;
        after = h.triangle.after;
      })))

  -- an open spot with a corner has its size
  pub open_size : (line place : ℕ) (corner : Corner) → IsAnswerIn removed task.lines.now line place (Some corner) → (q : QueuedSpot) → q.line ≡ line → q.place ≡ place → IsOpen s removed (at_spot q)
      → q.size ≡ unsigned_abs (turn_of corner.a corner.b corner.c)
  open_size line place corner answer q same_line same_place h =
      let (v, (at, is)) = line_of q.line h.triangle.points h.triangle.line in
      let own = subst (λ n. IsCornerAt removed v.items n corner) (sym same_place) (answer v (subst (λ n. slice_get task.lines.now n ≡ Some v) same_line at)) in
      let t = one_triangle s.lines removed (at_spot q) h.t (triangle_of corner) h.triangle (at_corner q.size q.line q.place v corner at own) in
      sym h.sized ∙ ap (λ (t : Triangle). unsigned_abs (turn_of t.a t.b t.c)) t

  -- an open spot is allowed
  pub open_allowed : (q : QueuedSpot) → IsOpen s removed (at_spot q) → IsAllowed task q.line q.size
  open_allowed q h =
      let within = slice_get_within s.lines q.line h.triangle.points h.triangle.line in
      let same = ap length asked.lines_are ∙ length-map task.lines.now (λ (v : Vec Coord Global). v.items) in
      let all = asked.all_marked in
      let mark = some_at task.open_lines.now q.line (omega arith) in
      record {
        marked = mark.1 ∙ ap Some ((asked.open_are q.line h.triangle.points mark.0 h.triangle.line mark.1).1 h.inner);
        small = subst (λ n. q.size ≤ 2 * (n * n)) asked.tolerance_is h.small;
      }

  -- a corner of an allowed size is open
  pub allowed_open : (q : QueuedSpot) (points : Vec Coord Global) (corner : Corner) → slice_get task.lines.now q.line ≡ Some points → IsCornerAt removed points.items q.place corner
      → unsigned_abs (turn_of corner.a corner.b corner.c) ≡ q.size → IsAllowed task q.line q.size → IsOpen s removed (at_spot q)
  unfolding at_corner
  allowed_open q points corner at h sized allowed = record {
    t = triangle_of corner;
    triangle = at_corner q.size q.line q.place points corner at h;
    sized = sized;
    small = subst (λ n. q.size ≤ 2 * (n * n)) (sym asked.tolerance_is) allowed.small;
    inner = (asked.open_are q.line points.items true (line_is q.line points at) allowed.marked).0 refl;
  }

  -- and with nothing in the way it goes
  pub going : (q : QueuedSpot) (points : Vec Coord Global) (corner : Corner) → slice_get task.lines.now q.line ≡ Some points → IsCornerAt removed points.items q.place corner
      → unsigned_abs (turn_of corner.a corner.b corner.c) ≡ q.size → IsAllowed task q.line q.size
      → ((p : Coord) → Contains (current_points s.lines removed) p → ¬ IsInWay (triangle_of corner) p) → ¬ IsSpanned s removed (triangle_of corner) → IsGoing s removed q corner
  unfolding removable_of allowed_open at_corner
  going q points corner at h sized allowed free apart = record {
    removable = removable_of s removed (at_spot q) (allowed_open q points corner at h sized allowed) free apart;
    a = refl;
    b = refl;
    c = refl;
    before = refl;
    after = refl;
  }

  -- each triangle at a spot with a corner is that of the corner
  pub at_answer : (q : QueuedSpot) (corner : Corner) → IsAnswerIn removed task.lines.now q.line q.place (Some corner) → (t : Triangle) → IsTriangleAt s.lines removed (at_spot q) t → triangle_of corner ≡ t
  at_answer q corner answer t h =
      let (v, (at, is)) = line_of q.line h.points h.line in
      one_triangle s.lines removed (at_spot q) (triangle_of corner) t (at_corner q.size q.line q.place v corner at (answer v at)) h

  -- an open spot is at a point of a line
  pub line_within : (q : QueuedSpot) → IsOpen s removed (at_spot q) → q.line < length task.lines.now
  line_within q h = let (v, (at, is)) = line_of q.line h.triangle.points h.triangle.line in slice_get_within task.lines.now q.line v at

  pub place_within : (q : QueuedSpot) → IsOpen s removed (at_spot q) → (line : ℕ) (points : Vec Coord Global) → slice_get task.lines.now line ≡ Some points → q.line ≡ line → q.place < length points.items
  place_within q h line points at same =
      let own = line_is q.line points (subst (λ n. slice_get task.lines.now n ≡ Some points) (sym same) at) in
      slice_get_within points.items q.place h.t.b (sym (ap (option_and_then (λ l. slice_get l q.place)) own) ∙ h.triangle.here)
