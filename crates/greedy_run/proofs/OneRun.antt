-- The run goes one way.
use mathlib.Core.List.{[], ◌∷◌}
use Rattle.std.proofs.Common.{◌≡◌, refl, sym, ◌∙◌, ap, subst, ℕ, ◌*◌, ◌<◌, ◌≤◌, Bool, true, false, cond, List, map, IsTrue, inl, inr, arith}
use Rattle.std.specs.Prelude.{length, Contains, Some, slice_get, unwrap_or}
use Rattle.std.specs.Ordering.{is_lt}
use Rattle.std.proofs.lemmas.Bool.{cases_order}
use Rattle.cov_types.specs.declared.coord.Coord.{Coord}
use Rattle.cov_types.specs.declared.seg.Seg.{Seg}
use Rattle.cov_types.specs.Coord.{points_cmp}
use Rattle.cov_types.specs.Coverage.{Members}
use Rattle.cov_types.specs.Uses.{uses_of}
use Rattle.arrangement.proofs.OneNoding.{same_ordered, same_edges}
use Rattle.greedy_run.specs.Lines.{AreLines}
use Rattle.greedy_run.specs.Run.{Spot, point_at, Simplification, IsTriangleAt, current_points, current_edges, IsInner, IsRemovable, IsNextPoint, IsRunState, IsFinalState, current, is_one_point, ring_without, coverage_without, IsSimplificationOf, IsSimplified, IsExhausted}
use Rattle.arrangement.proofs.PointOrders.{points_both_ways}
use Rattle.greedy_run.proofs.Orders.{spots_same}

pub one_list : (edges : List Seg) (lines others : List (List Coord)) → AreLines edges lines → AreLines edges others → lines ≡ others
one_list edges lines others h k =
    same_ordered (λ l m. IsTrue (is_lt (points_cmp l m))) points_both_ways lines others h.ascending k.ascending
    (λ points. (λ i. (k.exact points).1 ((h.exact points).0 i), λ i. (h.exact points).1 ((k.exact points).0 i)))

-- ---- one next point

some_is : {X : Type 0} (a b : X) → Some a ≡ Some b → a ≡ b
some_is a b h = ap (λ o. unwrap_or o a) h

pub one_next : (s : Simplification) (removed : List Coord) (b c : Coord) → IsNextPoint s removed b → IsNextPoint s removed c → b ≡ c
one_next s removed b c h k =
    let same = spots_same h.spot k.spot (h.least k.spot k.removable) (k.least h.spot h.removable) in
    some_is b c (sym h.is ∙ ap (point_at s.lines) same ∙ k.is)

-- ---- one last state

same_state : (s : Simplification) (removed others : List Coord) → IsRunState s removed → IsRunState s others → length removed ≡ length others → removed ≡ others
same_state s [] [] h k same = refl
same_state s [] (c ∷ others) h k same = absurd (omega arith)
same_state s (b ∷ removed) [] h k same = absurd (omega arith)
same_state s (b ∷ removed) (c ∷ others) h k same =
    let rest = same_state s removed others h.0 k.0 (omega arith) in
    let first = one_next s others b c (subst (λ r. IsNextPoint s r b) rest h.1) k.1 in
    λ i. first i ∷ rest i

-- the run does not go past a state in which it ends
not_past : (s : Simplification) (removed others : List Coord) → IsFinalState s removed → IsRunState s others → length removed < length others → ⊥
not_past s removed [] h k longer = omega arith
not_past s removed (c ∷ others) h k longer =
    elim (cases_order (length removed) (length others)) [
      | inl same ↦ (
          let here = same_state s removed others h.run k.0 same in
          h.done k.1.spot (subst (λ r. IsRemovable s r k.1.spot) (sym here) k.1.removable))
      | inr apart ↦ elim apart [
        | inl less ↦ not_past s removed others h k.0 less
        | inr more ↦ omega arith
      ]
    ]

pub one_last : (s : Simplification) (removed others : List Coord) → IsFinalState s removed → IsFinalState s others → removed ≡ others
one_last s removed others h k =
    elim (cases_order (length removed) (length others)) [
      | inl same ↦ same_state s removed others h.run k.run same
      | inr apart ↦ elim apart [
        | inl less ↦ absurd (not_past s removed others h k.run less)
        | inr more ↦ absurd (not_past s others removed k h.run more)
      ]
    ]

-- ---- the run reads the uses, the lines, the tolerance and the flag alone

record AreAlike (s t : Simplification) : Type 0 where
  uses : s.uses ≡ t.uses
  lines : s.lines ≡ t.lines
  tolerance : s.tolerance ≡ t.tolerance
  inner_only : s.inner_only ≡ t.inner_only

alike_back : (s t : Simplification) → AreAlike s t → AreAlike t s
alike_back s t h = record { uses = sym h.uses; lines = sym h.lines; tolerance = sym h.tolerance; inner_only = sym h.inner_only }

triangle_moved : (lines others : List (List Coord)) → lines ≡ others → (removed : List Coord) (spot : Spot) (t : _) → IsTriangleAt lines removed spot t → IsTriangleAt others removed spot t
triangle_moved lines others same removed spot t h = record {
  points = h.points;
  line = subst (λ ls. slice_get ls spot.line ≡ Some h.points) same h.line;
  here = subst (λ ls. point_at ls spot ≡ Some t.b) same h.here;
  there = h.there;
  from = h.from;
  before = h.before;
  to = h.to;
  after = h.after;
}

removable_moved : (s t : Simplification) → AreAlike s t → (removed : List Coord) (spot : Spot) → IsRemovable s removed spot → IsRemovable t removed spot
unfolding triangle_moved
removable_moved s t same removed spot h = record {
  t = h.t;
  triangle = triangle_moved s.lines t.lines same.lines removed spot h.t h.triangle;
  sized = h.sized;
  small = subst (λ n. spot.size ≤ 2 * (n * n)) same.tolerance h.small;
  free = λ p has. h.free p (subst (λ ls. Contains (current_points ls removed) p) (sym same.lines) has);
  open_side = λ e has. h.open_side e (subst (λ ls. Contains (current_edges ls removed) e) (sym same.lines) has);
  inner = λ only. subst (λ us. IsInner us h.triangle.points) same.uses (h.inner (same.inner_only ∙ only));
}

next_moved : (s t : Simplification) → AreAlike s t → (removed : List Coord) (b : Coord) → IsNextPoint s removed b → IsNextPoint t removed b
next_moved s t same removed b h = record {
  spot = h.spot;
  removable = removable_moved s t same removed h.spot h.removable;
  least = λ other r. h.least other (removable_moved t s (alike_back s t same) removed other r);
  is = subst (λ ls. point_at ls h.spot ≡ Some b) same.lines h.is;
}

run_moved : (s t : Simplification) → AreAlike s t → (removed : List Coord) → IsRunState s removed → IsRunState t removed
run_moved s t same [] h = tt
run_moved s t same (b ∷ removed) h = (run_moved s t same removed h.0, next_moved s t same removed b h.1)

final_moved : (s t : Simplification) → AreAlike s t → (removed : List Coord) → IsFinalState s removed → IsFinalState t removed
final_moved s t same removed h = record {
  run = run_moved s t same removed h.run;
  done = λ spot r. h.done spot (removable_moved t s (alike_back s t same) removed spot r);
}

-- what simplifies a coverage is alike
alike : (members : Members) (tolerance : ℕ) (inner_only : Bool) (s t : Simplification) → IsSimplificationOf members tolerance inner_only s → IsSimplificationOf members tolerance inner_only t → AreAlike s t
alike members tolerance inner_only s t h k =
    let edges = same_edges (uses_of members) s.edges t.edges h.odd k.odd h.are_edges k.are_edges in
    record {
      uses = h.by_uses ∙ sym k.by_uses;
      lines = one_list t.edges s.lines t.lines (subst (λ es. AreLines es s.lines) edges s.are_lines) t.are_lines;
      tolerance = h.by_tolerance ∙ sym k.by_tolerance;
      inner_only = h.by_flag ∙ sym k.by_flag;
    }

pub one_simplified : (members : Members) (tolerance : ℕ) (inner_only : Bool) (out other : Members) → IsSimplified members tolerance inner_only out → IsSimplified members tolerance inner_only other → out ≡ other
one_simplified members tolerance inner_only out other h k =
    let same = alike members tolerance inner_only h.s k.s h.of k.of in
    let removed = one_last k.s h.removed k.removed (final_moved h.s k.s same h.removed h.final) k.final in
    h.without ∙ ap (λ r. coverage_without r members) removed ∙ sym k.without

-- ---- nothing is removable

pub nothing_left : (members : Members) (tolerance : ℕ) (inner_only : Bool) → IsExhausted members tolerance inner_only
    → (s : Simplification) → IsSimplificationOf members tolerance inner_only s → (spot : Spot) → ¬ IsRemovable s [] spot
nothing_left members tolerance inner_only h s of spot r = h.done spot (removable_moved s h.s (alike members tolerance inner_only s h.s of h.of) [] spot r)

-- without no points a coverage is itself
all_kept : (points : List Coord) → current [] points ≡ points
all_kept [] = refl
all_kept (p ∷ points) = ap (λ ps. p ∷ ps) (all_kept points)

ring_kept : (points : List Coord) → ring_without [] points ≡ points
ring_kept points = by (is_one_point points)
  where
    by : (b : Bool) → cond b points (current [] points) ≡ points
    by true = refl
    by false = all_kept points

map_kept : {X : Type 0} (f : X → X) → ((x : X) → f x ≡ x) → (xs : List X) → map f xs ≡ xs
map_kept f h [] = refl
map_kept f h (x ∷ xs) = λ i. h x i ∷ map_kept f h xs i

none_removed : (members : Members) → coverage_without [] members ≡ members
none_removed members = map_kept (λ polys. map (λ rings. map (ring_without []) rings) polys) (map_kept (λ rings. map (ring_without []) rings) (map_kept (ring_without []) ring_kept)) members

pub own_simplification : (members : Members) (tolerance : ℕ) (inner_only : Bool) → IsExhausted members tolerance inner_only → IsSimplified members tolerance inner_only members
own_simplification members tolerance inner_only h = record {
  s = h.s;
  of = h.of;
  removed = [];
  final = record { run = tt; done = h.done };
  without = sym (none_removed members);
}
