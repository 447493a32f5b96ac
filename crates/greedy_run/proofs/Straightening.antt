-- The square with a point in the middle of its bottom: its node, its line and the run at tolerance 0.
use mathlib.Core.List.{[], ◌∷◌}
use Rattle.std.proofs.Common.{◌≡◌, inl, inr, refl, sym, ◌∙◌, ap, subst, ℕ, zero, suc, ◌+◌, ◌<◌, ◌≤◌, ◌==◌, Bool, true, false, not, ◌&&◌, ◌||◌, true≢false, List, ◌++◌, length, ℤ, pos, ◌+ℤ◌, ◌*ℤ◌, ◌≢◌, unsigned_abs, IsTrue, arith}
use Rattle.std.specs.Prelude.{All, Contains, Some, slice_get, unwrap_or}
use Rattle.std.specs.List.{AllByRecursion}
use Rattle.std.specs.Ordering.{is_le}
use Rattle.std.proofs.lemmas.Bool.{and_parts, and_from, or_parts, not-true, false≢true}
use Rattle.std.proofs.lemmas.Bool.Decides.{Decides-eqb}
use Rattle.std.proofs.lemmas.Int.{ints}
use Rattle.std.proofs.lemmas.List.Elements.{All-from_recursion, All-contains, All-nil, All-cons, All-head, All-tail}
use Rattle.std.proofs.lemmas.List.Sums.{AllPass-from_list_all}
use Rattle.std.proofs.lemmas.Option.{none-some, slice_get_within}
use Rattle.cov_types.specs.declared.coord.Coord.{Coord}
use Rattle.cov_types.specs.declared.edge_use.EdgeUse.{EdgeUse}
use Rattle.cov_types.specs.declared.seg.Seg.{Seg}
use Rattle.cov_types.specs.Coord.{is_before, is_same_coord}
use Rattle.cov_types.specs.Seg.{IsSegBetween, is_seg_before}
use Rattle.cov_types.specs.Uses.{uses_of}
use Rattle.crossing_laws.specs.Across.{is_same_seg}
use Rattle.cov_types.proofs.Equal.{Decides-same_coords}
use Rattle.plane.specs.Examples.{grid}
use Rattle.plane.specs.Segment.{turn_of}
use Rattle.plane.specs.Snapping.{chain_edges}
use Rattle.greedy_run.specs.Lines.{degree, steps, IsAlongEdge, IsPathAlong, IsNode, IsLine, AreLines}
use Rattle.greedy_run.specs.Run.{current_edges, point_before, point_after, is_removed, Spot, spot_cmp, Triangle, IsInTriangle, IsTriangleAt, IsRemovable, IsNextPoint, IsFinalState, IsSimplificationOf}
use Rattle.greedy_run.proofs.OneLine.{covering}
use Rattle.greedy_run.proofs.OneRun.{nothing_left}
use Rattle.greedy_run.proofs.Spots.{of_line}
use Rattle.arrangement.specs.Examples.{at, pairs}
use Rattle.greedy_run.specs.Examples.{round_line}
use Rattle.greedy_run.specs.Runs.{five_edges, bent_square, straightening, RunExamples}
use Rattle.arrangement.specs.declared.odd_use.OddUse.{OddUse}
use Rattle.arrangement.specs.Noding.{segments, IsOdd, is_odd_before, AreEdges}
use Rattle.arrangement.proofs.OddUses.{some_passes}
use Rattle.arrangement.proofs.Short.{AllPairs-from_recursion, segs_apart, segs_in}

-- ---- walks

-- two edges meet at q, and it is not before p
abbrev IsOfLoop : Coord → Coord → Type 0
IsOfLoop p q = (degree five_edges q ≡ 2) × (is_before q p ≡ false)

record HasEndsOfLoop (p : Coord) (e : Seg) : Type 0 where
  lo : IsOfLoop p e.lo
  hi : IsOfLoop p e.hi

-- where it is so at both ends of each edge, it is so on each walk
along_walk : (p : Coord) → All (HasEndsOfLoop p) five_edges → (q : Coord) (walk : List Coord) → IsOfLoop p q → IsPathAlong five_edges (q ∷ walk) → All (IsOfLoop p) (q ∷ walk)
along_walk p ends q [] here walks = All-cons (IsOfLoop p) q [] here (All-nil (IsOfLoop p))
along_walk p ends q (r ∷ walk) here walks =
    let step = All-head (IsAlongEdge five_edges) (q, r) (steps (r ∷ walk)) walks in
    let both = All-contains (HasEndsOfLoop p) five_edges step.0 ends step.1.0 in
    let there : IsOfLoop p r = elim step.1.1 [
      | inl forwards ↦ subst (IsOfLoop p) forwards.1 both.hi
      | inr backwards ↦ subst (IsOfLoop p) backwards.0 both.lo
    ] in
    All-cons (IsOfLoop p) q (r ∷ walk) here (along_walk p ends r walk there (All-tail (IsAlongEdge five_edges) (q, r) (steps (r ∷ walk)) walks))

least_node : IsNode five_edges (grid 0 0)
least_node = record {
  vertex = omega arith;
  node = inr (λ walk walks. along_walk (grid 0 0) (All-from_recursion (HasEndsOfLoop (grid 0 0)) five_edges (
    record { lo = (refl, refl); hi = (refl, refl) },
    (
      record { lo = (refl, refl); hi = (refl, refl) },
      (
        record { lo = (refl, refl); hi = (refl, refl) },
        (
          record { lo = (refl, refl); hi = (refl, refl) },
          (record { lo = (refl, refl); hi = (refl, refl) }, tt),
        ),
      ),
    ),
  )) (grid 0 0) walk (refl, refl) walks);
}

-- a point of degree 2 with a walk to (0, 0) is no node
no_node : (p : Coord) (walk : List Coord) → degree five_edges p ≡ 2 → is_before (grid 0 0) p ≡ true → Contains (p ∷ walk) (grid 0 0) → AllByRecursion (IsAlongEdge five_edges) (steps (p ∷ walk)) → ¬ IsNode five_edges p
no_node p walk two before has walks node =
    elim node.node [
      | inl other ↦ other two
      | inr loop ↦ (
          let all = loop walk (All-from_recursion (IsAlongEdge five_edges) (steps (p ∷ walk)) walks) in
          false≢true (sym (All-contains (IsOfLoop p) (p ∷ walk) (grid 0 0) all has).1 ∙ before))
    ]

-- the edges, each with its place
along : (k : ℕ) (a b : Coord) (e : Seg) → Contains five_edges e → IsSegBetween a b e → IsAlongEdge five_edges (a, b)
along k a b e has between = (e, (has, between))

bottom_middle_no_node : ¬ IsNode five_edges (grid 5 0)
bottom_middle_no_node = no_node (grid 5 0) (at 0 0) refl refl (1, omega arith, refl) ((_, ((1, omega arith, refl), inr (refl, refl))), tt)

right_no_node : ¬ IsNode five_edges (grid 10 0)
right_no_node = no_node (grid 10 0) (at 5 0 ++ at 0 0) refl refl (2, omega arith, refl) ((_, ((3, omega arith, refl), inr (refl, refl))), ((_, ((1, omega arith, refl), inr (refl, refl))), tt))

far_no_node : ¬ IsNode five_edges (grid 10 10)
far_no_node = no_node (grid 10 10) (at 0 10 ++ at 0 0) refl refl (2, omega arith, refl) ((_, ((2, omega arith, refl), inr (refl, refl))), ((_, ((0, omega arith, refl), inr (refl, refl))), tt))

left_no_node : ¬ IsNode five_edges (grid 0 10)
left_no_node = no_node (grid 0 10) (at 0 0) refl refl (1, omega arith, refl) ((_, ((0, omega arith, refl), inr (refl, refl))), tt)

-- ---- the line

some_is : (a b : Coord) → Some a ≡ Some b → a ≡ b
some_is a b h = ap (λ o. unwrap_or o a) h

between_ends : (k : ℕ) (p : Coord) → 0 < k → k + 1 < length round_line → slice_get round_line k ≡ Some p → ¬ IsNode five_edges p
between_ends zero p more less is = absurd (omega arith)
between_ends (suc zero) p more less is = subst (λ q. ¬ IsNode five_edges q) (some_is _ _ is) left_no_node
between_ends (suc (suc zero)) p more less is = subst (λ q. ¬ IsNode five_edges q) (some_is _ _ is) far_no_node
between_ends (suc (suc (suc zero))) p more less is = subst (λ q. ¬ IsNode five_edges q) (some_is _ _ is) right_no_node
between_ends (suc (suc (suc (suc zero)))) p more less is = subst (λ q. ¬ IsNode five_edges q) (some_is _ _ is) bottom_middle_no_node
between_ends (suc (suc (suc (suc (suc k))))) p more less is = absurd (omega arith)

the_line : IsLine five_edges round_line
the_line = record {
  long = omega arith;
  walk = All-from_recursion (IsAlongEdge five_edges) (steps round_line) (
    (_, ((0, omega arith, refl), inl (refl, refl))),
    (
      (_, ((2, omega arith, refl), inl (refl, refl))),
      (
        (_, ((4, omega arith, refl), inr (refl, refl))),
        (
          (_, ((3, omega arith, refl), inr (refl, refl))),
          ((_, ((1, omega arith, refl), inr (refl, refl))), tt),
        ),
      ),
    ),
  );
  distinct = segs_apart (chain_edges round_line) refl;
  from = λ p is. subst (IsNode five_edges) (some_is _ _ is) least_node;
  to = λ p is. subst (IsNode five_edges) (some_is _ _ is) least_node;
  between = between_ends;
  direction = refl;
}

-- the edge is one of the line
abbrev IsOfRound : Seg → Type 0
IsOfRound e = Contains (chain_edges round_line) e

the_lines : AreLines five_edges (round_line ∷ [])
the_lines = covering five_edges (round_line ∷ []) (record {
  ascending = λ i j d before within. absurd (omega arith);
  each = All-from_recursion (IsLine five_edges) (round_line ∷ []) (the_line, tt);
  every = λ e has. (round_line, ((0, omega arith, refl), segs_in five_edges (chain_edges round_line) refl e has));
})

-- ---- the run

size_at : (a b c p q r : Coord) → Some a ≡ Some p → Some b ≡ Some q → Some c ≡ Some r → unsigned_abs (turn_of a b c) ≡ unsigned_abs (turn_of p q r)
size_at a b c p q r e f g = λ i. unsigned_abs (turn_of (some_is a p e i) (some_is b q f i) (some_is c r g i))

-- a triangle that is not flat is too large at tolerance 0
too_large : (a b c p q r : Coord) (size : ℕ) → 0 < unsigned_abs (turn_of a b c) → Some a ≡ Some p → Some b ≡ Some q → Some c ≡ Some r → unsigned_abs (turn_of p q r) ≡ size → size ≤ 0 → ⊥
too_large a b c p q r size some e f g is small = let all = size_at a b c p q r e f g in omega (arith)

-- so at the start only the middle of the bottom can be removed
middle_alone : (place : ℕ) (a b c : Coord) (size : ℕ) → point_before [] round_line place ≡ Some a → slice_get round_line place ≡ Some b → point_after [] round_line place ≡ Some c
    → unsigned_abs (turn_of a b c) ≡ size → size ≤ 0 → place ≡ 4
unfolding turn_of
middle_alone zero a b c size e f g is small = absurd (none-some a e)
middle_alone (suc zero) a b c size e f g is small = absurd (too_large (grid 0 0) (grid 0 10) (grid 10 10) a b c size (omega arith) e f g is small)
middle_alone (suc (suc zero)) a b c size e f g is small = absurd (too_large (grid 0 10) (grid 10 10) (grid 10 0) a b c size (omega arith) e f g is small)
middle_alone (suc (suc (suc zero))) a b c size e f g is small = absurd (too_large (grid 10 10) (grid 10 0) (grid 5 0) a b c size (omega arith) e f g is small)
middle_alone (suc (suc (suc (suc zero)))) a b c size e f g is small = refl
middle_alone (suc (suc (suc (suc (suc zero))))) a b c size e f g is small = absurd (none-some c g)
middle_alone (suc (suc (suc (suc (suc (suc k)))))) a b c size e f g is small = absurd (none-some b f)

-- and after it nothing
nothing_left_at : (place : ℕ) (a b c : Coord) (size : ℕ) → point_before (at 5 0) round_line place ≡ Some a → slice_get round_line place ≡ Some b → is_removed (at 5 0) b ≡ false → point_after (at 5 0) round_line place ≡ Some c
    → unsigned_abs (turn_of a b c) ≡ size → size ≤ 0 → ⊥
unfolding turn_of
nothing_left_at zero a b c size e f there g is small = none-some a e
nothing_left_at (suc zero) a b c size e f there g is small = too_large (grid 0 0) (grid 0 10) (grid 10 10) a b c size (omega arith) e f g is small
nothing_left_at (suc (suc zero)) a b c size e f there g is small = too_large (grid 0 10) (grid 10 10) (grid 10 0) a b c size (omega arith) e f g is small
nothing_left_at (suc (suc (suc zero))) a b c size e f there g is small = too_large (grid 10 10) (grid 10 0) (grid 0 0) a b c size (omega arith) e f g is small
nothing_left_at (suc (suc (suc (suc zero)))) a b c size e f there g is small = true≢false (ap (is_removed (at 5 0)) (some_is _ _ f) ∙ there)
nothing_left_at (suc (suc (suc (suc (suc zero))))) a b c size e f there g is small = none-some c g
nothing_left_at (suc (suc (suc (suc (suc (suc k)))))) a b c size e f there g is small = none-some b f

-- ---- the middle of the bottom can be removed

-- the flat triangle at the bottom
abbrev at_bottom : Triangle
at_bottom = record { a = grid 10 0; b = grid 5 0; c = grid 0 0 }

-- a point with another height is not in it
not_flat : (p : Coord) → p.y ≡ pos 10 → ¬ IsInTriangle at_bottom p
not_flat p at_ten h =
    let y : pos 10 *ℤ pos (h.first + h.second + h.third) ≡ pos 0 = (λ i. sym at_ten i *ℤ pos (h.first + h.second + h.third)) ∙ h.y ∙ zeros (pos h.first) (pos h.second) (pos h.third) in
    let weighted = h.weighted in
    omega (arith, ints)
  where
    zeros : (a b c : ℤ) → ((a *ℤ pos 0) +ℤ (b *ℤ pos 0)) +ℤ (c *ℤ pos 0) ≡ pos 0
    zeros a b c = omega (arith, ints)

-- where p is none of the three, it is not in the triangle
abbrev IsFreeOf : Coord → Type 0
IsFreeOf p = p ≢ grid 10 0 → p ≢ grid 5 0 → p ≢ grid 0 0 → ¬ IsInTriangle at_bottom p

free_points : AllByRecursion IsFreeOf round_line
free_points = (
  (λ a b c. absurd (c refl)),
  (
    (λ a b c. not_flat (grid 0 10) refl),
    (
      (λ a b c. not_flat (grid 10 10) refl),
      (
        (λ a b c. absurd (a refl)),
        (
          (λ a b c. absurd (b refl)),
          ((λ a b c. absurd (c refl)), tt),
        ),
      ),
    ),
  ),
)

-- an edge with another end does not lead from (10, 0) to (0, 0)
abbrev joins : Coord → Coord → Seg → Bool
joins a b e = is_same_coord e.lo a && is_same_coord e.hi b

abbrev is_elsewhere : Seg → Bool
is_elsewhere e = not (joins (grid 10 0) (grid 0 0) e || joins (grid 0 0) (grid 10 0) e)

joins_true : (a b : Coord) (e : Seg) → e.lo ≡ a → e.hi ≡ b → joins a b e ≡ true
joins_true a b e h k = and_from _ _ ((Decides-same_coords e.lo a).1 h) ((Decides-same_coords e.hi b).1 k)

elsewhere : (e : Seg) → is_elsewhere e ≡ true → ¬ IsSegBetween (grid 10 0) (grid 0 0) e
elsewhere e h between =
    let neither = or_parts _ _ (not-true _ h) in
    elim between [
      | inl there ↦ false≢true (sym neither.0 ∙ joins_true (grid 10 0) (grid 0 0) e there.0 there.1)
      | inr back ↦ false≢true (sym neither.1 ∙ joins_true (grid 0 0) (grid 10 0) e back.0 back.1)
    ]

abbrev edges_left : List Seg
edges_left = current_edges (round_line ∷ []) []

open_edges : (e : Seg) → Contains edges_left e → ¬ IsSegBetween (grid 10 0) (grid 0 0) e
open_edges e has = elsewhere e (All-contains (λ e. is_elsewhere e ≡ true) edges_left e (AllPass-from_list_all is_elsewhere edges_left refl) has)

abbrev middle : Spot
middle = record { size = 0; line = 0; place = 4 }

middle_triangle : IsTriangleAt (round_line ∷ []) [] middle at_bottom
middle_triangle = record {
  points = round_line;
  line = refl;
  here = refl;
  there = refl;
  from = 3;
  before = record { before = omega arith; at = refl; there = refl; between = λ j p more less is. absurd (omega arith) };
  to = 5;
  after = record { after = omega arith; at = refl; there = refl; between = λ j p more less is. absurd (omega arith) };
}

middle_removable : IsRemovable (straightening the_lines) [] middle
unfolding turn_of middle_triangle
middle_removable = record {
  t = at_bottom;
  triangle = middle_triangle;
  sized = refl;
  small = omega arith;
  free = λ p has. All-contains IsFreeOf round_line p (All-from_recursion IsFreeOf round_line free_points) has;
  open_side = open_edges;
  inner = λ only. absurd (false≢true only);
}

-- no spot is less than the middle
middle_least : (other : Spot) → IsRemovable (straightening the_lines) [] other → IsTrue (is_le (spot_cmp middle other))
middle_least other h =
    let at = of_line round_line [] other h.t h.triangle in
    let none : other.size ≡ 0 = (let small = h.small in omega arith) in
    let place = middle_alone other.place h.t.a h.t.b h.t.c other.size at.before at.here at.after h.sized h.small in
    subst (λ t. IsTrue (is_le (spot_cmp middle t))) (λ i. record { size = sym none i; line = sym at.line i; place = sym place i }) refl

middle_next : IsNextPoint (straightening the_lines) [] (grid 5 0)
middle_next = record { spot = middle; removable = middle_removable; least = middle_least; is = refl }

run_ends : IsFinalState (straightening the_lines) (at 5 0)
run_ends = record {
  run = (tt, middle_next);
  done = λ spot h. (
      let at = of_line round_line (at 5 0) spot h.t h.triangle in
      nothing_left_at spot.place h.t.a h.t.b h.t.c spot.size at.before at.here at.there at.after h.sized h.small);
}

-- ---- the coverage

abbrev uses : List EdgeUse
uses = uses_of bent_square

abbrev five_pairs : List OddUse
five_pairs = pairs 0 (0 ∷ 1 ∷ 2 ∷ 3 ∷ 4 ∷ [])

abbrev StandsForEdge : OddUse → Type 0
StandsForEdge o = (e : Seg) × ((slice_get five_edges o.edge ≡ Some e) × IsOdd uses o.member e)

odd_member : (m : ℕ) (e : Seg) → IsOdd uses m e → m ≡ 0
odd_member m e h =
    let found = some_passes (λ u. (u.member == m) && is_same_seg e u.seg) uses h in
    let its = (Decides-eqb (found.0).member m).0 (and_parts _ _ found.1.1).0 in
    sym its ∙ All-contains (λ u. u.member ≡ 0) uses found.0 (All-from_recursion (λ u. u.member ≡ 0) uses (refl, (refl, (refl, (refl, (refl, tt)))))) found.1.0

pair_at : (m k : ℕ) → m ≡ 0 → k < 5 → Contains five_pairs (record { member = m; edge = k })
pair_at m zero none below = (0, omega arith, λ i. record { member = sym none i; edge = 0 })
pair_at m (suc zero) none below = (1, omega arith, λ i. record { member = sym none i; edge = 1 })
pair_at m (suc (suc zero)) none below = (2, omega arith, λ i. record { member = sym none i; edge = 2 })
pair_at m (suc (suc (suc zero))) none below = (3, omega arith, λ i. record { member = sym none i; edge = 3 })
pair_at m (suc (suc (suc (suc zero)))) none below = (4, omega arith, λ i. record { member = sym none i; edge = 4 })
pair_at m (suc (suc (suc (suc (suc k))))) none below = absurd (omega arith)

the_edges : AreEdges uses five_edges five_pairs
the_edges = record {
  ascending = AllPairs-from_recursion (λ e f. IsTrue (is_seg_before e f)) five_edges ((refl, (refl, (refl, (refl, tt)))), ((refl, (refl, (refl, tt))), ((refl, (refl, tt)), ((refl, tt), (tt, tt)))));
  exact = λ e. (segs_in five_edges (segments uses) refl e, segs_in (segments uses) five_edges refl e);
  pairs = record {
    ascending = AllPairs-from_recursion (λ o p. IsTrue (is_odd_before o p)) five_pairs ((refl, (refl, (refl, (refl, tt)))), ((refl, (refl, (refl, tt))), ((refl, (refl, tt)), ((refl, tt), (tt, tt)))));
    exact = λ o. (
      (λ has. All-contains StandsForEdge five_pairs o (All-from_recursion StandsForEdge five_pairs ((_, (refl, refl)), ((_, (refl, refl)), ((_, (refl, refl)), ((_, (refl, refl)), ((_, (refl, refl)), tt)))))) has),
      (λ h. pair_at o.member o.edge (odd_member o.member h.0 h.1.1) (slice_get_within five_edges o.edge h.0 h.1.0)),
    );
  };
}

abbrev so_simplified : IsSimplificationOf bent_square 0 false (straightening the_lines)
so_simplified = record { by_uses = refl; odd = five_pairs; are_edges = the_edges; by_tolerance = refl; by_flag = refl }

pub run_examples : RunExamples
run_examples = record {
  node = least_node;
  no_node = bottom_middle_no_node;
  lines = the_lines;
  removable = middle_removable;
  not_removable = λ h. (let small = h.small in omega arith);
  next = middle_next;
  final = run_ends;
  simplified = record {
    s = straightening the_lines;
    of = so_simplified;
    removed = at 5 0;
    final = run_ends;
    without = refl;
  };
  not_exhausted = λ h. nothing_left bent_square 0 false h (straightening the_lines) so_simplified middle middle_removable;
}
