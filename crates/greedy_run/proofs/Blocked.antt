-- A triangle, from which nothing can be removed: the opposite side of each point is an edge.
use mathlib.Core.List.{[], ◌∷◌}
use Rattle.std.proofs.Common.{◌≡◌, inl, inr, refl, sym, ◌∙◌, ap, subst, ℕ, zero, suc, ◌+◌, ◌<◌, ◌==◌, ◌&&◌, true, false, List, length, IsTrue, arith}
use Rattle.std.specs.Prelude.{All, Contains, Some, slice_get, unwrap_or}
use Rattle.std.proofs.lemmas.Bool.{and_parts, false≢true}
use Rattle.std.proofs.lemmas.Bool.Decides.{Decides-eqb}
use Rattle.std.proofs.lemmas.List.Elements.{All-from_recursion, All-contains, All-nil, All-cons, All-head, All-tail}
use Rattle.std.proofs.lemmas.Option.{none-some, slice_get_within}
use Rattle.cov_types.specs.declared.coord.Coord.{Coord}
use Rattle.cov_types.specs.declared.edge_use.EdgeUse.{EdgeUse}
use Rattle.cov_types.specs.declared.seg.Seg.{Seg}
use Rattle.cov_types.specs.Coord.{is_before}
use Rattle.cov_types.specs.Seg.{IsSegBetween, is_seg_before}
use Rattle.cov_types.specs.Uses.{uses_of}
use Rattle.plane.specs.Examples.{grid}
use Rattle.plane.specs.Snapping.{chain_edges}
use Rattle.crossing_laws.specs.Across.{is_same_seg}
use Rattle.arrangement.specs.declared.odd_use.OddUse.{OddUse}
use Rattle.arrangement.specs.Examples.{pairs}
use Rattle.arrangement.specs.Noding.{segments, IsOdd, is_odd_before, AreEdges}
use Rattle.arrangement.proofs.OddUses.{some_passes}
use Rattle.arrangement.proofs.Short.{AllPairs-from_recursion, segs_apart, segs_in}
use Rattle.greedy_run.specs.Lines.{degree, steps, IsAlongEdge, IsPathAlong, IsNode, IsLine, AreLines}
use Rattle.greedy_run.specs.Run.{current_edges, point_before, point_after, Simplification, IsFinalState, IsSimplified, IsExhausted}
use Rattle.greedy_run.specs.Borders.{triangle, triangle_edges, triangle_line}
use Rattle.greedy_run.proofs.OneLine.{covering}
use Rattle.greedy_run.proofs.Spots.{of_line}

-- ---- its line

abbrev IsOfLoop : Coord → Type 0
IsOfLoop q = (degree triangle_edges q ≡ 2) × (is_before q (grid 0 0) ≡ false)

record HasEndsOfLoop (e : Seg) : Type 0 where
  lo : IsOfLoop e.lo
  hi : IsOfLoop e.hi

along_path : All HasEndsOfLoop triangle_edges → (q : Coord) (path : List Coord) → IsOfLoop q → IsPathAlong triangle_edges (q ∷ path) → All IsOfLoop (q ∷ path)
along_path ends q [] here leads = All-cons IsOfLoop q [] here (All-nil IsOfLoop)
along_path ends q (r ∷ path) here leads =
    let step = All-head (IsAlongEdge triangle_edges) (q, r) (steps (r ∷ path)) leads in
    let both = All-contains HasEndsOfLoop triangle_edges step.0 ends step.1.0 in
    let there : IsOfLoop r = elim step.1.1 [
      | inl forwards ↦ subst IsOfLoop forwards.1 both.hi
      | inr backwards ↦ subst IsOfLoop backwards.0 both.lo
    ] in
    All-cons IsOfLoop q (r ∷ path) here (along_path ends r path there (All-tail (IsAlongEdge triangle_edges) (q, r) (steps (r ∷ path)) leads))

corner_node : IsNode triangle_edges (grid 0 0)
corner_node = record {
  vertex = omega arith;
  node = inr (λ path leads. along_path (All-from_recursion HasEndsOfLoop triangle_edges (
    record { lo = (refl, refl); hi = (refl, refl) },
    (record { lo = (refl, refl); hi = (refl, refl) }, (record { lo = (refl, refl); hi = (refl, refl) }, tt)),
  )) (grid 0 0) path (refl, refl) leads);
}

no_node : (p : Coord) → degree triangle_edges p ≡ 2 → is_before (grid 0 0) p ≡ true → IsAlongEdge triangle_edges (p, grid 0 0) → ¬ IsNode triangle_edges p
no_node p two before along node =
    elim node.node [
      | inl other ↦ other two
      | inr loop ↦ (
          let all = loop (grid 0 0 ∷ []) (All-from_recursion (IsAlongEdge triangle_edges) (steps (p ∷ grid 0 0 ∷ [])) (along, tt)) in
          false≢true (sym (all 1 p (omega arith)).1 ∙ before))
    ]

some_is : (a b : Coord) → Some a ≡ Some b → a ≡ b
some_is a b h = ap (λ o. unwrap_or o a) h

between_ends : (k : ℕ) (p : Coord) → 0 < k → k + 1 < length triangle_line → slice_get triangle_line k ≡ Some p → ¬ IsNode triangle_edges p
between_ends zero p more less is = absurd (omega arith)
between_ends (suc zero) p more less is = subst (λ q. ¬ IsNode triangle_edges q) (some_is _ _ is) (no_node (grid 0 4) refl refl (_, ((0, omega arith, refl), inr (refl, refl))))
between_ends (suc (suc zero)) p more less is = subst (λ q. ¬ IsNode triangle_edges q) (some_is _ _ is) (no_node (grid 4 0) refl refl (_, ((1, omega arith, refl), inr (refl, refl))))
between_ends (suc (suc (suc k))) p more less is = absurd (omega arith)

is_line : IsLine triangle_edges triangle_line
is_line = record {
  long = omega arith;
  walk = All-from_recursion (IsAlongEdge triangle_edges) (steps triangle_line) ((_, ((0, omega arith, refl), inl (refl, refl))), ((_, ((2, omega arith, refl), inl (refl, refl))), ((_, ((1, omega arith, refl), inr (refl, refl))), tt)));
  distinct = segs_apart (chain_edges triangle_line) refl;
  from = λ p is. subst (IsNode triangle_edges) (some_is _ _ is) corner_node;
  to = λ p is. subst (IsNode triangle_edges) (some_is _ _ is) corner_node;
  between = between_ends;
  direction = refl;
}

pub triangle_lines : AreLines triangle_edges (triangle_line ∷ [])
triangle_lines = covering triangle_edges (triangle_line ∷ []) (record {
  ascending = λ i j d before within. absurd (omega arith);
  each = All-from_recursion (IsLine triangle_edges) (triangle_line ∷ []) (is_line, tt);
  every = λ e has. (triangle_line, ((0, omega arith, refl), segs_in triangle_edges (chain_edges triangle_line) refl e has));
})

-- ---- no point can be removed

abbrev what : Simplification
what = record { uses = uses_of triangle; edges = triangle_edges; lines = triangle_line ∷ []; are_lines = triangle_lines; tolerance = 1000; inner_only = false }

abbrev IsCurrent : Seg → Type 0
IsCurrent e = Contains (current_edges (triangle_line ∷ []) []) e

-- the side between the neighbours is there
side_there : (a c p q : Coord) (e : Seg) → ((e : Seg) → IsCurrent e → ¬ IsSegBetween a c e) → IsCurrent e → Some p ≡ Some a → Some q ≡ Some c → IsSegBetween p q e → ⊥
side_there a c p q e open_side here is_a is_c between =
    open_side e here (subst (λ x. IsSegBetween x c e) (some_is p a is_a) (subst (λ y. IsSegBetween p y e) (some_is q c is_c) between))

stays : (place : ℕ) (a b c : Coord) → point_before [] triangle_line place ≡ Some a → slice_get triangle_line place ≡ Some b → point_after [] triangle_line place ≡ Some c
    → ((e : Seg) → IsCurrent e → ¬ IsSegBetween a c e) → ⊥
stays zero a b c before here after open_side = none-some a before
stays (suc zero) a b c before here after open_side = side_there a c (grid 0 0) (grid 4 0) _ open_side (2, omega arith, refl) before after (inl (refl, refl))
stays (suc (suc zero)) a b c before here after open_side = side_there a c (grid 0 4) (grid 0 0) _ open_side (0, omega arith, refl) before after (inr (refl, refl))
stays (suc (suc (suc zero))) a b c before here after open_side = none-some c after
stays (suc (suc (suc (suc k)))) a b c before here after open_side = none-some b here

nothing_removable : IsFinalState what []
nothing_removable = record {
  run = tt;
  done = λ spot h. (let at = of_line triangle_line [] spot h.t h.triangle in stays spot.place h.t.a h.t.b h.t.c at.before at.here at.after h.open_side);
}

-- ---- so it stays as it is

abbrev uses : List EdgeUse
uses = uses_of triangle

abbrev three_pairs : List OddUse
three_pairs = pairs 0 (0 ∷ 1 ∷ 2 ∷ [])

abbrev StandsForEdge : OddUse → Type 0
StandsForEdge o = (e : Seg) × ((slice_get triangle_edges o.edge ≡ Some e) × IsOdd uses o.member e)

odd_member : (m : ℕ) (e : Seg) → IsOdd uses m e → m ≡ 0
odd_member m e h =
    let found = some_passes (λ u. (u.member == m) && is_same_seg e u.seg) uses h in
    let its = (Decides-eqb (found.0).member m).0 (and_parts _ _ found.1.1).0 in
    sym its ∙ All-contains (λ u. u.member ≡ 0) uses found.0 (All-from_recursion (λ u. u.member ≡ 0) uses (refl, (refl, (refl, tt)))) found.1.0

pair_at : (m k : ℕ) → m ≡ 0 → k < 3 → Contains three_pairs (record { member = m; edge = k })
pair_at m zero none below = (0, omega arith, λ i. record { member = sym none i; edge = 0 })
pair_at m (suc zero) none below = (1, omega arith, λ i. record { member = sym none i; edge = 1 })
pair_at m (suc (suc zero)) none below = (2, omega arith, λ i. record { member = sym none i; edge = 2 })
pair_at m (suc (suc (suc k))) none below = absurd (omega arith)

the_edges : AreEdges uses triangle_edges three_pairs
the_edges = record {
  ascending = AllPairs-from_recursion (λ e f. IsTrue (is_seg_before e f)) triangle_edges ((refl, (refl, tt)), ((refl, tt), (tt, tt)));
  exact = λ e. (segs_in triangle_edges (segments uses) refl e, segs_in (segments uses) triangle_edges refl e);
  pairs = record {
    ascending = AllPairs-from_recursion (λ o p. IsTrue (is_odd_before o p)) three_pairs ((refl, (refl, tt)), ((refl, tt), (tt, tt)));
    exact = λ o. (
      (λ has. All-contains StandsForEdge three_pairs o (All-from_recursion StandsForEdge three_pairs ((_, (refl, refl)), ((_, (refl, refl)), ((_, (refl, refl)), tt)))) has),
      (λ h. pair_at o.member o.edge (odd_member o.member h.0 h.1.1) (slice_get_within triangle_edges o.edge h.0 h.1.0)),
    );
  };
}

pub stays_as_it_is : IsSimplified triangle 1000 false triangle
stays_as_it_is = record {
  s = what;
  of = record { by_uses = refl; odd = three_pairs; are_edges = the_edges; by_tolerance = refl; by_flag = refl };
  removed = [];
  final = nothing_removable;
  without = refl;
}

pub nothing_to_remove : IsExhausted triangle 1000 false
nothing_to_remove = record {
  s = what;
  of = record { by_uses = refl; odd = three_pairs; are_edges = the_edges; by_tolerance = refl; by_flag = refl };
  done = nothing_removable.done;
}
