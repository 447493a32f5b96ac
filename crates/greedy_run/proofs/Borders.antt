-- Two neighbours with a bent common border: their lines.
use mathlib.Core.List.{[], ◌∷◌}
use Rattle.std.proofs.Common.{◌≡◌, inl, inr, refl, ap, subst, ℕ, zero, suc, ◌+◌, ◌<◌, true, List, length, IsTrue, arith}
use Rattle.std.specs.Prelude.{Contains, Some, slice_get, unwrap_or}
use Rattle.std.specs.Ordering.{is_lt}
use Rattle.std.proofs.lemmas.Bool.{false≢true}
use Rattle.std.proofs.lemmas.List.Elements.{All-from_recursion, All-contains}
use Rattle.cov_types.specs.declared.coord.Coord.{Coord}
use Rattle.cov_types.specs.declared.edge_use.EdgeUse.{EdgeUse}
use Rattle.cov_types.specs.declared.seg.Seg.{Seg}
use Rattle.cov_types.specs.Coord.{points_cmp}
use Rattle.cov_types.specs.Uses.{uses_of}
use Rattle.plane.specs.Examples.{grid, segment}
use Rattle.plane.specs.Snapping.{chain_edges}
use Rattle.crossing_laws.specs.Across.{is_same_seg}
use Rattle.arrangement.proofs.Short.{AllPairs-from_recursion, segs_apart}
use Rattle.greedy_run.specs.Lines.{degree, steps, IsAlongEdge, IsNode, IsLine, AreLines}
use Rattle.greedy_run.specs.Run.{IsInner}
use Rattle.greedy_run.specs.Borders.{neighbours, neighbour_edges, left_line, inner_line, right_line}
use Rattle.greedy_run.proofs.OneLine.{covering}

-- ---- nodes

pub low_node : IsNode neighbour_edges (grid 10 0)
low_node = record { vertex = omega arith; node = inl (λ two. omega arith) }

high_node : IsNode neighbour_edges (grid 10 10)
high_node = record { vertex = omega arith; node = inl (λ two. omega arith) }

-- a point of degree 2 that an edge leads from to a point of degree 3 is no node
no_node : (p q : Coord) → degree neighbour_edges p ≡ 2 → degree neighbour_edges q ≡ 3 → IsAlongEdge neighbour_edges (p, q) → ¬ IsNode neighbour_edges p
no_node p q two three along node =
    elim node.node [
      | inl other ↦ other two
      | inr loop ↦ (
          let all = loop (q ∷ []) (All-from_recursion (IsAlongEdge neighbour_edges) (steps (p ∷ q ∷ [])) (along, tt)) in
          let its : degree neighbour_edges q ≡ 2 = (all 1 q (omega arith)).0 in
          omega arith)
    ]

south_west : ¬ IsNode neighbour_edges (grid 0 0)
south_west = no_node (grid 0 0) (grid 10 0) refl refl (_, ((1, omega arith, refl), inl (refl, refl)))

north_west : ¬ IsNode neighbour_edges (grid 0 10)
north_west = no_node (grid 0 10) (grid 10 10) refl refl (_, ((2, omega arith, refl), inl (refl, refl)))

pub bent : ¬ IsNode neighbour_edges (grid 11 5)
bent = no_node (grid 11 5) (grid 10 0) refl refl (_, ((3, omega arith, refl), inr (refl, refl)))

south_east : ¬ IsNode neighbour_edges (grid 20 0)
south_east = no_node (grid 20 0) (grid 10 0) refl refl (_, ((4, omega arith, refl), inr (refl, refl)))

north_east : ¬ IsNode neighbour_edges (grid 20 10)
north_east = no_node (grid 20 10) (grid 10 10) refl refl (_, ((6, omega arith, refl), inr (refl, refl)))

-- ---- lines

some_is : (a b : Coord) → Some a ≡ Some b → a ≡ b
some_is a b h = ap (λ o. unwrap_or o a) h

abbrev IsNoNode : Coord → Type 0
IsNoNode q = ¬ IsNode neighbour_edges q

left_between : (k : ℕ) (p : Coord) → 0 < k → k + 1 < length left_line → slice_get left_line k ≡ Some p → IsNoNode p
left_between zero p more less is = absurd (omega arith)
left_between (suc zero) p more less is = subst IsNoNode (some_is _ _ is) south_west
left_between (suc (suc zero)) p more less is = subst IsNoNode (some_is _ _ is) north_west
left_between (suc (suc (suc k))) p more less is = absurd (omega arith)

inner_between : (k : ℕ) (p : Coord) → 0 < k → k + 1 < length inner_line → slice_get inner_line k ≡ Some p → IsNoNode p
inner_between zero p more less is = absurd (omega arith)
inner_between (suc zero) p more less is = subst IsNoNode (some_is _ _ is) bent
inner_between (suc (suc k)) p more less is = absurd (omega arith)

right_between : (k : ℕ) (p : Coord) → 0 < k → k + 1 < length right_line → slice_get right_line k ≡ Some p → IsNoNode p
right_between zero p more less is = absurd (omega arith)
right_between (suc zero) p more less is = subst IsNoNode (some_is _ _ is) south_east
right_between (suc (suc zero)) p more less is = subst IsNoNode (some_is _ _ is) north_east
right_between (suc (suc (suc k))) p more less is = absurd (omega arith)

is_left : IsLine neighbour_edges left_line
is_left = record {
  long = omega arith;
  walk = All-from_recursion (IsAlongEdge neighbour_edges) (steps left_line) ((_, ((1, omega arith, refl), inr (refl, refl))), ((_, ((0, omega arith, refl), inl (refl, refl))), ((_, ((2, omega arith, refl), inl (refl, refl))), tt)));
  distinct = segs_apart (chain_edges left_line) refl;
  from = λ p is. subst (IsNode neighbour_edges) (some_is _ _ is) low_node;
  to = λ p is. subst (IsNode neighbour_edges) (some_is _ _ is) high_node;
  between = left_between;
  direction = refl;
}

is_inner : IsLine neighbour_edges inner_line
is_inner = record {
  long = omega arith;
  walk = All-from_recursion (IsAlongEdge neighbour_edges) (steps inner_line) ((_, ((3, omega arith, refl), inl (refl, refl))), ((_, ((5, omega arith, refl), inr (refl, refl))), tt));
  distinct = segs_apart (chain_edges inner_line) refl;
  from = λ p is. subst (IsNode neighbour_edges) (some_is _ _ is) low_node;
  to = λ p is. subst (IsNode neighbour_edges) (some_is _ _ is) high_node;
  between = inner_between;
  direction = refl;
}

is_right : IsLine neighbour_edges right_line
is_right = record {
  long = omega arith;
  walk = All-from_recursion (IsAlongEdge neighbour_edges) (steps right_line) ((_, ((4, omega arith, refl), inl (refl, refl))), ((_, ((7, omega arith, refl), inl (refl, refl))), ((_, ((6, omega arith, refl), inr (refl, refl))), tt)));
  distinct = segs_apart (chain_edges right_line) refl;
  from = λ p is. subst (IsNode neighbour_edges) (some_is _ _ is) low_node;
  to = λ p is. subst (IsNode neighbour_edges) (some_is _ _ is) high_node;
  between = right_between;
  direction = refl;
}

abbrev three_lines : List (List Coord)
three_lines = left_line ∷ inner_line ∷ right_line ∷ []

-- the edge is one of some line
abbrev IsOfSome : Seg → Type 0
IsOfSome e = (points : List Coord) × (Contains three_lines points × Contains (chain_edges points) e)

of_left : (k : ℕ) (e : Seg) → Contains (chain_edges left_line) e → IsOfSome e
of_left k e has = (left_line, ((0, omega arith, refl), has))

of_inner : (k : ℕ) (e : Seg) → Contains (chain_edges inner_line) e → IsOfSome e
of_inner k e has = (inner_line, ((1, omega arith, refl), has))

of_right : (k : ℕ) (e : Seg) → Contains (chain_edges right_line) e → IsOfSome e
of_right k e has = (right_line, ((2, omega arith, refl), has))

pub neighbour_lines : AreLines neighbour_edges three_lines
neighbour_lines = covering neighbour_edges three_lines (record {
  ascending = AllPairs-from_recursion (λ l m. IsTrue (is_lt (points_cmp l m))) three_lines ((refl, (refl, tt)), ((refl, tt), (tt, tt)));
  each = All-from_recursion (IsLine neighbour_edges) three_lines (is_left, (is_inner, (is_right, tt)));
  every = λ e has. All-contains IsOfSome neighbour_edges e (All-from_recursion IsOfSome neighbour_edges (
    of_left 1 _ (1, omega arith, refl),
    (
      of_left 0 _ (0, omega arith, refl),
      (
        of_left 2 _ (2, omega arith, refl),
        (
          of_inner 0 _ (0, omega arith, refl),
          (
            of_right 0 _ (0, omega arith, refl),
            (
              of_inner 1 _ (1, omega arith, refl),
              (of_right 2 _ (2, omega arith, refl), (of_right 1 _ (1, omega arith, refl), tt)),
            ),
          ),
        ),
      ),
    ),
  )) has;
})

-- ---- the common border

abbrev UsedBy : ℕ → Seg → Type 0
UsedBy m e = Contains (uses_of neighbours) (record { member = m; seg = e })

pub border_inner : IsInner (uses_of neighbours) inner_line
border_inner = record {
  one = 0;
  other = 1;
  different = omega arith;
  of_one = λ e has. All-contains (UsedBy 0) (chain_edges inner_line) e (All-from_recursion (UsedBy 0) (chain_edges inner_line) ((1, omega arith, refl), ((2, omega arith, refl), tt))) has;
  of_other = λ e has. All-contains (UsedBy 1) (chain_edges inner_line) e (All-from_recursion (UsedBy 1) (chain_edges inner_line) ((9, omega arith, refl), ((8, omega arith, refl), tt))) has;
}

-- only the member 0 has the western side
abbrev west : Seg
west = segment (grid 0 0) (grid 0 10) refl

abbrev IsOfFirst : EdgeUse → Type 0
IsOfFirst u = is_same_seg west u.seg ≡ true → u.member ≡ 0

west_first : (u : EdgeUse) → Contains (uses_of neighbours) u → IsOfFirst u
west_first u has = All-contains IsOfFirst (uses_of neighbours) u (All-from_recursion IsOfFirst (uses_of neighbours) (
  (λ h. refl),
  (
    (λ h. refl),
    (
      (λ h. refl),
      (
        (λ h. refl),
        (
          (λ h. refl),
          (
            (λ h. absurd (false≢true h)),
            (
              (λ h. absurd (false≢true h)),
              ((λ h. absurd (false≢true h)), ((λ h. absurd (false≢true h)), ((λ h. absurd (false≢true h)), tt))),
            ),
          ),
        ),
      ),
    ),
  ),
)) has

pub left_not_inner : ¬ IsInner (uses_of neighbours) left_line
left_not_inner h =
    let zero_is = west_first (record { member = h.other; seg = west }) (h.of_other west (1, omega arith, refl)) refl in
    let apart = h.different in
    omega arith
