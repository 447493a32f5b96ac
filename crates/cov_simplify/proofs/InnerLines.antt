-- Who has one segment of a line has all, so a line is inner where two members have its first.
use mathlib.Core.List.{[], ◌∷◌}
use Rattle.std.proofs.Common.{◌≡◌, ◌≢◌, ◌⊎◌, ◌↔◌, inl, inr, refl, sym, ◌∙◌, ap, subst, ℕ, zero, suc, ◌+◌, ◌-◌, ◌<◌, ◌≤◌, ◌%◌, ◌==◌, ◌&&◌, ◌||◌, Bool, true, false, cond, List, length, get_or, nat_lt, IsTrue, arith}
use Rattle.std.specs.Prelude.{AllPairs, Contains, count_by, sum_by, Some, slice_get, slice_index}
use Rattle.std.proofs.lemmas.Bool.{and_parts, or_cases, cases_lt, ltb-true}
use Rattle.std.proofs.lemmas.Bool.Decides.{Decides-eqb}
use Rattle.std.proofs.lemmas.List.Sums.{sum_by-cons}
use Rattle.std.proofs.lemmas.Option.{slice_get_within, get_or_from_slice_get}
use Rattle.cov_types.specs.declared.coord.Coord.{Coord}
use Rattle.cov_types.specs.declared.edge_use.EdgeUse.{EdgeUse}
use Rattle.cov_types.specs.declared.seg.Seg.{Seg}
use Rattle.cov_types.specs.Coord.{is_same_coord}
use Rattle.cov_types.specs.Seg.{IsSegBetween}
use Rattle.cov_types.specs.Uses.{ends_inside, HasEvenEnds}
use Rattle.cov_types.proofs.Equal.{Decides-same_segs}
use Rattle.plane.specs.Snapping.{chain_edges}
use Rattle.plane.specs.Validity.{IsValid}
use Rattle.crossing_laws.proofs.Lists.{contains_here, contains_there, contains-map}
use Rattle.crossing_laws.specs.Across.{is_same_seg}
use Rattle.arrangement.specs.declared.odd_use.OddUse.{OddUse}
use Rattle.arrangement.specs.Noding.{AreEdges, IsOdd, is_odd_before}
use Rattle.greedy_run.specs.Lines.{degree, IsLine, IsNode}
use Rattle.greedy_run.specs.Run.{IsInner}
use Rattle.greedy_run.proofs.OneLine.{along, edge_at, step_of, thread}
use Rattle.greedy_run.proofs.Threads.{some_counted, three_counted, two_edges, one_seg, seg_turned, ends_at}
use Rattle.greedy_run.proofs.Trails.{coord_or, seg_or, some_passes}
use Rattle.removal_laws.proofs.Counts.{counts_use, has_times, times_has, repeated_of, one_of_sum, sum_at_most}
use Rattle.removal_laws.proofs.Exchange.{not_seg, one_end, no_end_at, ends_of_first, ends_of_second, ends_of_third}
use Rattle.cov_simplify.specs.Inner.{AreCountedUses}

-- ---- two elements that pass

record AreTwo {X : Type 0} (R : X → X → Type 0) (p : X → Bool) (xs : List X) : Type 0 where
  x : X
  y : X
  has_x : Contains xs x
  has_y : Contains xs y
  x_passes : p x ≡ true
  y_passes : p y ≡ true
  related : R x y

two_related : {X : Type 0} (R : X → X → Type 0) (p : X → Bool) (xs : List X) → AllPairs R xs → 2 ≤ count_by p xs → AreTwo R p xs
two_related R p [] apart h = absurd (omega arith)
two_related R p (x ∷ xs) apart h = by (two_related R p xs (λ i j d less within. apart (suc i) (suc j) d (omega arith) (omega arith))) (p x) refl
  where
    counted : count_by p (x ∷ xs) ≡ cond (p x) 1 0 + count_by p xs
    counted = sum_by-cons (λ z. cond (p z) 1 0) x xs

    first_with : (y : _) → Contains xs y → R x y
    first_with y (k, inside, is) = subst (R x) is (apart 0 (suc k) y (omega arith) (omega arith))

    by : (2 ≤ count_by p xs → AreTwo R p xs) → (b : Bool) → p x ≡ b → AreTwo R p (x ∷ xs)
    by later true is =
        let one : cond {A = ℕ} (p x) 1 0 ≡ 1 = ap (λ b. cond {A = ℕ} b 1 0) is in
        let (y, (has, passes)) = some_passes p xs (omega (arith, counted, one, h)) in
        record { x = x; y = y; has_x = contains_here x xs; has_y = contains_there x y xs has; x_passes = is; y_passes = passes; related = first_with y has }
    by later false is =
        let none : cond {A = ℕ} (p x) 1 0 ≡ 0 = ap (λ b. cond {A = ℕ} b 1 0) is in
        let rest = later (omega (arith, counted, none, h)) in
        record { x = rest.x; y = rest.y; has_x = contains_there x rest.x xs rest.has_x; has_y = contains_there x rest.y xs rest.has_y; x_passes = rest.x_passes; y_passes = rest.y_passes; related = rest.related }

later_one : {X : Type 0} (z : X) (xs : List X) (x : X) → Contains (z ∷ xs) x → x ≢ z → Contains xs x
later_one z xs x (zero, inside, is) differ = absurd (differ (sym is))
later_one z xs x (suc k, inside, is) differ = (k, omega arith, is)

both_counted : {X : Type 0} (p : X → Bool) (xs : List X) (x y : X) → Contains xs x → Contains xs y → p x ≡ true → p y ≡ true → x ≢ y → 2 ≤ count_by p xs
both_counted p [] x y (k, inside, is) b hx hy differ = absurd (omega arith)
both_counted p (z ∷ xs) x y (zero, inside, is) b hx hy differ =
    let first : cond {A = ℕ} (p z) 1 0 ≡ 1 = ap (λ b. cond {A = ℕ} b 1 0) (ap p is ∙ hx) in
    let rest = some_counted p xs y (later_one z xs y b (λ same. differ (sym (same ∙ is)))) hy in
    omega (arith, sum_by-cons (λ w. cond (p w) 1 0) z xs, first, rest)
both_counted p (z ∷ xs) x y (suc k, inside, is) (zero, inside_y, is_y) hx hy differ =
    let first : cond {A = ℕ} (p z) 1 0 ≡ 1 = ap (λ b. cond {A = ℕ} b 1 0) (ap p is_y ∙ hy) in
    let rest = some_counted p xs x (k, omega arith, is) hx in
    omega (arith, sum_by-cons (λ w. cond (p w) 1 0) z xs, first, rest)
both_counted p (z ∷ xs) x y (suc k, inside, is) (suc j, inside_y, is_y) hx hy differ =
    let rest = both_counted p xs x y (k, omega arith, is) (j, omega arith, is_y) hx hy differ in
    omega (arith, sum_by-cons (λ w. cond (p w) 1 0) z xs, rest)

some_of_odd : (n : ℕ) → n % 2 ≡ 1 → 1 ≤ n
some_of_odd zero h = absurd (omega arith)
some_of_odd (suc n) h = omega arith

-- a segment ends at the point or not
ends_or_off : (v : Coord) (e : Seg) → ((e.lo ≡ v) ⊎ (e.hi ≡ v)) ⊎ ((e.lo ≢ v) × (e.hi ≢ v))
ends_or_off v e =
    elim (coord_or e.lo v) [
      | inl lo ↦ inl (inl lo)
      | inr off_lo ↦ elim (coord_or e.hi v) [
        | inl hi ↦ inl (inr hi)
        | inr off_hi ↦ inr (off_lo, off_hi)
      ]
    ]

module _ (uses : List EdgeUse) (valid : IsValid uses) (edges : List Seg) (odd : List OddUse) (are : AreEdges uses edges odd) where
  once : (m : ℕ) (e : Seg) → sum_by (counts_use m e) uses ≤ 1
  once m e =
      elim (cases_lt 1 (sum_by (counts_use m e) uses)) [
        | inl twice ↦ absurd (valid.once (record { member = m; seg = e }) (repeated_of uses m e (omega arith)))
        | inr most ↦ omega arith
      ]

  -- ---- the members of an edge

  module _ (k : ℕ) (e : Seg) (at : slice_get edges k ≡ Some e) where
    some_is : (f : Seg) → slice_get edges k ≡ Some f → f ≡ e
    some_is f is = sym (get_or_from_slice_get edges k f e is) ∙ get_or_from_slice_get edges k e e at

    use_of_pair : (m : ℕ) → Contains odd (record { member = m; edge = k }) → Contains uses (record { member = m; seg = e })
    use_of_pair m has =
        let (f, (is, is_odd)) = (are.pairs.exact (record { member = m; edge = k })).0 has in
        times_has uses m e (some_of_odd (sum_by (counts_use m e) uses) (subst (IsOdd uses m) (some_is f is) is_odd))

    pair_of_use : (m : ℕ) → Contains uses (record { member = m; seg = e }) → Contains odd (record { member = m; edge = k })
    pair_of_use m has =
        let least = has_times uses m e has in
        let most = once m e in
        let one : sum_by (counts_use m e) uses ≡ 1 = omega arith in
        (are.pairs.exact (record { member = m; edge = k })).1 (e, (at, ap (λ n. n % 2) one))

    pub record HasTwo : Type 0 where
      pub one : ℕ
      pub other : ℕ
      pub different : one < other
      pub of_one : Contains uses (record { member = one; seg = e })
      pub of_other : Contains uses (record { member = other; seg = e })

    pair_here : (o : OddUse) → Contains odd o → (o.edge == k) ≡ true → Contains odd (record { member = o.member; edge = k })
    pair_here o has is = subst (λ n. Contains odd (record { member = o.member; edge = n })) ((Decides-eqb o.edge k).0 is) has

    two_members : 2 ≤ count_by (λ o. o.edge == k) odd → HasTwo
    two_members h =
        let two = two_related (λ o p. IsTrue (is_odd_before o p)) (λ o. o.edge == k) odd are.pairs.ascending h in
        record {
          one = two.x.member;
          other = two.y.member;
          different = less two.x two.y two.related ((Decides-eqb two.x.edge k).0 two.x_passes) ((Decides-eqb two.y.edge k).0 two.y_passes);
          of_one = use_of_pair two.x.member (pair_here two.x two.has_x two.x_passes);
          of_other = use_of_pair two.y.member (pair_here two.y two.has_y two.y_passes);
        }
      where
        less : (o p : OddUse) → IsTrue (is_odd_before o p) → o.edge ≡ k → p.edge ≡ k → o.member < p.member
        less o p before is_o is_p =
            elim (or_cases (nat_lt o.member p.member) ((o.member == p.member) && nat_lt o.edge p.edge) before) [
              | inl first ↦ ltb-true o.member p.member first
              | inr second ↦ absurd (let more = ltb-true o.edge p.edge (and_parts _ _ second).1 in omega arith)
            ]

    members_two : (one other : ℕ) → one < other → Contains uses (record { member = one; seg = e }) → Contains uses (record { member = other; seg = e }) → 2 ≤ count_by (λ o. o.edge == k) odd
    members_two one other differ has_one has_other =
        both_counted (λ o. o.edge == k) odd (record { member = one; edge = k }) (record { member = other; edge = k }) (pair_of_use one has_one) (pair_of_use other has_other)
        ((Decides-eqb k k).1 refl) ((Decides-eqb k k).1 refl) (λ same. (let is = ap (λ (o : OddUse). o.member) same in omega arith))

  -- ---- who has one segment at a vertex of two has the other

  module _ (even : HasEvenEnds uses) (m : ℕ) (p q r : Coord) (e f : Seg) (no_node : ¬ IsNode edges q) (has_e : Contains edges e) (has_f : Contains edges f)
      (to : IsSegBetween p q e) (on : IsSegBetween q r f) (differ : e ≢ f) where
    ends_here : (s : Seg) → (s.lo ≡ q) ⊎ (s.hi ≡ q) → (c : Coord) × IsSegBetween q c s
    ends_here s (inl lo) = (s.hi, inl (lo, refl))
    ends_here s (inr hi) = (s.lo, inr (refl, hi))

    one_of_two : (s : Seg) → Contains edges s → (s.lo ≡ q) ⊎ (s.hi ≡ q) → (s ≡ e) ⊎ (s ≡ f)
    one_of_two s has at =
        let (c, ends) = ends_here s at in
        let two = two_edges edges q f r no_node has_f on in
        elim (seg_or s e) [
          | inl is_e ↦ inl is_e
          | inr not_e ↦ elim (seg_or s f) [
            | inl is_f ↦ inr is_f
            | inr not_f ↦ absurd (
                let three = three_counted (λ g. is_same_coord g.lo q || is_same_coord g.hi q) edges s e f has has_e has_f (ends_at q c s ends) (ends_at q p e (seg_turned p q e to)) (ends_at q r f on) not_e not_f differ in
                omega arith
                )
          ]
        ]

    -- a use of the member has as many ends here as it is of the two
    ends_are : (u : EdgeUse) → Contains uses u → cond (u.member == m) (ends_inside (is_same_coord q) u.seg) 0 ≡ counts_use m e u + counts_use m f u
    ends_are u has =
        elim (ends_or_off q u.seg) [
          | inl at ↦ elim (one_of_two u.seg ((are.exact u.seg).1 (contains-map (λ v. v.seg) uses u has)) at) [
            | inl is_e ↦ ends_of_first (u.member == m) (is_same_seg e u.seg) (is_same_seg f u.seg) (ends_inside (is_same_coord q) u.seg)
                (one_end p q u.seg (subst (IsSegBetween p q) (sym is_e) to)) (same_seg e u.seg (sym is_e)) (not_seg f u.seg (λ is. differ (sym (is ∙ is_e))))
            | inr is_f ↦ ends_of_second (u.member == m) (is_same_seg e u.seg) (is_same_seg f u.seg) (ends_inside (is_same_coord q) u.seg)
                (one_end r q u.seg (seg_turned q r u.seg (subst (IsSegBetween q r) (sym is_f) on))) (not_seg e u.seg (λ is. differ (is ∙ is_f))) (same_seg f u.seg (sym is_f))
          ]
          | inr off ↦ ends_of_third (u.member == m) (is_same_seg e u.seg) (is_same_seg f u.seg) (ends_inside (is_same_coord q) u.seg)
              (no_end_at q u.seg (λ is. off.0 (sym is)) (λ is. off.1 (sym is)))
              (not_seg e u.seg (λ is. no_end u.seg off.0 off.1 (second_end p u.seg (subst (IsSegBetween p q) is to)))) (not_seg f u.seg (λ is. no_end u.seg off.0 off.1 (second_end r u.seg (subst (IsSegBetween r q) is (seg_turned q r f on)))))
        ]
      where
        same_seg : (s t : Seg) → s ≡ t → is_same_seg s t ≡ true
        same_seg s t is = (Decides-same_segs s t).1 is

        second_end : (c : Coord) (s : Seg) → IsSegBetween c q s → (s.lo ≡ q) ⊎ (s.hi ≡ q)
        second_end c s (inl is) = inr is.1
        second_end c s (inr is) = inl is.0

        no_end : (s : Seg) → s.lo ≢ q → s.hi ≢ q → (s.lo ≡ q) ⊎ (s.hi ≡ q) → ⊥
        no_end s lo hi (inl is) = lo is
        no_end s lo hi (inr is) = hi is

    carried : Contains uses (record { member = m; seg = e }) → Contains uses (record { member = m; seg = f })
    carried has =
        elim (cases_lt 0 (sum_by (counts_use m f) uses)) [
          | inl some ↦ times_has uses m f (omega arith)
          | inr none ↦ absurd (
              let ends : EdgeUse → ℕ = λ u. cond (u.member == m) (ends_inside (is_same_coord q) u.seg) 0 in
              let same : (u : EdgeUse) → Contains uses u → ends u ≡ counts_use m e u = λ u in_uses. (let is = ends_are u in_uses in let part = one_of_sum (counts_use m f) uses u in_uses in omega arith) in
              let most = sum_at_most ends (counts_use m e) uses (λ u in_uses. (let is = same u in_uses in omega arith)) in
              let least = sum_at_most (counts_use m e) ends uses (λ u in_uses. (let is = same u in_uses in omega arith)) in
              let is_even = even (is_same_coord q) m in
              let some = has_times uses m e has in
              let not_twice = once m e in
              let one : sum_by ends uses ≡ 1 = omega arith in
              odd_sum (sum_by ends uses) one is_even
              )
        ]
      where
        odd_sum : (n : ℕ) → n ≡ 1 → n % 2 ≡ 0 → ⊥
        odd_sum n one is_even = let none = sym (ap (λ k. k % 2) one) ∙ is_even in omega arith

  -- ---- along a line

  module _ (even : HasEvenEnds uses) (points : List Coord) (line : IsLine edges points) (d : Coord) where
    abbrev point : ℕ → Coord
    point k = get_or points k d

    -- who has the first segment has each
    carried_to : (m : ℕ) (e : Seg) → IsSegBetween (point 0) (point 1) e → Contains uses (record { member = m; seg = e })
        → (k : ℕ) (f : Seg) → k < length points - 1 → IsSegBetween (point k) (point (suc k)) f → Contains uses (record { member = m; seg = f })
    carried_to m e first has zero f within is = subst (λ (s : Seg). Contains uses (record { member = m; seg = s })) (one_seg (point 0) (point 1) e f first is) has
    carried_to m e first has (suc k) f within is =
        let its = thread edges points line d in
        let (g, (in_edges, between)) = along edges points line.walk d k (omega arith) in
        let (h, (also_in, next)) = along edges points line.walk d (suc k) within in
        carried even m (point k) (point (suc k)) (point (suc (suc k))) g f (its.between (suc k) (omega arith) within) in_edges
        (subst (Contains edges) (one_seg (point (suc k)) (point (suc (suc k))) h f next is) also_in) between is
        (λ same. its.distinct k (suc k) g (omega arith) within between (subst (IsSegBetween (point (suc k)) (point (suc (suc k)))) (sym same) is))
        (carried_to m e first has k g (omega arith) between)

    has_each : (m : ℕ) (e : Seg) → IsSegBetween (point 0) (point 1) e → Contains uses (record { member = m; seg = e })
        → (f : Seg) → Contains (chain_edges points) f → Contains uses (record { member = m; seg = f })
    has_each m e first has f in_chain =
        let step = step_of edges points line.walk f in_chain in
        let below = slice_get_within points (suc step.k) step.q step.at_q in
        carried_to m e first has step.k f (omega arith)
        (subst (λ (c : Coord). IsSegBetween c (point (suc step.k)) f) (sym (get_or_from_slice_get points step.k step.p d step.at_p))
        (subst (λ (c : Coord). IsSegBetween step.p c f) (sym (get_or_from_slice_get points (suc step.k) step.q d step.at_q)) step.between))

    -- so it is inner where two members have the first
    inner_by_first : (k : ℕ) (e : Seg) → IsSegBetween (point 0) (point 1) e → slice_get edges k ≡ Some e → (2 ≤ count_by (λ o. o.edge == k) odd) ↔ IsInner uses points
    inner_by_first k e first at = (there, back)
      where
        there : 2 ≤ count_by (λ o. o.edge == k) odd → IsInner uses points
        there h =
            let two = two_members k e at h in
            record { one = two.one; other = two.other; different = two.different; of_one = has_each two.one e first two.of_one; of_other = has_each two.other e first two.of_other }

        back : IsInner uses points → 2 ≤ count_by (λ o. o.edge == k) odd
        back inner =
            let long = line.long in
            let at_first = edge_at edges points line.walk d 0 e (omega arith) first in
            let in_chain : Contains (chain_edges points) e = (0, slice_get_within (chain_edges points) 0 e at_first, get_or_from_slice_get (chain_edges points) 0 e e at_first) in
            members_two k e at inner.one inner.other inner.different (inner.of_one e in_chain) (inner.of_other e in_chain)

-- the count of the first segment of a line tells whether it is inner
pub inner_is : (uses : List EdgeUse) (edges : List Seg) (odd : List OddUse) (counts : List ℕ) → AreCountedUses uses edges odd counts → (points : List Coord) → IsLine edges points
    → (d : Coord) (k : ℕ) (e : Seg) → IsSegBetween (get_or points 0 d) (get_or points 1 d) e → slice_get edges k ≡ Some e → (2 ≤ slice_index counts k) ↔ IsInner uses points
inner_is uses edges odd counts h points line d k e first at =
    let within = slice_get_within edges k e at in
    let long = h.long in
    let is = h.counted k (omega arith) in
    let by = inner_by_first uses h.valid edges odd h.are_edges h.even points line d k e first at in
    (λ two. by.0 (omega arith), λ inner. (let two = by.1 inner in omega arith))
