-- Each half-edge has a next: the one that no other comes before, clockwise from its twin.
use mathlib.Core.List.{List, [], ◌∷◌}
use Rattle.std.proofs.Common.{◌≡◌, refl, sym, ◌∙◌, ap, subst, zero, suc, Bool, true, false, cond, ◌&&◌, ◌||◌, true≢false, Contains, inl, inr, ◌⊎◌, arith}
use Rattle.cov_types.specs.declared.coord.Coord.{Coord}
use Rattle.cov_types.specs.declared.seg.Seg.{Seg}
use Rattle.crossing_laws.proofs.Lists.{contains_here, contains_there}
use Rattle.sector_laws.specs.Sector.{HalfEdge, origin, target, twin, is_before_by_angle, is_in_sector, Leaves, IsNext, IsPlanar}
use Rattle.sector_laws.proofs.Angles.{true_or_false, not_both}
use Rattle.sector_laws.proofs.Order.{before-asymm, before-trans}
use Rattle.sector_laws.proofs.Sectors.{twin_leaves}
use Rattle.sector_laws.proofs.Turns.{same_coord_or_not}

-- ---- what is in a sector, in cases

both_true : (y z : Bool) → (y && z) ≡ true → (y ≡ true) × (z ≡ true)
both_true true z h = (refl, h)
both_true false z h = absurd (true≢false (sym h))

one_true : (y z : Bool) → (y || z) ≡ true → (y ≡ true) ⊎ (z ≡ true)
one_true true z h = inl refl
one_true false z h = inr h

second_true : (y z : Bool) → z ≡ true → (y || z) ≡ true
second_true true z h = refl
second_true false z h = h

in_less_is : (g a k : HalfEdge) → is_before_by_angle g a ≡ true → is_in_sector g a k ≡ (is_before_by_angle g k && is_before_by_angle k a)
in_less_is g a k less = λ i. cond (less i) (is_before_by_angle g k && is_before_by_angle k a) (is_before_by_angle g k || is_before_by_angle k a)

in_rest_is : (g a k : HalfEdge) → is_before_by_angle g a ≡ false → is_in_sector g a k ≡ (is_before_by_angle g k || is_before_by_angle k a)
in_rest_is g a k rest = λ i. cond (rest i) (is_before_by_angle g k && is_before_by_angle k a) (is_before_by_angle g k || is_before_by_angle k a)

module _ (edges : List Seg) (planar : IsPlanar edges) (v : Coord) where
  pub before-irrefl : (h : HalfEdge) → Leaves edges v h → is_before_by_angle h h ≡ false
  before-irrefl h at =
      elim (true_or_false (is_before_by_angle h h)) [
        | inl before ↦ before-asymm edges planar v h h at at before
        | inr not_before ↦ not_before
      ]

  -- none begins its own sector
  pub not_in_own : (g a : HalfEdge) → Leaves edges v g → is_in_sector g a g ≡ false
  not_in_own g a at =
      elim (true_or_false (is_before_by_angle g a)) [
        | inl less ↦ in_less_is g a g less ∙ ap (λ t. t && is_before_by_angle g a) (before-irrefl g at)
        | inr rest ↦ in_rest_is g a g rest ∙ (λ i. before-irrefl g at i || rest i)
      ]

  -- a sector that begins in another one and ends with it is in it
  pub nested : (g a k m : HalfEdge) → Leaves edges v g → Leaves edges v a → Leaves edges v k → Leaves edges v m
      → is_in_sector g a k ≡ true → is_in_sector k a m ≡ true → is_in_sector g a m ≡ true
  nested g a k m at_g at_a at_k at_m first second =
      elim (true_or_false (is_before_by_angle g a)) [
        | inl less ↦ (
            let (g_k, k_a) = both_true (is_before_by_angle g k) (is_before_by_angle k a) (sym (in_less_is g a k less) ∙ first) in
            let (k_m, m_a) = both_true (is_before_by_angle k m) (is_before_by_angle m a) (sym (in_less_is k a m k_a) ∙ second) in
            in_less_is g a m less ∙ (λ i. before-trans edges planar v g k m at_g at_k at_m g_k k_m i && m_a i)
            )
        | inr rest ↦ in_rest_is g a m rest ∙ elim (true_or_false (is_before_by_angle k a)) [
          | inl k_a ↦
              second_true (is_before_by_angle g m) (is_before_by_angle m a) (both_true (is_before_by_angle k m) (is_before_by_angle m a) (sym (in_less_is k a m k_a) ∙ second)).1
          | inr not_k_a ↦ (
              let g_k : is_before_by_angle g k ≡ true =
              elim (one_true (is_before_by_angle g k) (is_before_by_angle k a) (sym (in_rest_is g a k rest) ∙ first)) [
                | inl h ↦ h
                | inr h ↦ absurd (not_both h not_k_a)
              ] in
              elim (one_true (is_before_by_angle k m) (is_before_by_angle m a) (sym (in_rest_is k a m not_k_a) ∙ second)) [
                | inl k_m ↦ ap (λ t. t || is_before_by_angle m a) (before-trans edges planar v g k m at_g at_k at_m g_k k_m)
                | inr m_a ↦ second_true (is_before_by_angle g m) (is_before_by_angle m a) m_a
              ]
              )
        ]
      ]

  -- ---- the choice, edge by edge

  -- g leaves, and none of the half-edges of these edges is in its sector to a
  record IsBest (a : HalfEdge) (some : List Seg) (g : HalfEdge) : Type 0 where
    leaves : Leaves edges v g
    none : (k : HalfEdge) → Contains some k.edge → Leaves edges v k → is_in_sector g a k ≡ false

  -- one more half-edge
  record IsBetter (a g k h : HalfEdge) : Type 0 where
    leaves : Leaves edges v h
    not_this : Leaves edges v k → is_in_sector h a k ≡ false
    not_more : (m : HalfEdge) → Leaves edges v m → is_in_sector g a m ≡ false → is_in_sector h a m ≡ false

  better : (a g k : HalfEdge) → Contains edges k.edge → Leaves edges v a → Leaves edges v g → (h : HalfEdge) × IsBetter a g k h
  better a g k among at_a at_g =
      elim (same_coord_or_not (origin k) v) [
        | inr not_here ↦ (g, record { leaves = at_g; not_this = λ at. absurd (not_here at.from); not_more = λ m at out. out })
        | inl here ↦ (
            let at_k : Leaves edges v k = record { among = among; from = here } in
            elim (true_or_false (is_in_sector g a k)) [
              | inr out ↦ (g, record { leaves = at_g; not_this = λ at. out; not_more = λ m at out_m. out_m })
              | inl inside ↦ (
                k,
                record {
                  leaves = at_k;
                  not_this = λ at. not_in_own k a at_k;
                  not_more = λ m at_m out. elim (true_or_false (is_in_sector k a m)) [
                    | inl deeper ↦ absurd (not_both (nested g a k m at_g at_a at_k at_m inside deeper) out)
                    | inr none ↦ none
                  ];
                },
              )
            ]
            )
      ]

  -- of the half-edges of a longer list
  best_of_more : (a : HalfEdge) → Leaves edges v a → (e : Seg) (es : List Seg) → Contains edges e → (g : HalfEdge) × IsBest a es g → (g : HalfEdge) × IsBest a (e ∷ es) g
  best_of_more a at_a e es among (g, best) =
      let (h, first) = better a g (record { edge = e; forwards = true }) among at_a best.leaves in
      let (k, second) = better a h (record { edge = e; forwards = false }) among at_a first.leaves in (
        k,
        record {
          leaves = second.leaves;
          none = λ m here at. elim (first_or_later e es m.edge here) [
            | inl one ↦
                of_one e m k (sym one) at
                (λ forwards. second.not_more (record { edge = e; forwards = true }) forwards (first.not_this forwards)) second.not_this
            | inr later ↦ second.not_more m at (first.not_more m at (best.none m later at))
          ];
        },
      )
    where
      first_or_later : (x : Seg) (xs : List Seg) (y : Seg) → Contains (x ∷ xs) y → (x ≡ y) ⊎ Contains xs y
      first_or_later x xs y (zero, below, is) = inl is
      first_or_later x xs y (suc i, below, is) = inr (i, omega arith, is)

      by_direction : (f : Seg) (b : Bool) (h : HalfEdge) → Leaves edges v (record { edge = f; forwards = b })
          → (Leaves edges v (record { edge = f; forwards = true }) → is_in_sector h a (record { edge = f; forwards = true }) ≡ false)
          → (Leaves edges v (record { edge = f; forwards = false }) → is_in_sector h a (record { edge = f; forwards = false }) ≡ false)
          → is_in_sector h a (record { edge = f; forwards = b }) ≡ false
      by_direction f true h at forwards back = forwards at
      by_direction f false h at forwards back = back at

      of_one : (f : Seg) (m h : HalfEdge) → m.edge ≡ f → Leaves edges v m
          → (Leaves edges v (record { edge = f; forwards = true }) → is_in_sector h a (record { edge = f; forwards = true }) ≡ false)
          → (Leaves edges v (record { edge = f; forwards = false }) → is_in_sector h a (record { edge = f; forwards = false }) ≡ false)
          → is_in_sector h a m ≡ false
      of_one f m h one at forwards back =
          let moved : m ≡ record { edge = f; forwards = m.forwards } = λ i. record { edge = one i; forwards = m.forwards } in
          subst (λ k. is_in_sector h a k ≡ false) (sym moved) (by_direction f m.forwards h (subst (λ k. Leaves edges v k) moved at) forwards back)

  best_of : (a : HalfEdge) → Leaves edges v a → (some : List Seg) → ((e : Seg) → Contains some e → Contains edges e) → (g : HalfEdge) × IsBest a some g
  best_of a at_a [] among = (a, record { leaves = at_a; none = λ k here at. absurd (omega (arith, here.1)) })
  best_of a at_a (e ∷ es) among =
      best_of_more a at_a e es (among e (contains_here e es)) (best_of a at_a es (λ f here. among f (contains_there e f es here)))

  pub some_next_to : (a : HalfEdge) → Leaves edges v a → (g : HalfEdge) × (Leaves edges v g × ((k : HalfEdge) → Leaves edges v k → is_in_sector g a k ≡ false))
  some_next_to a at_a =
      let (g, best) = best_of a at_a edges (λ e here. here) in
      (g, (best.leaves, λ k at. best.none k at.among at))

module _ (edges : List Seg) (planar : IsPlanar edges) where
  pub some_next : (h : HalfEdge) → Contains edges h.edge → (g : HalfEdge) × IsNext edges h g
  some_next h among =
      let (g, (leaves, none)) = some_next_to edges planar (target h) (twin h) (twin_leaves edges planar h among) in
      (g, record { among = among; leaves = leaves; none_inside = none })
