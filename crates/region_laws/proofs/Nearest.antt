-- Each point has a nearest edge below it, or none below it.
use mathlib.Core.List.{List, [], ◌∷◌}
use Rattle.std.proofs.Common.{◌≡◌, refl, sym, ◌∙◌, ap, subst, zero, suc, ◌+◌, ◌*◌, ◌^◌, Bool, true, false, true≢false, Contains, ℤ, pos, ◌+ℤ◌, ◌-ℤ◌, ◌*ℤ◌, ◌<ℤ◌, ◌⊎◌, inl, inr, ⊎_elim, arith}
use Rattle.std.proofs.lemmas.List.Elements.{All-contains}
use Rattle.cov_types.specs.declared.seg.Seg.{Seg}
use Rattle.cov_types.specs.Range.{IsSegInRange}
use Rattle.integer_laws.proofs.Bound.{IsWithin, within_product, within_difference}
use Rattle.integer_laws.proofs.Cast.{positive_natural}
use Rattle.integer_laws.proofs.Compare.{le_of_lt, trichotomy}
use Rattle.integer_laws.proofs.Order.{cancel_lt, mul_lt}
use Rattle.integer_laws.proofs.Ring.{lin, by_ring, Var, ◌⊕◌, ◌⊖◌, ◌⊗◌, mul_one, mul_comm, pos_times}
use Rattle.integer_laws.proofs.Sign.{positive_times_positive, positive_factor}
use Rattle.plane.specs.Point.{Point, at_coord}
use Rattle.plane.specs.Segment.{side}
use Rattle.plane.specs.Ray.{sweep}
use Rattle.plane.proofs.Points.{d_positive}
use Rattle.plane.proofs.Sweeps.{sweep-same, on_from_sweep, rises-in_range}
use Rattle.crossing_laws.proofs.Lists.{contains_here, contains_there}
use Rattle.sector_laws.specs.Sector.{IsPlanar}
use Rattle.sector_laws.proofs.Near.{length_within}
use Rattle.sector_laws.proofs.Sliver.{rise_within}
use Rattle.region_laws.specs.Below.{is_under, IsBelow, sweep_rise, IsNearer, IsNearestBelow, HasNoneBelow}
use Rattle.region_laws.proofs.Down.{tiny, past, past-d, sweep-past, side-past, down, down-d, sweep-down, side-down, tie}
use Rattle.region_laws.proofs.Edge.{IsUnder, under-is}

-- ---- nearer, by the point just past p

-- over plain variables: how far the shifted sides are apart
gap_past : (n s t a b g f : ℤ) → (((n *ℤ t) +ℤ b) *ℤ g) -ℤ (((n *ℤ s) +ℤ a) *ℤ f) ≡ (n *ℤ ((t *ℤ g) -ℤ (s *ℤ f))) +ℤ ((g *ℤ b) -ℤ (f *ℤ a))
gap_past n s t a b g f =
    by_ring (n ∷ s ∷ t ∷ a ∷ b ∷ g ∷ f ∷ [])
    ((Var 0 ⊗ Var 2 ⊕ Var 4) ⊗ Var 5 ⊖ (Var 0 ⊗ Var 1 ⊕ Var 3) ⊗ Var 6) (Var 0 ⊗ (Var 2 ⊗ Var 5 ⊖ Var 1 ⊗ Var 6) ⊕ (Var 5 ⊗ Var 4 ⊖ Var 6 ⊗ Var 3)) refl

-- the point just past p is nearer to e than to f
abbrev IsNearerPast : Point → Seg → Seg → Type 0
IsNearerPast p e f = (side e (past p) *ℤ sweep_rise f) <ℤ (side f (past p) *ℤ sweep_rise e)

module _ (edges : List Seg) (planar : IsPlanar edges) (p : Point) where
  in_range : (e : Seg) → Contains edges e → IsSegInRange e
  in_range e c = All-contains IsSegInRange edges e planar.in_range c

  rise_positive : (e : Seg) → IsBelow edges p e → pos 0 <ℤ sweep_rise e
  rise_positive e b = (let up = rises-in_range e (in_range e b.among) in omega (arith, lin))

  gap_is : (e f : Seg) → (side f (past p) *ℤ sweep_rise e) -ℤ (side e (past p) *ℤ sweep_rise f)
      ≡ (tiny *ℤ ((side f p *ℤ sweep_rise e) -ℤ (side e p *ℤ sweep_rise f))) +ℤ ((sweep_rise e *ℤ (f.hi.x -ℤ f.lo.x)) -ℤ (sweep_rise f *ℤ (e.hi.x -ℤ e.lo.x)))
  gap_is e f = rw (side-past e p, side-past f p) (gap_past tiny (side e p) (side f p) (e.hi.x -ℤ e.lo.x) (f.hi.x -ℤ f.lo.x) (sweep_rise e) (sweep_rise f))

  lead_within : (e f : Seg) → IsBelow edges p e → IsBelow edges p f
      → IsWithin (2 ^ 60 * 2 ^ 29 + 2 ^ 60 * 2 ^ 29) ((sweep_rise e *ℤ (f.hi.x -ℤ f.lo.x)) -ℤ (sweep_rise f *ℤ (e.hi.x -ℤ e.lo.x)))
  lead_within e f b c =
      let he = in_range e b.among in
      let hf = in_range f c.among in
      within_difference (within_product (rise_within e he) (length_within f hf).0) (within_product (rise_within f hf) (length_within e he).0)

  nearer_from_past : (e f : Seg) → IsBelow edges p e → IsBelow edges p f → IsNearerPast p e f → IsNearer p e f
  nearer_from_past e f b c h =
      let s = side e p *ℤ sweep_rise f in
      let t = side f p *ℤ sweep_rise e in
      let x = (sweep_rise e *ℤ (f.hi.x -ℤ f.lo.x)) -ℤ (sweep_rise f *ℤ (e.hi.x -ℤ e.lo.x)) in
      let within = lead_within e f b c in
      let part = pos_times (2 ^ 100) (t -ℤ s) in
      let gap = gap_is e f in
      elim (trichotomy s t) [
        | inl less ↦ inl less
        | inr rest ↦ elim rest [
          | inl as_far ↦ (
              let under = (under-is e p).0 b.under in
              let lead : pos 0 <ℤ x = omega (arith, lin) in
              let deep = positive_times_positive {x = sweep_rise e} {y = pos p.d} (rise_positive e b) (d_positive p) in
              let product = positive_times_positive {x = (sweep (at_coord e.hi) *ℤ pos p.d) -ℤ sweep p} {y = x} (omega (arith, lin, under.to)) lead in
              inr (as_far, positive_factor (sweep_rise e *ℤ pos p.d) (side f (at_coord e.hi)) (le_of_lt deep) (omega (arith, lin, tie e f p)))
              )
          | inr more ↦ absurd (omega (arith, lin, within.high))
        ]
      ]

  past-trans : (e f g : Seg) → IsBelow edges p e → IsBelow edges p f → IsBelow edges p g → IsNearerPast p e f → IsNearerPast p f g → IsNearerPast p e g
  past-trans e f g b c d h k =
      chain (side e (past p)) (side f (past p)) (side g (past p)) (sweep_rise e) (sweep_rise f) (sweep_rise g) (rise_positive e b) (rise_positive f c) (rise_positive g d) h k
    where
      first_is : (a b c x y z : ℤ) → (z *ℤ (a *ℤ y)) ≡ y *ℤ (a *ℤ z)
      first_is a b c x y z = by_ring (a ∷ y ∷ z ∷ []) (Var 2 ⊗ (Var 0 ⊗ Var 1)) (Var 1 ⊗ (Var 0 ⊗ Var 2)) refl

      middle_is : (b x z : ℤ) → z *ℤ (b *ℤ x) ≡ x *ℤ (b *ℤ z)
      middle_is b x z = by_ring (b ∷ x ∷ z ∷ []) (Var 2 ⊗ (Var 0 ⊗ Var 1)) (Var 1 ⊗ (Var 0 ⊗ Var 2)) refl

      chain : (a b c x y z : ℤ) → pos 0 <ℤ x → pos 0 <ℤ y → pos 0 <ℤ z → (a *ℤ y) <ℤ (b *ℤ x) → (b *ℤ z) <ℤ (c *ℤ y) → (a *ℤ z) <ℤ (c *ℤ x)
      chain a b c x y z hx hy hz h k =
          cancel_lt y (a *ℤ z) (c *ℤ x) (le_of_lt hy)
          (omega (arith, lin, mul_lt z hz h, mul_lt x hx k, middle_is a y z, middle_is b x z, middle_is c x y))

  -- two edges as near to the point just past p have a point in common inside both: they are one
  as_near : (e f : Seg) → IsBelow edges p e → IsBelow edges p f → side e (past p) *ℤ sweep_rise f ≡ side f (past p) *ℤ sweep_rise e → e ≡ f
  as_near e f b c even =
      let (k, h, size) = positive_natural (sweep_rise e) (rise_positive e b) in
      let n = side e (past p) in
      let r = down (past p) k h n in
      let on_e : side e r ≡ pos 0 = side-down e (past p) k h n ∙ own (pos k) (sweep_rise e) n (sym size) in
      let on_f : side f r ≡ pos 0 = side-down f (past p) k h n ∙ other (pos k) (sweep_rise e) n (sweep_rise f) (side f (past p)) (sym size) even in
      let at : sweep r ≡ pos k *ℤ ((tiny *ℤ sweep p) +ℤ pos 1) = sweep-down (past p) k h n ∙ ap (λ z. pos k *ℤ z) (sweep-past p) in
      let depth : pos r.d ≡ pos k *ℤ (tiny *ℤ pos p.d) = down-d (past p) k h n ∙ ap (λ z. pos k *ℤ z) (past-d p) in
      let positive : pos 0 <ℤ pos k = omega (arith, lin) in
      let inside_e = strictly_inside e r (pos k) positive ((under-is e p).0 b.under) at depth in
      let inside_f = strictly_inside f r (pos k) positive ((under-is f p).0 c.under) at depth in
      elim (planar.noded e f b.among c.among) [
        | inl same ↦ same
        | inr ends ↦ (
            let here_e = on_from_sweep e r (rises-in_range e (in_range e b.among)) on_e (le_of_lt inside_e.0) (le_of_lt inside_e.1) in
            let here_f = on_from_sweep f r (rises-in_range f (in_range f c.among)) on_f (le_of_lt inside_f.0) (le_of_lt inside_f.1) in
            absurd (⊎_elim
            (λ end. let s = sweep-same r (at_coord e.lo) end in let q = inside_e.0 in omega (arith, lin, mul_one (sweep r)))
            (λ end. let s = sweep-same r (at_coord e.hi) end in let q = inside_e.1 in omega (arith, lin, mul_one (sweep r)))
            (ends r (here_e, here_f)).0)
            )
      ]
    where
      own : (k g n : ℤ) → k ≡ g → (k *ℤ n) -ℤ (n *ℤ g) ≡ pos 0
      own k g n h = omega (arith, lin, ap (λ z. z *ℤ n) h, mul_comm n g)

      other : (k g n f t : ℤ) → k ≡ g → n *ℤ f ≡ t *ℤ g → (k *ℤ t) -ℤ (n *ℤ f) ≡ pos 0
      other k g n f t h e = omega (arith, lin, ap (λ z. z *ℤ t) h, mul_comm t g)

      scaled : (k n l d : ℤ) → l *ℤ (k *ℤ (n *ℤ d)) ≡ k *ℤ (n *ℤ (l *ℤ d))
      scaled k n l d = by_ring (k ∷ n ∷ l ∷ d ∷ []) (Var 2 ⊗ (Var 0 ⊗ (Var 1 ⊗ Var 3))) (Var 0 ⊗ (Var 1 ⊗ (Var 2 ⊗ Var 3))) refl

      strictly_inside : (e : Seg) (r : Point) (k : ℤ) → pos 0 <ℤ k → IsUnder e p → sweep r ≡ k *ℤ ((tiny *ℤ sweep p) +ℤ pos 1) → pos r.d ≡ k *ℤ (tiny *ℤ pos p.d)
          → ((sweep (at_coord e.lo) *ℤ pos r.d) <ℤ sweep r) × (sweep r <ℤ (sweep (at_coord e.hi) *ℤ pos r.d))
      strictly_inside e r k hk u at depth =
          let lo = sweep (at_coord e.lo) in
          let hi = sweep (at_coord e.hi) in
          let from = u.from in
          let to = u.to in
          let part = pos_times (2 ^ 100) (sweep p) in
          let low_part = pos_times (2 ^ 100) (lo *ℤ pos p.d) in
          let high_part = pos_times (2 ^ 100) (hi *ℤ pos p.d) in
          let low : (tiny *ℤ (lo *ℤ pos p.d)) <ℤ ((tiny *ℤ sweep p) +ℤ pos 1) = omega (arith, lin) in
          let high : ((tiny *ℤ sweep p) +ℤ pos 1) <ℤ (tiny *ℤ (hi *ℤ pos p.d)) = omega (arith, lin) in
          let low_scaled = mul_lt k hk low in
          let high_scaled = mul_lt k hk high in
          let depth_lo = ap (λ z. lo *ℤ z) depth ∙ scaled k tiny lo (pos p.d) in
          let depth_hi = ap (λ z. hi *ℤ z) depth ∙ scaled k tiny hi (pos p.d) in (
            subst (λ z. z <ℤ sweep r) (sym depth_lo) (subst (λ z. (k *ℤ (tiny *ℤ (lo *ℤ pos p.d))) <ℤ z) (sym at) low_scaled),
            subst (λ z. sweep r <ℤ z) (sym depth_hi) (subst (λ z. z <ℤ (k *ℤ (tiny *ℤ (hi *ℤ pos p.d)))) (sym at) high_scaled),
          )

  -- ---- the choice, edge by edge

  -- e is below p, and nearer than each other of these edges that is
  record IsBest (some : List Seg) (e : Seg) : Type 0 where
    below : IsBelow edges p e
    best : (f : Seg) → Contains some f → IsBelow edges p f → (e ≡ f) ⊎ IsNearerPast p e f

  first_or_later : (x : Seg) (xs : List Seg) (y : Seg) → Contains (x ∷ xs) y → (x ≡ y) ⊎ Contains xs y
  first_or_later x xs y (zero, below, is) = inl is
  first_or_later x xs y (suc i, below, is) = inr (i, omega arith, is)

  below_or_not : (e : Seg) → Contains edges e → IsBelow edges p e ⊎ (IsBelow edges p e → ⊥)
  below_or_not e c = by_test (is_under e p) refl
    where
      by_test : (b : Bool) → is_under e p ≡ b → IsBelow edges p e ⊎ (IsBelow edges p e → ⊥)
      by_test true h = inl (record { among = c; under = h })
      by_test false h = inr (λ b. true≢false (sym b.under ∙ h))

  one_more : (e : Seg) (es : List Seg) → IsBelow edges p e → (g : Seg) → IsBest es g → (h : Seg) × IsBest (e ∷ es) h
  one_more e es b g best =
      elim (trichotomy (side e (past p) *ℤ sweep_rise g) (side g (past p) *ℤ sweep_rise e)) [
        | inl nearer ↦ (
          e,
          record {
            below = b;
            best = λ f i c. elim (first_or_later e es f i) [
              | inl same ↦ inl same
              | inr later ↦ inr (elim (best.best f later c) as (λ _. IsNearerPast p e f) [
                | inl one ↦ subst (λ x. IsNearerPast p e x) one nearer
                | inr on ↦ past-trans e g f b best.below c nearer on
              ])
            ];
          },
        )
        | inr rest ↦ (
          g,
          record {
            below = best.below;
            best = λ f i c. elim (first_or_later e es f i) [
              | inl same ↦ elim rest as (λ _. (g ≡ f) ⊎ IsNearerPast p g f) [
                | inl even ↦ inl (as_near g e best.below b (sym even) ∙ same)
                | inr nearer ↦ inr (subst (λ x. IsNearerPast p g x) same nearer)
              ]
              | inr later ↦ best.best f later c
            ];
          },
        )
      ]

  best_or_none : (some : List Seg) → ((e : Seg) → Contains some e → Contains edges e) → ((e : Seg) × IsBest some e) ⊎ ((e : Seg) → Contains some e → IsBelow edges p e → ⊥)
  best_or_none [] among = inr (λ e c b. absurd (omega (arith, c.1)))
  best_or_none (e ∷ es) among =
      let c = among e (contains_here e es) in
      let rest = best_or_none es (λ f i. among f (contains_there e f es i)) in
      elim (below_or_not e c) [
        | inl b ↦ inl (elim rest as (λ _. (h : Seg) × IsBest (e ∷ es) h) [
          | inl found ↦ one_more e es b found.0 found.1
          | inr none ↦ (
            e,
            record {
              below = b;
              best = λ f i d. elim (first_or_later e es f i) [ inl same ↦ inl same | inr later ↦ absurd (none f later d) ];
            },
          )
        ])
        | inr not_below ↦ elim rest [
          | inl found ↦ inl (
            found.0,
            record {
              below = found.1.below;
              best = λ f i d. elim (first_or_later e es f i) [
                | inl same ↦ absurd (not_below (subst (λ x. IsBelow edges p x) (sym same) d))
                | inr later ↦ found.1.best f later d
              ];
            },
          )
          | inr none ↦ inr (λ f i d. elim (first_or_later e es f i) [
            | inl same ↦ not_below (subst (λ x. IsBelow edges p x) (sym same) d)
            | inr later ↦ none f later d
          ])
        ]
      ]

  pub nearest_or_none : ((e : Seg) × IsNearestBelow edges p e) ⊎ HasNoneBelow edges p
  nearest_or_none =
      elim (best_or_none edges (λ e i. i)) [
        | inl found ↦ inl (
          found.0,
          record {
            below = found.1.below;
            nearest = λ f b. elim (found.1.best f b.among b) [ inl same ↦ inl same | inr nearer ↦ inr (nearer_from_past found.0 f found.1.below b nearer) ];
          },
        )
        | inr none ↦ inr (λ e b. none e b.among b)
      ]
