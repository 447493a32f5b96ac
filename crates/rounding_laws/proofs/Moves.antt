-- Two lemmas on a move: an end stays on its side of two vectors where no mean of the two rounds to its centre,
-- and a crossing after the move was one before it.
use mathlib.Core.List.{[], ◌∷◌}
use Rattle.std.proofs.Common.{◌≡◌, ◌⊎◌, inl, inr, refl, sym, ◌∙◌, ap, ℤ, pos, neg_ℤ, ◌+ℤ◌, ◌-ℤ◌, ◌*ℤ◌, ◌<ℤ◌, ◌≤ℤ◌, arith}
use Rattle.integer_laws.proofs.Ring.{lin, by_ring, by_two, Var, ◌⊕◌, ◌⊖◌, ◌⊗◌, Neg, mul_comm, mul_left_comm, mul_zero, zero_mul, neg_mul, mul_neg, neg_mul_neg}
use Rattle.integer_laws.proofs.Compare.{lt_or_ge, le_of_lt, le_cases, lt_excludes_eq, lt_excludes_le}
use Rattle.integer_laws.proofs.Sign.{positive_times_positive, nonneg_times_nonneg, nonpos_times_nonneg, nonneg_times_nonpos, negative_times_positive, positive_factor, negative_factor}
use Rattle.rounding_laws.proofs.Near.{Near, near_times, mean_near}
use Rattle.rounding_laws.proofs.Vectors.{Moving, before, after, ahead, turned, ahead-turned, ahead-split, ahead-mean, ahead-trans, ahead-total, turned-exchanged, turns_at_a, turns_at_b, turns_at_c, turns_at_d, Within, within_whole, level_turn, strictly_ahead}

-- ---- an end stays on its side

-- no mean of a and b that is level with e rounds to the centre of e
abbrev pub Misses : Moving → Moving → Moving → Type 0
Misses a b e = (i j : ℤ) → pos 0 ≤ℤ i → pos 0 ≤ℤ j → pos 0 <ℤ (i +ℤ j)
    → ((i *ℤ a.u) +ℤ (j *ℤ b.u)) *ℤ e.w ≡ e.u *ℤ ((i *ℤ a.w) +ℤ (j *ℤ b.w))
    → ¬ Near (e.centre *ℤ ((i *ℤ a.w) +ℤ (j *ℤ b.w))) ((i *ℤ a.v) +ℤ (j *ℤ b.v)) ((i *ℤ a.w) +ℤ (j *ℤ b.w))

-- a turn after the move was the same turn before it
pub record Keeps (a b e : Moving) : Type 0 where
  pub above : pos 0 <ℤ turned after a b e → pos 0 <ℤ turned before a b e
  pub below : turned after a b e <ℤ pos 0 → turned before a b e <ℤ pos 0

-- over plain variables: h is how far b is ahead of a, and m the mean at e; t and s are the turns after and before
keeps_side : (c w h e m' m t s : ℤ) → Near (h *ℤ (c *ℤ w)) (h *ℤ e) (h *ℤ w) → Near m' m (h *ℤ w) → ¬ Near (h *ℤ (c *ℤ w)) m (h *ℤ w)
    → t ≡ (h *ℤ (c *ℤ w)) -ℤ m' → s ≡ (h *ℤ e) -ℤ m → ((pos 0 <ℤ t) × (pos 0 <ℤ s)) ⊎ ((t <ℤ pos 0) × (s <ℤ pos 0))
keeps_side c w h e m' m t s end mean miss after_is before_is =
    let end_low = end.low in
    let end_high = end.high in
    let mean_low = mean.low in
    let mean_high = mean.high in
    let k = h *ℤ (c *ℤ w) in
    elim (lt_or_ge (m +ℤ m) ((k +ℤ k) -ℤ (h *ℤ w))) [
      | inl low ↦ inl (omega (arith, lin), omega (arith, lin))
      | inr not_low ↦ elim (lt_or_ge (m +ℤ m) ((k +ℤ k) +ℤ (h *ℤ w))) [
        | inl high ↦ absurd (miss (record { low = not_low; high = high }))
        | inr not_high ↦ inr (omega (arith, lin), omega (arith, lin))
      ]
    ]

keeps_from_side : (a b e : Moving) → ((pos 0 <ℤ turned after a b e) × (pos 0 <ℤ turned before a b e)) ⊎ ((turned after a b e <ℤ pos 0) × (turned before a b e <ℤ pos 0)) → Keeps a b e
keeps_from_side a b e (inl h) = record { above = λ _. h.1; below = λ l. absurd (lt_excludes_le l (le_of_lt h.0)) }
keeps_from_side a b e (inr h) = record { above = λ l. absurd (lt_excludes_le l (le_of_lt h.0)); below = λ _. h.1 }

-- with no turn after the move there is nothing to keep
keeps_level : (a b e : Moving) → turned after a b e ≡ pos 0 → Keeps a b e
keeps_level a b e level = record { above = λ l. absurd (lt_excludes_eq l (sym level)); below = λ l. absurd (lt_excludes_eq l level) }

-- the turn as the height of e less that of the mean, the weights being how far b is ahead of e and e of a
turn_heights : (at : Moving → ℤ) (a b e : Moving) → turned at a b e ≡ (ahead a b *ℤ at e) -ℤ ((ahead e b *ℤ at a) +ℤ (ahead a e *ℤ at b))
unfolding turned
turn_heights at a b e =
    by_ring (at a ∷ at b ∷ at e ∷ ahead a b ∷ ahead a e ∷ ahead e b ∷ [])
    (Var 2 ⊗ Var 3 ⊖ Var 1 ⊗ Var 4 ⊖ Var 0 ⊗ Var 5) (Var 3 ⊗ Var 2 ⊖ (Var 5 ⊗ Var 0 ⊕ Var 4 ⊗ Var 1)) refl

-- over plain variables: x/y and v/w are one number
level_with : (x y h w v : ℤ) → x ≡ h *ℤ v → y ≡ h *ℤ w → x *ℤ w ≡ v *ℤ y
level_with x y h w v ex ey =
    by_two (x ∷ y ∷ h ∷ w ∷ v ∷ []) (Var 0 ⊗ Var 3) (Var 4 ⊗ Var 1) (Var 3) (Var 0) (Var 2 ⊗ Var 4) (Neg (Var 4)) (Var 1) (Var 2 ⊗ Var 3) refl ex ey

near_moved : {v v' w k z : ℤ} → Near v v' w → v ≡ k → w ≡ z → Near k v' z
near_moved h e f = let l = h.low in let u = h.high in record { low = omega (arith, lin); high = omega (arith, lin) }

-- the weights are not both 0
weights_positive : (a b e : Moving) → Within a b e → pos 0 <ℤ ahead a b → pos 0 <ℤ (ahead e b +ℤ ahead a e)
weights_positive a b e within strict =
    let from = within.0 in
    let to = within.1 in
    let product = positive_times_positive strict e.positive in
    let split = ahead-split a b e in
    elim (le_cases from) [
      | inl l ↦ omega (arith, lin)
      | inr level ↦ (
          let none = ap (λ z. z *ℤ b.w) (sym level) ∙ zero_mul b.w in
          let other = positive_factor a.w (ahead e b) (le_of_lt a.positive) (omega (arith, lin, mul_comm a.w (ahead e b))) in
          omega (arith, lin))
    ]

-- b strictly ahead of a
keeps_strict : (a b e : Moving) → Misses a b e → Within a b e → pos 0 <ℤ ahead a b → Keeps a b e
keeps_strict a b e miss within strict =
    let i = ahead e b in
    let j = ahead a e in
    let h = ahead a b in
    let w = (i *ℤ a.w) +ℤ (j *ℤ b.w) in
    let u = (i *ℤ a.u) +ℤ (j *ℤ b.u) in
    let m = (i *ℤ a.v) +ℤ (j *ℤ b.v) in
    let m' = (i *ℤ after a) +ℤ (j *ℤ after b) in
    let weight : w ≡ h *ℤ e.w = ahead-split a b e in
    let level : u ≡ h *ℤ e.u = ahead-mean a b e in
    let some = weights_positive a b e within strict in
    let centre : e.centre *ℤ w ≡ h *ℤ (e.centre *ℤ e.w) = ap (λ z. e.centre *ℤ z) weight ∙ mul_left_comm e.centre h e.w in
    let missed = miss i j within.1 within.0 some (level_with u w h e.w e.u level weight) in
    let mean = mean_near i j (after a) a.v a.w (after b) b.v b.w within.1 within.0 some a.near b.near in
    keeps_from_side a b e (keeps_side e.centre e.w h e.v m' m (turned after a b e) (turned before a b e)
    (near_times h (after e) e.v e.w strict e.near)
    (near_moved mean refl weight)
    (λ near. missed (near_moved near (sym centre) (sym weight)))
    (turn_heights after a b e) (turn_heights before a b e))

-- an end between a and b to whose centre no level mean rounds keeps its side
pub end_stays : (a b e : Moving) → Misses a b e → Within a b e → Keeps a b e
end_stays a b e miss within =
    elim (le_cases (within_whole a b e within)) [
      | inl strict ↦ keeps_strict a b e miss within strict
      | inr level ↦ keeps_level a b e (level_turn after a b e within (sym level))
    ]

-- ---- a crossing survives a move

-- ab and cd cross properly: c is on the left of a to b and d on the right, b on the left of c to d and a on the right
pub record Crosses (at : Moving → ℤ) (a b c d : Moving) : Type 0 where
  pub c_left : pos 0 <ℤ turned at a b c
  pub d_right : turned at a b d <ℤ pos 0
  pub b_left : pos 0 <ℤ turned at c d b
  pub a_right : turned at c d a <ℤ pos 0

-- the four names go round the crossing
pub crosses_round : (at : Moving → ℤ) (a b c d : Moving) → Crosses at a b c d → Crosses at c d b a
crosses_round at a b c d h =
    let left = h.c_left in
    let right = h.d_right in
    record {
      c_left = h.b_left;
      d_right = h.a_right;
      b_left = omega (arith, lin, turned-exchanged at a b d);
      a_right = omega (arith, lin, turned-exchanged at a b c);
    }

-- each end that is between the two others keeps its side
pub record Stay (a b c d : Moving) : Type 0 where
  pub c_stays : Within a b c → Keeps a b c
  pub d_stays : Within a b d → Keeps a b d
  pub c_back : Within b a c → Keeps b a c
  pub d_back : Within b a d → Keeps b a d
  pub a_stays : Within c d a → Keeps c d a
  pub b_stays : Within c d b → Keeps c d b
  pub a_back : Within d c a → Keeps d c a
  pub b_back : Within d c b → Keeps d c b

stay_round : (a b c d : Moving) → Stay a b c d → Stay c d b a
stay_round a b c d h = record {
  c_stays = h.b_stays;
  d_stays = h.a_stays;
  c_back = h.b_back;
  d_back = h.a_back;
  a_stays = h.c_back;
  b_stays = h.d_back;
  a_back = h.c_stays;
  b_back = h.d_stays;
}

-- the same with c and d exchanged
pub stay_exchanged : (a b c d : Moving) → Stay a b c d → Stay a b d c
stay_exchanged a b c d h = record {
  c_stays = h.d_stays;
  d_stays = h.c_stays;
  c_back = h.d_back;
  d_back = h.c_back;
  a_stays = h.a_back;
  b_stays = h.b_back;
  a_back = h.a_stays;
  b_back = h.b_stays;
}

-- over plain variables: r times h is a sum of p and q, and of which the sign is known
nested_turn : (h x y p q r p' q' r' : ℤ) → pos 0 <ℤ h → pos 0 ≤ℤ x → pos 0 ≤ℤ y
    → r *ℤ h ≡ (q *ℤ x) -ℤ (p *ℤ y) → r' *ℤ h ≡ (q' *ℤ x) -ℤ (p' *ℤ y)
    → pos 0 <ℤ p → q <ℤ pos 0 → r <ℤ pos 0 → pos 0 <ℤ p' → q' <ℤ pos 0 → r' <ℤ pos 0
nested_turn h x y p q r p' q' r' hh hx hy e e' hp hq hr hp' hq' =
    let rh = negative_times_positive hr hh in
    let qx' = nonpos_times_nonneg (le_of_lt hq') hx in
    let py' = nonneg_times_nonneg (le_of_lt hp') hy in
    negative_factor h r' (le_of_lt hh) (elim (le_cases hx) [
      | inl l ↦ (let strict = negative_times_positive hq' l in omega (arith, lin, mul_comm h r'))
      | inr level ↦ (
          let none = ap (λ z. q *ℤ z) (sym level) ∙ mul_zero q in
          let y_positive = positive_factor p y (le_of_lt hp) (omega (arith, lin)) in
          let strict = positive_times_positive hp' y_positive in
          omega (arith, lin, mul_comm h r'))
    ])

-- c and d between a and b
nested : (a b c d : Moving) → Within a b c → Within a b d → Keeps a b c → Keeps a b d → Crosses after a b c d → Crosses before a b c d
nested a b c d within_c within_d keeps_c keeps_d h =
    let left = h.c_left in
    let right = h.d_right in
    let b_after = h.b_left in
    let strict = strictly_ahead after a b c within_c (λ z. lt_excludes_eq left (sym z)) in
    let left' = keeps_c.above left in
    let right' = keeps_d.below right in
    let low = nested_turn (ahead a b) (ahead a c) (ahead a d) (turned after a b c) (turned after a b d) (turned after c d a)
    (turned before a b c) (turned before a b d) (turned before c d a) strict within_c.0 within_d.0
    (turns_at_a after a b c d) (turns_at_a before a b c d) left right h.a_right left' right' in
    let high = nested_turn (ahead a b) (ahead c b) (ahead d b) (turned after a b c) (turned after a b d) (neg_ℤ (turned after c d b))
    (turned before a b c) (turned before a b d) (neg_ℤ (turned before c d b)) strict within_c.1 within_d.1
    (turned_back after) (turned_back before) left right (omega (arith, lin)) left' right' in
    record { c_left = left'; d_right = right'; b_left = omega (arith, lin); a_right = low }
  where
    turned_back : (at : Moving → ℤ) → neg_ℤ (turned at c d b) *ℤ ahead a b ≡ (turned at a b d *ℤ ahead c b) -ℤ (turned at a b c *ℤ ahead d b)
    turned_back at = let e = turns_at_b at a b c d in omega (arith, lin, neg_mul (turned at c d b) (ahead a b))

-- over plain variables: the sign of a factor, where its product with one that is not negative is such a sum
staggered_negative : (z y x p q r : ℤ) → pos 0 ≤ℤ z → y ≤ℤ pos 0 → pos 0 <ℤ x → pos 0 <ℤ p → pos 0 <ℤ r
    → q *ℤ z ≡ (p *ℤ y) -ℤ (r *ℤ x) → q <ℤ pos 0
staggered_negative z y x p q r hz hy hx hp hr e =
    let first = nonneg_times_nonpos (le_of_lt hp) hy in
    let second = positive_times_positive hr hx in
    negative_factor z q hz (omega (arith, lin, mul_comm z q))

-- c after a, b after c, d after b
staggered : (a b c d : Moving) → Within a b c → Within c d b → Keeps a b c → Keeps c d b → Crosses after a b c d → Crosses before a b c d
staggered a b c d within_c within_b keeps_c keeps_b h =
    let left = h.c_left in
    let above = h.b_left in
    let ab_strict = strictly_ahead after a b c within_c (λ z. lt_excludes_eq left (sym z)) in
    let cd_strict = strictly_ahead after c d b within_b (λ z. lt_excludes_eq above (sym z)) in
    let left' = keeps_c.above left in
    let above' = keeps_b.above above in
    let from = within_c.0 in
    let to = within_b.1 in
    let at_b = turns_at_b before a b c d in
    let at_c = turns_at_c before a b c d in
    let turned_bd = ahead-turned b d in
    record {
      c_left = left';
      d_right = staggered_negative (ahead c b) (ahead d b) (ahead a b) (turned before a b c) (turned before a b d) (turned before c d b)
          within_c.1 (omega (arith, lin)) ab_strict left' above' (omega (arith, lin));
      b_left = above';
      a_right = staggered_negative (ahead c b) (neg_ℤ (ahead a c)) (ahead c d) (turned before c d b) (turned before c d a) (turned before a b c)
          within_c.1 (omega (arith, lin)) cd_strict above' left' (omega (arith, lin, mul_neg (turned before c d b) (ahead a c)));
    }

-- a after c, d after a, b after d
staggered_back : (a b c d : Moving) → Within a b d → Within c d a → Keeps a b d → Keeps c d a → Crosses after a b c d → Crosses before a b c d
staggered_back a b c d within_d within_a keeps_d keeps_a h =
    let right = h.d_right in
    let under = h.a_right in
    let ab_strict = strictly_ahead after a b d within_d (lt_excludes_eq right) in
    let cd_strict = strictly_ahead after c d a within_a (lt_excludes_eq under) in
    let right' = keeps_d.below right in
    let under' = keeps_a.below under in
    let from = within_a.0 in
    let to = within_d.1 in
    let at_a = turns_at_a before a b c d in
    let at_d = turns_at_d before a b c d in
    let turned_ac = ahead-turned c a in
    let abd = turned before a b d in
    let cda = turned before c d a in
    let c_right = staggered_negative (ahead a d) (ahead a c) (ahead a b) (neg_ℤ abd) (neg_ℤ (turned before a b c)) (neg_ℤ cda)
    within_d.0 (omega (arith, lin)) ab_strict (omega (arith, lin)) (omega (arith, lin))
    (omega (arith, lin, neg_mul (turned before a b c) (ahead a d), neg_mul abd (ahead a c), neg_mul cda (ahead a b))) in
    let b_right = staggered_negative (ahead a d) (neg_ℤ (ahead d b)) (ahead c d) (neg_ℤ cda) (neg_ℤ (turned before c d b)) (neg_ℤ abd)
    within_d.0 (omega (arith, lin)) cd_strict (omega (arith, lin)) (omega (arith, lin))
    (omega (arith, lin, neg_mul (turned before c d b) (ahead a d), neg_mul_neg cda (ahead d b), neg_mul abd (ahead c d))) in
    record { c_left = omega (arith, lin); d_right = right'; b_left = omega (arith, lin); a_right = under' }

-- over plain variables: of these signs no such sum is 0
apart_never : (p q r x y z : ℤ) → pos 0 <ℤ p → pos 0 <ℤ q → pos 0 <ℤ r → pos 0 ≤ℤ x → pos 0 ≤ℤ y → pos 0 <ℤ z → ((p *ℤ x) +ℤ (q *ℤ y)) +ℤ (r *ℤ z) ≡ pos 0 → ⊥
apart_never p q r x y z hp hq hr hx hy hz e =
    let first = nonneg_times_nonneg (le_of_lt hp) hx in
    let second = nonneg_times_nonneg (le_of_lt hq) hy in
    let third = positive_times_positive hr hz in
    lt_excludes_eq {x = pos 0} {y = ((p *ℤ x) +ℤ (q *ℤ y)) +ℤ (r *ℤ z)} (omega (arith, lin)) (sym e)

-- b comes before c: ab and cd do not cross
never_before : (a b c d : Moving) → pos 0 ≤ℤ ahead a b → pos 0 ≤ℤ ahead c d → ahead c b <ℤ pos 0 → Crosses after a b c d → ⊥
never_before a b c d forward forward_too gap h =
    let left = h.c_left in
    let right = h.d_right in
    let above = h.b_left in
    let bc : pos 0 ≤ℤ ahead b c = omega (arith, lin, ahead-turned c b) in
    let bd = ahead-trans b c d bc forward_too in
    let at_b = turns_at_b after a b c d in
    apart_never (turned after c d b) (turned after a b c) (neg_ℤ (turned after a b d)) (ahead a b) (ahead b d) (neg_ℤ (ahead c b))
    above left (omega (arith, lin)) forward bd (omega (arith, lin))
    (omega (arith, lin, ap (λ z. turned after a b c *ℤ z) (ahead-turned b d), mul_neg (turned after a b c) (ahead b d), neg_mul_neg (turned after a b d) (ahead c b)))

-- d comes before a: nor do they
never_after : (a b c d : Moving) → pos 0 ≤ℤ ahead a b → pos 0 ≤ℤ ahead c d → ahead a d <ℤ pos 0 → Crosses after a b c d → ⊥
never_after a b c d forward forward_too gap h =
    let left = h.c_left in
    let right = h.d_right in
    let under = h.a_right in
    let da : pos 0 ≤ℤ ahead d a = omega (arith, lin, ahead-turned a d) in
    let ca = ahead-trans c d a forward_too da in
    let at_a = turns_at_a after a b c d in
    apart_never (neg_ℤ (turned after c d a)) (neg_ℤ (turned after a b d)) (turned after a b c) (ahead a b) (ahead c a) (neg_ℤ (ahead a d))
    (omega (arith, lin)) (omega (arith, lin)) left forward ca (omega (arith, lin))
    (omega (arith, lin, ap (λ z. neg_ℤ (turned after a b d) *ℤ z) (ahead-turned a c), neg_mul_neg (turned after a b d) (ahead a c), neg_mul (turned after c d a) (ahead a b), mul_neg (turned after a b c) (ahead a d)))

-- a before b and c before d
survives_forward : (a b c d : Moving) → pos 0 ≤ℤ ahead a b → pos 0 ≤ℤ ahead c d → Stay a b c d → Crosses after a b c d → Crosses before a b c d
survives_forward a b c d forward forward_too stay h =
    elim (ahead-total a c) [
      | inl a_c ↦ elim (ahead-total d b) [
        | inl d_b ↦ (
            let within_c : Within a b c = (a_c, ahead-trans c d b forward_too d_b) in
            let within_d : Within a b d = (ahead-trans a c d a_c forward_too, d_b) in
            nested a b c d within_c within_d (stay.c_stays within_c) (stay.d_stays within_d) h)
        | inr b_d ↦ elim (lt_or_ge (ahead c b) (pos 0)) [
          | inl gap ↦ absurd (never_before a b c d forward forward_too gap h)
          | inr c_b ↦ staggered a b c d (a_c, c_b) (c_b, b_d) (stay.c_stays (a_c, c_b)) (stay.b_stays (c_b, b_d)) h
        ]
      ]
      | inr c_a ↦ elim (ahead-total d b) [
        | inl d_b ↦ elim (lt_or_ge (ahead a d) (pos 0)) [
          | inl gap ↦ absurd (never_after a b c d forward forward_too gap h)
          | inr a_d ↦ staggered_back a b c d (a_d, d_b) (c_a, a_d) (stay.d_stays (a_d, d_b)) (stay.a_stays (c_a, a_d)) h
        ]
        | inr b_d ↦ (
            let within_b : Within c d b = (ahead-trans c a b c_a forward, b_d) in
            let within_a : Within c d a = (c_a, ahead-trans a b d forward b_d) in
            unround (nested c d b a within_b within_a (stay.b_stays within_b) (stay.a_stays within_a) (crosses_round after a b c d h)))
      ]
    ]
  where
    unround : Crosses before c d b a → Crosses before a b c d
    unround h = crosses_round before d c a b (crosses_round before b a d c (crosses_round before c d b a h))

-- a crossing after the move was one before it, where each end that is between the two others keeps its side
pub crossing_survives : (a b c d : Moving) → Stay a b c d → Crosses after a b c d → Crosses before a b c d
crossing_survives a b c d stay h =
    let stay_1 = stay_round a b c d stay in
    let stay_2 = stay_round c d b a stay_1 in
    let stay_3 = stay_round b a d c stay_2 in
    let round_1 = crosses_round after a b c d h in
    let round_2 = crosses_round after c d b a round_1 in
    let round_3 = crosses_round after b a d c round_2 in
    elim (ahead-total a b) [
      | inl a_b ↦ elim (ahead-total c d) [
        | inl c_d ↦ survives_forward a b c d a_b c_d stay h
        | inr d_c ↦ crosses_round before d c a b (survives_forward d c a b d_c a_b stay_3 round_3)
      ]
      | inr b_a ↦ elim (ahead-total c d) [
        | inl c_d ↦ crosses_round before d c a b (crosses_round before b a d c (crosses_round before c d b a (survives_forward c d b a c_d b_a stay_1 round_1)))
        | inr d_c ↦ crosses_round before d c a b (crosses_round before b a d c (survives_forward b a d c b_a d_c stay_2 round_2))
      ]
    ]
