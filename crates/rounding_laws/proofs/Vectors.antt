-- Homogeneous vectors of which one coordinate moves to a centre: their order and their turns.
use mathlib.Core.List.{List, [], ◌∷◌}
use Rattle.std.proofs.Common.{◌≡◌, ◌⊎◌, inl, inr, refl, sym, ◌∙◌, ap, ℤ, pos, neg_ℤ, ◌+ℤ◌, ◌-ℤ◌, ◌*ℤ◌, ◌<ℤ◌, ◌≤ℤ◌, arith}
use Rattle.integer_laws.proofs.Ring.{lin, by_ring, Term, Var, ◌⊕◌, ◌⊖◌, ◌⊗◌, Neg, mul_comm, mul_zero, zero_mul}
use Rattle.integer_laws.proofs.Compare.{lt_or_ge, le_of_lt, le_cases, lt_excludes_eq}
use Rattle.integer_laws.proofs.Sign.{nonneg_times_nonneg, nonneg_factor, zero_factor}
use Rattle.rounding_laws.proofs.Near.{Near}

-- the point (u/w, v/w), whose coordinate v/w rounds to a centre and moves there
pub record Moving : Type 0 where
  pub u : ℤ
  pub v : ℤ
  pub w : ℤ
  pub centre : ℤ
  pub positive : pos 0 <ℤ w
  pub near : Near (centre *ℤ w) v w

-- the moving coordinate before the move and after it, times the weight
abbrev pub before : Moving → ℤ
before p = p.v

abbrev pub after : Moving → ℤ
after p = p.centre *ℤ p.w

-- how far q is ahead of p in the coordinate that stays
unfoldable pub ahead : Moving → Moving → ℤ
ahead p q = (p.w *ℤ q.u) -ℤ (p.u *ℤ q.w)

-- the determinant of three vectors, in which the moving coordinate stands before or after the move:
-- positive where a comes first and e is above the line of a and b
unfoldable pub turned : (Moving → ℤ) → Moving → Moving → Moving → ℤ
turned at a b e = ((at e *ℤ ahead a b) -ℤ (at b *ℤ ahead a e)) -ℤ (at a *ℤ ahead e b)

-- ---- identities, of vectors that are numbered: u, the moving coordinate and w of the nth are the variables 3n to 3n + 2

abbrev numbers : (Moving → ℤ) → Moving → Moving → Moving → Moving → List ℤ
numbers at a b c d = a.u ∷ at a ∷ a.w ∷ b.u ∷ at b ∷ b.w ∷ c.u ∷ at c ∷ c.w ∷ d.u ∷ at d ∷ d.w ∷ []

abbrev ab : Term
ab = Var 2 ⊗ Var 3 ⊖ Var 0 ⊗ Var 5

abbrev ac : Term
ac = Var 2 ⊗ Var 6 ⊖ Var 0 ⊗ Var 8

abbrev ad : Term
ad = Var 2 ⊗ Var 9 ⊖ Var 0 ⊗ Var 11

abbrev cb : Term
cb = Var 8 ⊗ Var 3 ⊖ Var 6 ⊗ Var 5

abbrev db : Term
db = Var 11 ⊗ Var 3 ⊖ Var 9 ⊗ Var 5

abbrev ca : Term
ca = Var 8 ⊗ Var 0 ⊖ Var 6 ⊗ Var 2

abbrev bd : Term
bd = Var 5 ⊗ Var 9 ⊖ Var 3 ⊗ Var 11

abbrev cd : Term
cd = Var 8 ⊗ Var 9 ⊖ Var 6 ⊗ Var 11

abbrev abc : Term
abc = Var 7 ⊗ ab ⊖ Var 4 ⊗ ac ⊖ Var 1 ⊗ cb

abbrev abd : Term
abd = Var 10 ⊗ ab ⊖ Var 4 ⊗ ad ⊖ Var 1 ⊗ db

abbrev cda : Term
cda = Var 1 ⊗ cd ⊖ Var 10 ⊗ ca ⊖ Var 7 ⊗ ad

abbrev cdb : Term
cdb = Var 4 ⊗ cd ⊖ Var 10 ⊗ cb ⊖ Var 7 ⊗ bd

-- the order turns round
pub ahead-turned : (p q : Moving) → ahead q p ≡ neg_ℤ (ahead p q)
unfolding ahead
ahead-turned p q = by_ring (p.u ∷ p.w ∷ q.u ∷ q.w ∷ []) (Var 3 ⊗ Var 0 ⊖ Var 2 ⊗ Var 1) (Neg (Var 1 ⊗ Var 2 ⊖ Var 0 ⊗ Var 3)) refl

-- and so does the turn where two of the vectors are exchanged
pub turned-exchanged : (at : Moving → ℤ) (a b e : Moving) → turned at b a e ≡ neg_ℤ (turned at a b e)
unfolding turned ahead
turned-exchanged at a b e =
    by_ring (numbers at a b e e)
    (Var 7 ⊗ (Var 5 ⊗ Var 0 ⊖ Var 3 ⊗ Var 2) ⊖ Var 1 ⊗ (Var 5 ⊗ Var 6 ⊖ Var 3 ⊗ Var 8) ⊖ Var 4 ⊗ (Var 8 ⊗ Var 0 ⊖ Var 6 ⊗ Var 2)) (Neg abc) refl

-- c between a and b: the two ways add up to the whole way
pub ahead-split : (a b c : Moving) → (ahead c b *ℤ a.w) +ℤ (ahead a c *ℤ b.w) ≡ ahead a b *ℤ c.w
unfolding ahead
ahead-split a b c = by_ring (numbers before a b c c) (cb ⊗ Var 2 ⊕ ac ⊗ Var 5) (ab ⊗ Var 8) refl

pub ahead-mean : (a b c : Moving) → (ahead c b *ℤ a.u) +ℤ (ahead a c *ℤ b.u) ≡ ahead a b *ℤ c.u
unfolding ahead
ahead-mean a b c = by_ring (numbers before a b c c) (cb ⊗ Var 0 ⊕ ac ⊗ Var 3) (ab ⊗ Var 6) refl

module _ (at : Moving → ℤ) (a b c d : Moving) where
  -- the turns of four vectors
  pub turns_at_a : turned at c d a *ℤ ahead a b ≡ (turned at a b d *ℤ ahead a c) -ℤ (turned at a b c *ℤ ahead a d)
  unfolding turned ahead
  turns_at_a = by_ring (numbers at a b c d) (cda ⊗ ab) (abd ⊗ ac ⊖ abc ⊗ ad) refl

  pub turns_at_b : turned at c d b *ℤ ahead a b ≡ (turned at a b c *ℤ ahead d b) -ℤ (turned at a b d *ℤ ahead c b)
  unfolding turned ahead
  turns_at_b = by_ring (numbers at a b c d) (cdb ⊗ ab) (abc ⊗ db ⊖ abd ⊗ cb) refl

  pub turns_at_c : turned at c d a *ℤ ahead c b ≡ neg_ℤ ((turned at c d b *ℤ ahead a c) +ℤ (turned at a b c *ℤ ahead c d))
  unfolding turned ahead
  turns_at_c = by_ring (numbers at a b c d) (cda ⊗ cb) (Neg (cdb ⊗ ac ⊕ abc ⊗ cd)) refl

  pub turns_at_d : turned at c d b *ℤ ahead a d ≡ neg_ℤ ((turned at c d a *ℤ ahead d b) +ℤ (turned at a b d *ℤ ahead c d))
  unfolding turned ahead
  turns_at_d = by_ring (numbers at a b c d) (cdb ⊗ ad) (Neg (cda ⊗ db ⊕ abd ⊗ cd)) refl

  -- the lines of a and b and of c and d meet at the mean of a and b whose weights are the turns of the other, and likewise of c and d
  pub common_u : (turned at c d b *ℤ a.u) -ℤ (turned at c d a *ℤ b.u) ≡ (turned at a b c *ℤ d.u) -ℤ (turned at a b d *ℤ c.u)
  unfolding turned ahead
  common_u = by_ring (numbers at a b c d) (cdb ⊗ Var 0 ⊖ cda ⊗ Var 3) (abc ⊗ Var 9 ⊖ abd ⊗ Var 6) refl

  pub common_v : (turned at c d b *ℤ at a) -ℤ (turned at c d a *ℤ at b) ≡ (turned at a b c *ℤ at d) -ℤ (turned at a b d *ℤ at c)
  unfolding turned ahead
  common_v = by_ring (numbers at a b c d) (cdb ⊗ Var 1 ⊖ cda ⊗ Var 4) (abc ⊗ Var 10 ⊖ abd ⊗ Var 7) refl

  pub common_w : (turned at c d b *ℤ a.w) -ℤ (turned at c d a *ℤ b.w) ≡ (turned at a b c *ℤ d.w) -ℤ (turned at a b d *ℤ c.w)
  unfolding turned ahead
  common_w = by_ring (numbers at a b c d) (cdb ⊗ Var 2 ⊖ cda ⊗ Var 5) (abc ⊗ Var 11 ⊖ abd ⊗ Var 8) refl

-- ---- the order

-- the order is transitive
pub ahead-trans : (p q r : Moving) → pos 0 ≤ℤ ahead p q → pos 0 ≤ℤ ahead q r → pos 0 ≤ℤ ahead p r
ahead-trans p q r h k =
    let first = nonneg_times_nonneg k (le_of_lt p.positive) in
    let second = nonneg_times_nonneg h (le_of_lt r.positive) in
    let sum = ahead-split p r q in
    nonneg_factor q.w (ahead p r) q.positive (omega (arith, lin, mul_comm q.w (ahead p r)))

-- and total
pub ahead-total : (p q : Moving) → (pos 0 ≤ℤ ahead p q) ⊎ (pos 0 ≤ℤ ahead q p)
ahead-total p q =
    elim (lt_or_ge (ahead p q) (pos 0)) [
      | inl l ↦ inr (omega (arith, lin, ahead-turned p q))
      | inr g ↦ inl g
    ]

-- the end e is between a and b
abbrev pub Within : Moving → Moving → Moving → Type 0
Within a b e = (pos 0 ≤ℤ ahead a e) × (pos 0 ≤ℤ ahead e b)

pub within_whole : (a b e : Moving) → Within a b e → pos 0 ≤ℤ ahead a b
within_whole a b e h = ahead-trans a e b h.0 h.1

-- a sum of two products of positive factors, and factors that are not negative, which is 0
zero_parts : (x y v w : ℤ) → pos 0 <ℤ v → pos 0 <ℤ w → pos 0 ≤ℤ x → pos 0 ≤ℤ y → (x *ℤ v) +ℤ (y *ℤ w) ≡ pos 0 → (x ≡ pos 0) × (y ≡ pos 0)
zero_parts x y v w hv hw hx hy e =
    let first = nonneg_times_nonneg hx (le_of_lt hv) in
    let second = nonneg_times_nonneg hy (le_of_lt hw) in (
      zero_factor v x (λ z. lt_excludes_eq hv (sym z)) (omega (arith, lin, mul_comm v x)),
      zero_factor w y (λ z. lt_excludes_eq hw (sym z)) (omega (arith, lin, mul_comm w y)),
    )

-- where a and b are level, each end between them is level too
level_parts : (a b e : Moving) → Within a b e → ahead a b ≡ pos 0 → (ahead e b ≡ pos 0) × (ahead a e ≡ pos 0)
level_parts a b e h level =
    zero_parts (ahead e b) (ahead a e) a.w b.w a.positive b.positive h.1 h.0 (ahead-split a b e ∙ ap (λ z. z *ℤ e.w) level ∙ zero_mul e.w)

three_zeros : (x y z p q r : ℤ) → p ≡ pos 0 → q ≡ pos 0 → r ≡ pos 0 → ((x *ℤ p) -ℤ (y *ℤ q)) -ℤ (z *ℤ r) ≡ pos 0
three_zeros x y z p q r hp hq hr =
    let first = ap (λ v. x *ℤ v) hp ∙ mul_zero x in
    let second = ap (λ v. y *ℤ v) hq ∙ mul_zero y in
    let third = ap (λ v. z *ℤ v) hr ∙ mul_zero z in
    omega (arith, lin)

-- and there is no turn
pub level_turn : (at : Moving → ℤ) (a b e : Moving) → Within a b e → ahead a b ≡ pos 0 → turned at a b e ≡ pos 0
unfolding turned
level_turn at a b e h level =
    let parts = level_parts a b e h level in
    three_zeros (at e) (at b) (at a) (ahead a b) (ahead a e) (ahead e b) level parts.1 parts.0

-- so where there is a turn, b is strictly ahead of a
pub strictly_ahead : (at : Moving → ℤ) (a b e : Moving) → Within a b e → ¬ (turned at a b e ≡ pos 0) → pos 0 <ℤ ahead a b
strictly_ahead at a b e h n =
    elim (le_cases (within_whole a b e h)) [
      | inl l ↦ l
      | inr level ↦ absurd (n (level_turn at a b e h (sym level)))
    ]
