-- Signs of products and of their factors.
use mathlib.Core.Path.{◌≡◌, sym, ap, ◌∙◌}
use mathlib.Core.Logic.{◌⊎◌, inl, inr, ⊎_elim, ◌↔◌}
use Prim.Native.Nat.{◌<◌}
use native.Mathlib.Omega.{arith}
use native.Mathlib.Nat.{mul-pos}
use Rattle.std.specs.Prelude.{ℤ, pos, negsuc, neg_ℤ, ◌+ℤ◌, ◌*ℤ◌, ◌≤ℤ◌, ◌<ℤ◌}
use Rattle.integer_laws.proofs.Ring.{lin, mul_zero, zero_mul, neg_mul, mul_neg, neg_mul_neg}
use Rattle.integer_laws.proofs.Compare.{lt_or_ge, le_or_gt, trichotomy, lt_excludes_le, lt_excludes_eq, le_antisymm, apart_cases}

-- ---- the sign of a product, from the signs of the factors

pub nonneg_times_nonneg : {x y : ℤ} → pos 0 ≤ℤ x → pos 0 ≤ℤ y → pos 0 ≤ℤ (x *ℤ y)
nonneg_times_nonneg {x = pos a} {y = pos b} h k = omega (arith, lin)
nonneg_times_nonneg {x = pos a} {y = negsuc b} h k = absurd k.le
nonneg_times_nonneg {x = negsuc a} {y} h k = absurd h.le

pub positive_times_positive : {x y : ℤ} → pos 0 <ℤ x → pos 0 <ℤ y → pos 0 <ℤ (x *ℤ y)
positive_times_positive {x = pos a} {y = pos b} h k =
    let p : 0 < a = omega (arith, lin) in
    let q : 0 < b = omega (arith, lin) in
    omega (arith, lin, mul-pos p q)
positive_times_positive {x = pos a} {y = negsuc b} h k = absurd k.lt
positive_times_positive {x = negsuc a} {y} h k = absurd h.lt

pub nonneg_times_nonpos : {x y : ℤ} → pos 0 ≤ℤ x → y ≤ℤ pos 0 → (x *ℤ y) ≤ℤ pos 0
nonneg_times_nonpos {x} {y} h k = omega (arith, lin, mul_neg x y, nonneg_times_nonneg {x = x} {y = neg_ℤ y} h (omega (arith, lin)))

pub nonpos_times_nonneg : {x y : ℤ} → x ≤ℤ pos 0 → pos 0 ≤ℤ y → (x *ℤ y) ≤ℤ pos 0
nonpos_times_nonneg {x} {y} h k = omega (arith, lin, neg_mul x y, nonneg_times_nonneg {x = neg_ℤ x} {y = y} (omega (arith, lin)) k)

pub nonpos_times_nonpos : {x y : ℤ} → x ≤ℤ pos 0 → y ≤ℤ pos 0 → pos 0 ≤ℤ (x *ℤ y)
nonpos_times_nonpos {x} {y} h k = omega (arith, lin, neg_mul_neg x y, nonneg_times_nonneg {x = neg_ℤ x} {y = neg_ℤ y} (omega (arith, lin)) (omega (arith, lin)))

pub positive_times_negative : {x y : ℤ} → pos 0 <ℤ x → y <ℤ pos 0 → (x *ℤ y) <ℤ pos 0
positive_times_negative {x} {y} h k = omega (arith, lin, mul_neg x y, positive_times_positive {x = x} {y = neg_ℤ y} h (omega (arith, lin)))

pub negative_times_positive : {x y : ℤ} → x <ℤ pos 0 → pos 0 <ℤ y → (x *ℤ y) <ℤ pos 0
negative_times_positive {x} {y} h k = omega (arith, lin, neg_mul x y, positive_times_positive {x = neg_ℤ x} {y = y} (omega (arith, lin)) k)

pub negative_times_negative : {x y : ℤ} → x <ℤ pos 0 → y <ℤ pos 0 → pos 0 <ℤ (x *ℤ y)
negative_times_negative {x} {y} h k = omega (arith, lin, neg_mul_neg x y, positive_times_positive {x = neg_ℤ x} {y = neg_ℤ y} (omega (arith, lin)) (omega (arith, lin)))

-- ---- the sign of the second factor, from the product's sign and the first factor's

pub positive_factor : (x y : ℤ) → pos 0 ≤ℤ x → pos 0 <ℤ (x *ℤ y) → pos 0 <ℤ y
positive_factor x y h k = ⊎_elim (λ p. p) (λ (n : y ≤ℤ pos 0). absurd (lt_excludes_le k (nonneg_times_nonpos h n))) (lt_or_ge (pos 0) y)

pub negative_factor : (x y : ℤ) → pos 0 ≤ℤ x → (x *ℤ y) <ℤ pos 0 → y <ℤ pos 0
negative_factor x y h k = ⊎_elim (λ p. p) (λ (n : pos 0 ≤ℤ y). absurd (lt_excludes_le k (nonneg_times_nonneg h n))) (lt_or_ge y (pos 0))

pub nonneg_factor : (x y : ℤ) → pos 0 <ℤ x → pos 0 ≤ℤ (x *ℤ y) → pos 0 ≤ℤ y
nonneg_factor x y h k = ⊎_elim (λ (n : y <ℤ pos 0). absurd (lt_excludes_le (positive_times_negative h n) k)) (λ p. p) (lt_or_ge y (pos 0))

pub nonpos_factor : (x y : ℤ) → pos 0 <ℤ x → (x *ℤ y) ≤ℤ pos 0 → y ≤ℤ pos 0
nonpos_factor x y h k = ⊎_elim (λ (n : pos 0 <ℤ y). absurd (lt_excludes_le (positive_times_positive h n) k)) (λ p. p) (lt_or_ge (pos 0) y)

-- the same where the first factor is below 0: the sign turns
pub positive_cofactor : (x y : ℤ) → x ≤ℤ pos 0 → (x *ℤ y) <ℤ pos 0 → pos 0 <ℤ y
positive_cofactor x y h k = ⊎_elim (λ p. p) (λ (n : y ≤ℤ pos 0). absurd (lt_excludes_le k (nonpos_times_nonpos h n))) (lt_or_ge (pos 0) y)

pub negative_cofactor : (x y : ℤ) → x ≤ℤ pos 0 → pos 0 <ℤ (x *ℤ y) → y <ℤ pos 0
negative_cofactor x y h k = ⊎_elim (λ p. p) (λ (n : pos 0 ≤ℤ y). absurd (lt_excludes_le k (nonpos_times_nonneg h n))) (lt_or_ge y (pos 0))

pub nonneg_cofactor : (x y : ℤ) → x <ℤ pos 0 → (x *ℤ y) ≤ℤ pos 0 → pos 0 ≤ℤ y
nonneg_cofactor x y h k = ⊎_elim (λ (n : y <ℤ pos 0). absurd (lt_excludes_le (negative_times_negative h n) k)) (λ p. p) (lt_or_ge y (pos 0))

pub nonpos_cofactor : (x y : ℤ) → x <ℤ pos 0 → pos 0 ≤ℤ (x *ℤ y) → y ≤ℤ pos 0
nonpos_cofactor x y h k = ⊎_elim (λ (n : pos 0 <ℤ y). absurd (lt_excludes_le (negative_times_positive h n) k)) (λ p. p) (lt_or_ge (pos 0) y)

-- ---- a product that is 0

pub product_zero : (x y : ℤ) → x *ℤ y ≡ pos 0 → (x ≡ pos 0) ⊎ (y ≡ pos 0)
product_zero x y e =
    ⊎_elim
    (λ (h : x <ℤ pos 0). inr (le_antisymm (nonpos_cofactor x y h (omega (arith, lin))) (nonneg_cofactor x y h (omega (arith, lin)))))
    (⊎_elim
    inl
    (λ (h : pos 0 <ℤ x). inr (le_antisymm (nonpos_factor x y h (omega (arith, lin))) (nonneg_factor x y h (omega (arith, lin))))))
    (trichotomy x (pos 0))

pub product_zero_is : (x y : ℤ) → (x *ℤ y ≡ pos 0) ↔ ((x ≡ pos 0) ⊎ (y ≡ pos 0))
product_zero_is x y = (product_zero x y, ⊎_elim (λ h. ap (λ z. z *ℤ y) h ∙ zero_mul y) (λ h. ap (λ z. x *ℤ z) h ∙ mul_zero x))

pub zero_factor : (x y : ℤ) → ¬ (x ≡ pos 0) → x *ℤ y ≡ pos 0 → y ≡ pos 0
zero_factor x y n e = ⊎_elim (λ h. absurd (n h)) (λ h. h) (product_zero x y e)

pub nonzero_times_nonzero : (x y : ℤ) → ¬ (x ≡ pos 0) → ¬ (y ≡ pos 0) → ¬ (x *ℤ y ≡ pos 0)
nonzero_times_nonzero x y n m e = ⊎_elim n m (product_zero x y e)

-- ---- squares

pub square_nonneg : (x : ℤ) → pos 0 ≤ℤ (x *ℤ x)
square_nonneg x = ⊎_elim (λ (h : x ≤ℤ pos 0). nonpos_times_nonpos h h) (λ (h : pos 0 <ℤ x). omega (arith, lin, positive_times_positive h h)) (le_or_gt x (pos 0))

pub square_positive : (x : ℤ) → ¬ (x ≡ pos 0) → pos 0 <ℤ (x *ℤ x)
square_positive x n = ⊎_elim (λ (h : x <ℤ pos 0). negative_times_negative h h) (λ (h : pos 0 <ℤ x). positive_times_positive h h) (apart_cases n)

pub square_zero : (x : ℤ) → x *ℤ x ≡ pos 0 → x ≡ pos 0
square_zero x e = ⊎_elim (λ h. h) (λ h. h) (product_zero x x e)

pub squares_zero : (x y : ℤ) → (x *ℤ x) +ℤ (y *ℤ y) ≡ pos 0 → (x ≡ pos 0) × (y ≡ pos 0)
squares_zero x y e =
    let first = square_nonneg x in
    let second = square_nonneg y in
    (square_zero x (omega (arith, lin)), square_zero y (omega (arith, lin)))

-- two numbers that are not both 0: the sum of their squares is positive
pub squares_positive : (x y : ℤ) → ¬ ((x ≡ pos 0) × (y ≡ pos 0)) → pos 0 <ℤ ((x *ℤ x) +ℤ (y *ℤ y))
squares_positive x y n =
    let first = square_nonneg x in
    let second = square_nonneg y in
    ⊎_elim
    (λ (h : pos 0 <ℤ ((x *ℤ x) +ℤ (y *ℤ y))). h)
    (λ (h : ((x *ℤ x) +ℤ (y *ℤ y)) ≤ℤ pos 0). absurd (n (squares_zero x y (omega (arith, lin)))))
    (lt_or_ge (pos 0) ((x *ℤ x) +ℤ (y *ℤ y)))

-- ---- two factors of the same sign, and of opposite signs

pub same_signs : (x y : ℤ) → pos 0 <ℤ (x *ℤ y) → ((pos 0 <ℤ x) × (pos 0 <ℤ y)) ⊎ ((x <ℤ pos 0) × (y <ℤ pos 0))
same_signs x y h =
    ⊎_elim
    (λ (n : x <ℤ pos 0). inr (n, negative_cofactor x y (omega (arith, lin)) h))
    (⊎_elim
    (λ (e : x ≡ pos 0). absurd (lt_excludes_eq h (sym (ap (λ z. z *ℤ y) e ∙ zero_mul y))))
    (λ (p : pos 0 <ℤ x). inl (p, positive_factor x y (omega (arith, lin)) h)))
    (trichotomy x (pos 0))

pub opposite_signs : (x y : ℤ) → (x *ℤ y) <ℤ pos 0 → ((pos 0 <ℤ x) × (y <ℤ pos 0)) ⊎ ((x <ℤ pos 0) × (pos 0 <ℤ y))
opposite_signs x y h =
    ⊎_elim
    (λ (n : x <ℤ pos 0). inr (n, positive_cofactor x y (omega (arith, lin)) h))
    (⊎_elim
    (λ (e : x ≡ pos 0). absurd (lt_excludes_eq h (ap (λ z. z *ℤ y) e ∙ zero_mul y)))
    (λ (p : pos 0 <ℤ x). inl (p, negative_factor x y (omega (arith, lin)) h)))
    (trichotomy x (pos 0))
