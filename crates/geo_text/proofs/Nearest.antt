-- The whole number nearest to a fraction, by its whole part and what is left beside one half.
use Rattle.std.proofs.Common.{◌≡◌, ℕ, zero, suc, ◌+◌, ◌-◌, ◌*◌, ◌/◌, ◌<◌, ◌≤◌, Bool, true, false, pos, negsuc, neg_ℤ, ◌+ℤ◌, ◌*ℤ◌, refl, sym, ap, ◌∙◌, arith, if◌then◌else◌}
use Rattle.std.specs.Int.{int_div_euclid}
use Rattle.std.proofs.lemmas.Int.{ints}
use Rattle.std.proofs.lemmas.Nat.{div-mul-add}
use Rattle.std.proofs.Math.Nat.{mul_left_comm, add-mul}
use Rattle.geo_text.specs.Token.{signed}
use Rattle.geo_text.specs.Decimal.{nearest}
use Rattle.geo_text.specs.Number.{rounds_up}
use Rattle.geo_text.specs.declared.fraction.Fraction.TheVariants.{Scaled}
use Rattle.geo_text.specs.declared.fraction.Tail.{Tail}
use Rattle.geo_text.specs.declared.fraction.Tail.TheVariants.{Empty, BelowHalf, Half, AboveHalf}
use Rattle.geo_text.proofs.Decimals.{Says}

-- ---- the quotient of naturals

quotient_is : (a w m r : ℕ) → a ≡ m * w + r → r < w → a / w ≡ m
quotient_is a w m r e h = ap (λ n. n / w) e ∙ div-mul-add m w r h

-- twice m times q is m times twice q
twice : (m q : ℕ) → 2 * (m * q) ≡ m * (2 * q)
twice m q = mul_left_comm 2 m q

-- ---- at or above 0

doubled : (n q : ℕ) → pos 2 *ℤ pos n +ℤ pos q ≡ pos (2 * n + q)
doubled n q = refl

nearest_pos : (n q m r : ℕ) → 2 * n + q ≡ m * (2 * q) + r → r < 2 * q → nearest (pos n) q ≡ pos m
nearest_pos n q m r e h = ap pos (quotient_is (2 * n + q) (2 * q) m r e h)

-- ---- below 0

-- -2n + q as code of it
below : (n q k : ℕ) → 2 * n ≡ q + suc k → pos 2 *ℤ neg_ℤ (pos n) +ℤ pos q ≡ negsuc k
below n q k e = omega (arith, ints)

above : (n q k : ℕ) → 2 * n + k ≡ q → pos 2 *ℤ neg_ℤ (pos n) +ℤ pos q ≡ pos k
above n q k e = omega (arith, ints)

nearest_neg : (n q m r k : ℕ) → 2 * n ≡ q + suc k → k ≡ m * (2 * q) + r → r < 2 * q → nearest (neg_ℤ (pos n)) q ≡ neg_ℤ (pos (suc m))
nearest_neg n q m r k e s h = ap (λ z. int_div_euclid z (pos (2 * q))) (below n q k e) ∙ ap negsuc (quotient_is k (2 * q) m r s h)

nearest_none : (n q k : ℕ) → 2 * n + k ≡ q → 0 < q → nearest (neg_ℤ (pos n)) q ≡ pos 0
nearest_none n q k e some = ap (λ z. int_div_euclid z (pos (2 * q))) (above n q k e) ∙ ap pos (quotient_is k (2 * q) 0 k (omega arith) (omega (arith, e, some)))

-- ---- by what is left

suc_is : (m : ℕ) → suc m ≡ m + 1
suc_is m = omega arith

none_more : (m : ℕ) → m ≡ m + 0
none_more m = omega arith

-- m + 1 times twice q
twice_more : (m q : ℕ) → (m + 1) * (2 * q) ≡ m * (2 * q) + 2 * q
twice_more m q = omega (arith, add-mul m 1 (2 * q))

down_pos : (m r q : ℕ) → 2 * r < q → nearest (pos (m * q + r)) q ≡ pos m
down_pos m r q h = nearest_pos (m * q + r) q m (2 * r + q) (omega (arith, twice m q)) (omega (arith, h))

up_pos : (m r q : ℕ) → r < q → q ≤ 2 * r → nearest (pos (m * q + r)) q ≡ pos (m + 1)
up_pos m r q k h = nearest_pos (m * q + r) q (m + 1) (2 * r - q) (omega (arith, twice m q, twice_more m q, h)) (omega (arith, k))

up_neg : (m r q : ℕ) → r < q → q < 2 * r → nearest (neg_ℤ (pos (m * q + r))) q ≡ neg_ℤ (pos (m + 1))
up_neg m r q k h =
    nearest_neg (m * q + r) q m (2 * r - q - 1) (m * (2 * q) + (2 * r - q - 1)) (omega (arith, twice m q, h)) refl (omega (arith, k))
    ∙ ap (λ n. neg_ℤ (pos n)) (suc_is m)

down_neg : (m r q : ℕ) → 0 < q → 2 * r ≤ q → nearest (neg_ℤ (pos (m * q + r))) q ≡ neg_ℤ (pos m)
down_neg zero r q some h = nearest_none (zero * q + r) q (q - 2 * r) (omega (arith, h)) some
down_neg (suc m) r q some h =
    let one : (m + 1) * q ≡ suc m * q = ap (λ n. n * q) (omega arith) in
    nearest_neg (suc m * q + r) q m (q + 2 * r - 1) (m * (2 * q) + (q + 2 * r - 1)) (omega (arith, one, add-mul m 1 q, twice m q, some)) refl (omega (arith, h, some))

abbrev pub Rounds : Bool → Tail → Type 0
Rounds negative t =
    (left m r q : ℕ) → 0 < q → r < q → Says t r q
    → nearest (signed negative (m * q + r)) q ≡ signed negative (m + (if rounds_up negative (Scaled left t) then 1 else 0))

-- m + r / q is rounded as the tail says
pub rounds : (negative : Bool) (t : Tail) → Rounds negative t
rounds false Empty left m r q some k h = down_pos m r q (omega (arith, h, some)) ∙ ap pos (none_more m)
rounds false BelowHalf left m r q some k h = down_pos m r q h ∙ ap pos (none_more m)
rounds false Half left m r q some k h = up_pos m r q k (omega (arith, h))
rounds false AboveHalf left m r q some k h = up_pos m r q k (omega (arith, h))
rounds true Empty left m r q some k h = down_neg m r q some (omega (arith, h)) ∙ ap (λ n. neg_ℤ (pos n)) (none_more m)
rounds true BelowHalf left m r q some k h = down_neg m r q some (omega (arith, h)) ∙ ap (λ n. neg_ℤ (pos n)) (none_more m)
rounds true Half left m r q some k h = down_neg m r q some (omega (arith, h)) ∙ ap (λ n. neg_ℤ (pos n)) (none_more m)
rounds true AboveHalf left m r q some k h = up_neg m r q k h

-- a whole number is the nearest one
pub nearest_exact : (negative : Bool) (m q : ℕ) → 0 < q → nearest (signed negative (m * q)) q ≡ signed negative m
nearest_exact negative m q some =
    ap (λ n. nearest (signed negative n) q) (none_more (m * q)) ∙ rounds negative Empty 0 m 0 q some some refl ∙ ap (signed negative) (sym (none_more m))
