-- Numbers as the code reads them, in 32 and 64 bits.
use Rattle.std.proofs.Common.{◌≡◌, refl, sym, ◌∙◌, ap, ◌^◌, Bool, true, false, not, IsTrue, ◌↔◌, int_lt, int_le, ℤ, pos, neg_ℤ, ◌+ℤ◌, ◌*ℤ◌, ◌≤ℤ◌, to_z, of_z, w32, w64, arith}
use Rattle.std.proofs.lemmas.Int.{to_z-of_z}
use Rattle.integer_laws.proofs.Cast.{fits_i32_is, fits_i64_is}
use Rattle.integer_laws.proofs.Compare.{int_le_is, not_int_lt_is}
use Rattle.integer_laws.proofs.Ring.{lin, mul_one, mul_comm, pos_times}

abbrev pub read32 : ℤ → ℤ
read32 z = to_z w32 (of_z w32 z)

abbrev pub read64 : ℤ → ℤ
read64 z = to_z w64 (of_z w64 z)

pub read32_is : (z : ℤ) → neg_ℤ (pos (2 ^ 29)) ≤ℤ z → z ≤ℤ pos (2 ^ 29) → read32 z ≡ z
read32_is z low high = to_z-of_z w32 z ((fits_i32_is z).1 (omega (arith, lin), omega (arith, lin)))

pub read64_is : (z : ℤ) → neg_ℤ (pos (2 ^ 62)) ≤ℤ z → z ≤ℤ pos (2 ^ 62) → read64 z ≡ z
read64_is z low high = to_z-of_z w64 z ((fits_i64_is z).1 (omega (arith, lin), omega (arith, lin)))

-- the sum of two coordinates in range
pub sum_is : (a b : ℤ) → neg_ℤ (pos (2 ^ 28)) ≤ℤ a → a ≤ℤ pos (2 ^ 28) → neg_ℤ (pos (2 ^ 28)) ≤ℤ b → b ≤ℤ pos (2 ^ 28) → read32 (read32 a +ℤ read32 b) ≡ a +ℤ b
sum_is a b low_a high_a low_b high_b =
    let first = read32_is a (omega (arith, lin)) (omega (arith, lin)) in
    let second = read32_is b (omega (arith, lin)) (omega (arith, lin)) in
    (λ i. read32 (first i +ℤ second i)) ∙ read32_is (a +ℤ b) (omega (arith, lin)) (omega (arith, lin))

-- ---- sweep values

same_tests : (a b : Bool) → IsTrue a ↔ IsTrue b → a ≡ b
same_tests true b h = sym (h.0 refl)
same_tests false true h = h.1 refl
same_tests false false h = refl

-- twice a number is at most another: as the code reads them, and by the test of their fractions
pub at_most_is : (a b : ℤ) → neg_ℤ (pos (2 ^ 60)) ≤ℤ a → a ≤ℤ pos (2 ^ 60) → neg_ℤ (pos (2 ^ 60)) ≤ℤ b → b ≤ℤ pos (2 ^ 60)
    → int_le (read64 (pos 2 *ℤ read64 a)) (read64 b) ≡ not (int_lt (b *ℤ pos 1) (a *ℤ pos 2))
at_most_is a b low_a high_a low_b high_b =
    let twice = pos_times 2 a in
    let first : read64 (pos 2 *ℤ read64 a) ≡ pos 2 *ℤ a =
    ap (λ x. read64 (pos 2 *ℤ x)) (read64_is a (omega (arith, lin)) (omega (arith, lin))) ∙ read64_is (pos 2 *ℤ a) (omega (arith, lin, twice)) (omega (arith, lin, twice)) in
    let second : read64 b ≡ b = read64_is b (omega (arith, lin)) (omega (arith, lin)) in
    let le = int_le_is (pos 2 *ℤ a) b in
    let lt = not_int_lt_is (b *ℤ pos 1) (a *ℤ pos 2) in
    (λ i. int_le (first i) (second i))
    ∙ same_tests (int_le (pos 2 *ℤ a) b) (not (int_lt (b *ℤ pos 1) (a *ℤ pos 2))) (
      λ h. let l = le.0 h in lt.1 (omega (arith, lin, mul_one b, mul_comm a (pos 2))),
      λ h. let l = lt.0 h in le.1 (omega (arith, lin, mul_one b, mul_comm a (pos 2))),
    )

-- the sweep value of a point whose numbers are at most 2^29
pub sweep_small : (x y : ℤ) → neg_ℤ (pos (2 ^ 29)) ≤ℤ x → x ≤ℤ pos (2 ^ 29) → neg_ℤ (pos (2 ^ 29)) ≤ℤ y → y ≤ℤ pos (2 ^ 29)
    → (neg_ℤ (pos (2 ^ 60)) ≤ℤ ((pos (2 ^ 30) *ℤ x) +ℤ y)) × (((pos (2 ^ 30) *ℤ x) +ℤ y) ≤ℤ pos (2 ^ 60))
sweep_small x y low_x high_x low_y high_y = (omega (arith, lin, pos_times (2 ^ 30) x), omega (arith, lin, pos_times (2 ^ 30) x))
