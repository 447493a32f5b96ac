-- The order of ℤ: its laws, its cases, and the tests `int_lt`, `int_le` and `int_eq`.
use Prim.Native.Nat.{◌+◌, ◌<◌, ◌≤◌}
use mathlib.Core.Path.{◌≡◌, refl, sym}
use mathlib.Core.Logic.{◌⊎◌, inl, inr, ⊎_elim, ◌↔◌}
use native.Mathlib.Omega.{arith}
use Rattle.std.specs.Prelude.{ℤ, pos, ◌≤ℤ◌, ◌<ℤ◌, Bool, true, false, not, IsTrue, IsFalse, int_lt, int_le}
use borrow.Author.Differences.{up, down, lt_T, le_T, lt_not, le_not, lt-true, lt-false, le-true, le-false, true-lt, false-lt, true-le, false-le, lt_in, le_in, true_is_lt, false_is_lt, true_is_le, false_is_le}
use Rattle.std.specs.Ordering.{int_eq}
use Rattle.std.proofs.lemmas.Bool.Decides.{Decides-int_eq}
use Rattle.integer_laws.proofs.Ring.{lin}

pub lt_is_true : (x y : ℤ) → up x + down y < up y + down x → int_lt x y ≡ true
lt_is_true x y h = sym (true_is_lt x y h)

pub lt_is_false : (x y : ℤ) → up y + down x ≤ up x + down y → int_lt x y ≡ false
lt_is_false x y h = sym (false_is_lt x y h)

pub le_is_true : (x y : ℤ) → up x + down y ≤ up y + down x → int_le x y ≡ true
le_is_true x y h = sym (true_is_le x y h)

pub le_is_false : (x y : ℤ) → up y + down x < up x + down y → int_le x y ≡ false
le_is_false x y h = sym (false_is_le x y h)

-- the tests `int_lt` and `int_le` among the hypotheses and at the goal, for `omega`, beside `lin`
pub ruleset int_tests = (lt_T, le_T, lt_not, le_not, lt-true, lt-false, le-true, le-false, true-lt, false-lt, true-le, false-le, lt_in, le_in, true_is_lt, false_is_lt, true_is_le, false_is_le, lt_is_true, lt_is_false, le_is_true, le_is_false)

-- ---- the laws of the order

pub le_refl : (x : ℤ) → x ≤ℤ x
le_refl x = omega (arith, lin)

pub le_of_eq : {x y : ℤ} → x ≡ y → x ≤ℤ y
le_of_eq h = omega (arith, lin)

pub le_of_lt : {x y : ℤ} → x <ℤ y → x ≤ℤ y
le_of_lt h = omega (arith, lin)

pub le_trans : {x y z : ℤ} → x ≤ℤ y → y ≤ℤ z → x ≤ℤ z
le_trans h k = omega (arith, lin)

pub lt_trans : {x y z : ℤ} → x <ℤ y → y <ℤ z → x <ℤ z
lt_trans h k = omega (arith, lin)

pub lt_le_trans : {x y z : ℤ} → x <ℤ y → y ≤ℤ z → x <ℤ z
lt_le_trans h k = omega (arith, lin)

pub le_lt_trans : {x y z : ℤ} → x ≤ℤ y → y <ℤ z → x <ℤ z
le_lt_trans h k = omega (arith, lin)

pub le_antisymm : {x y : ℤ} → x ≤ℤ y → y ≤ℤ x → x ≡ y
le_antisymm h k = omega (arith, lin)

pub lt_irrefl : {x : ℤ} → x <ℤ x → ⊥
lt_irrefl h = omega (arith, lin)

-- x < y excludes y ≤ x, and x = y
pub lt_excludes_le : {x y : ℤ} → x <ℤ y → y ≤ℤ x → ⊥
lt_excludes_le h k = omega (arith, lin)

pub lt_excludes_eq : {x y : ℤ} → x <ℤ y → x ≡ y → ⊥
lt_excludes_eq h e = omega (arith, lin)

-- ---- its cases

-- x < y or y ≤ x, read off the test
cases_of : (x y : ℤ) (t : Bool) → int_lt x y ≡ t → (x <ℤ y) ⊎ (y ≤ℤ x)
cases_of x y true e = inl (omega (arith, lin, int_tests))
cases_of x y false e = inr (omega (arith, lin, int_tests))

pub lt_or_ge : (x y : ℤ) → (x <ℤ y) ⊎ (y ≤ℤ x)
lt_or_ge x y = cases_of x y (int_lt x y) refl

pub le_or_gt : (x y : ℤ) → (x ≤ℤ y) ⊎ (y <ℤ x)
le_or_gt x y = ⊎_elim inr inl (lt_or_ge y x)

pub trichotomy : (x y : ℤ) → (x <ℤ y) ⊎ (x ≡ y) ⊎ (y <ℤ x)
trichotomy x y = ⊎_elim inl (λ (h : y ≤ℤ x). inr (⊎_elim inr (λ (k : x ≤ℤ y). inl (le_antisymm k h)) (lt_or_ge y x))) (lt_or_ge x y)

pub eq_or_not : (x y : ℤ) → (x ≡ y) ⊎ ¬ (x ≡ y)
eq_or_not x y = ⊎_elim (λ (h : x <ℤ y). inr (lt_excludes_eq h)) (⊎_elim inl (λ (h : y <ℤ x). inr (λ e. lt_excludes_eq h (sym e)))) (trichotomy x y)

-- the sign of a number
pub sign_cases : (x : ℤ) → (x <ℤ pos 0) ⊎ (x ≡ pos 0) ⊎ (pos 0 <ℤ x)
sign_cases x = trichotomy x (pos 0)

pub le_of_not_lt : {x y : ℤ} → ¬ (x <ℤ y) → y ≤ℤ x
le_of_not_lt {x} {y} n = ⊎_elim (λ h. absurd (n h)) (λ h. h) (lt_or_ge x y)

pub lt_of_not_le : {x y : ℤ} → ¬ (x ≤ℤ y) → y <ℤ x
lt_of_not_le {x} {y} n = ⊎_elim (λ h. absurd (n h)) (λ h. h) (le_or_gt x y)

pub not_lt_of_le : {x y : ℤ} → y ≤ℤ x → ¬ (x <ℤ y)
not_lt_of_le h k = omega (arith, lin)

pub not_le_of_lt : {x y : ℤ} → y <ℤ x → ¬ (x ≤ℤ y)
not_le_of_lt h k = omega (arith, lin)

pub apart_cases : {x y : ℤ} → ¬ (x ≡ y) → (x <ℤ y) ⊎ (y <ℤ x)
apart_cases {x} {y} n = ⊎_elim inl (⊎_elim (λ e. absurd (n e)) inr) (trichotomy x y)

pub le_cases : {x y : ℤ} → x ≤ℤ y → (x <ℤ y) ⊎ (x ≡ y)
le_cases {x} {y} h = ⊎_elim inl (λ (k : y ≤ℤ x). inr (le_antisymm h k)) (lt_or_ge x y)

-- ---- the tests

pub int_lt_is : (x y : ℤ) → IsTrue (int_lt x y) ↔ (x <ℤ y)
int_lt_is x y = (λ h. omega (arith, lin, int_tests), λ h. omega (arith, lin, int_tests))

pub int_le_is : (x y : ℤ) → IsTrue (int_le x y) ↔ (x ≤ℤ y)
int_le_is x y = (λ h. omega (arith, lin, int_tests), λ h. omega (arith, lin, int_tests))

pub int_lt_false : (x y : ℤ) → IsFalse (int_lt x y) ↔ (y ≤ℤ x)
int_lt_false x y = (λ h. omega (arith, lin, int_tests), λ h. omega (arith, lin, int_tests))

pub int_le_false : (x y : ℤ) → IsFalse (int_le x y) ↔ (y <ℤ x)
int_le_false x y = (λ h. omega (arith, lin, int_tests), λ h. omega (arith, lin, int_tests))

negated : (t : Bool) → IsTrue (not t) ↔ IsFalse t
negated true = (λ h. cc, λ h. cc)
negated false = (λ h. refl, λ h. refl)

pub not_int_lt_is : (x y : ℤ) → IsTrue (not (int_lt x y)) ↔ (y ≤ℤ x)
not_int_lt_is x y =
    let n = negated (int_lt x y) in
    let f = int_lt_false x y in
    (λ h. f.0 (n.0 h), λ h. n.1 (f.1 h))

pub not_int_le_is : (x y : ℤ) → IsTrue (not (int_le x y)) ↔ (y <ℤ x)
not_int_le_is x y =
    let n = negated (int_le x y) in
    let f = int_le_false x y in
    (λ h. f.0 (n.0 h), λ h. n.1 (f.1 h))

pub int_eq_is : (x y : ℤ) → IsTrue (int_eq x y) ↔ (x ≡ y)
int_eq_is x y = Decides-int_eq x y
