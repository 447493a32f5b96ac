-- The naturals among the whole numbers, and the numbers that fit a width.
use Prim.Native.Nat.{ℕ, suc, ◌+◌, ◌*◌, ◌^◌, ◌≤◌, ◌<◌}
use mathlib.Core.Path.{◌≡◌, refl}
use mathlib.Core.Logic.{◌⊎◌, inl, inr, ◌↔◌}
use native.Mathlib.Omega.{arith}
use mir.Syntax.{Width, w32, w64, w128}
use mir.Val.{hbits}
use Rattle.std.specs.Prelude.{ℤ, pos, negsuc, neg_ℤ, ◌+ℤ◌, ◌*ℤ◌, ◌≤ℤ◌, ◌<ℤ◌, unsigned_abs, FitsSigned}
use borrow.Author.Differences.{fits_in, fits_out, back_is, small_is, read_fits, abs_is}
use Rattle.integer_laws.proofs.Ring.{lin}

-- ranges and casts, for `omega`, beside `lin`
pub ruleset int_casts = (fits_in, fits_out, back_is, small_is, read_fits, abs_is)

-- ---- naturals

pub pos_add : (a b : ℕ) → pos (a + b) ≡ pos a +ℤ pos b
pos_add a b = refl

pub pos_mul : (a b : ℕ) → pos (a * b) ≡ pos a *ℤ pos b
pos_mul a b = refl

pub pos_injective : {a b : ℕ} → pos a ≡ pos b → a ≡ b
pos_injective h = omega (arith, lin)

pub pos_le : (a b : ℕ) → (pos a ≤ℤ pos b) ↔ (a ≤ b)
pos_le a b = (λ h. omega (arith, lin), λ h. omega (arith, lin))

pub pos_lt : (a b : ℕ) → (pos a <ℤ pos b) ↔ (a < b)
pos_lt a b = (λ h. omega (arith, lin), λ h. omega (arith, lin))

pub pos_nonneg : (n : ℕ) → pos 0 ≤ℤ pos n
pos_nonneg n = omega (arith, lin)

pub pos_positive : {n : ℕ} → 1 ≤ n → pos 0 <ℤ pos n
pos_positive h = omega (arith, lin)

-- a number that is not negative is a natural
pub natural : (x : ℤ) → pos 0 ≤ℤ x → (n : ℕ) × (x ≡ pos n)
natural (pos n) h = (n, refl)
natural (negsuc n) h = absurd h.le

pub positive_natural : (x : ℤ) → pos 0 <ℤ x → (n : ℕ) × (1 ≤ n) × (x ≡ pos n)
positive_natural (pos n) h = (n, omega (arith, lin), refl)
positive_natural (negsuc n) h = absurd h.lt

-- a number is a natural or the negation of a positive one
pub natural_or_negated : (x : ℤ) → ((n : ℕ) × (x ≡ pos n)) ⊎ ((n : ℕ) × (1 ≤ n) × (x ≡ neg_ℤ (pos n)))
natural_or_negated (pos n) = inl (n, refl)
natural_or_negated (negsuc n) = inr (suc n, omega arith, refl)

pub unsigned_abs_nonneg : (x : ℤ) → pos 0 ≤ℤ x → pos (unsigned_abs x) ≡ x
unsigned_abs_nonneg x h = omega (arith, lin, int_casts)

pub unsigned_abs_negative : (x : ℤ) → x ≤ℤ pos 0 → pos (unsigned_abs x) ≡ neg_ℤ x
unsigned_abs_negative x h = omega (arith, lin, int_casts)

-- ---- widths

pub fits_is : (w : Width) (x : ℤ) → FitsSigned w x ↔ ((neg_ℤ (pos (2 ^ hbits w)) ≤ℤ x) × (x <ℤ pos (2 ^ hbits w)))
fits_is w x = (λ f. omega (arith, lin, int_casts), λ h. omega (arith, lin, int_casts))

pub fits_i32_is : (x : ℤ) → FitsSigned w32 x ↔ ((neg_ℤ (pos (2 ^ 31)) ≤ℤ x) × (x <ℤ pos (2 ^ 31)))
fits_i32_is = fits_is w32

pub fits_i64_is : (x : ℤ) → FitsSigned w64 x ↔ ((neg_ℤ (pos (2 ^ 63)) ≤ℤ x) × (x <ℤ pos (2 ^ 63)))
fits_i64_is = fits_is w64

pub fits_i128_is : (x : ℤ) → FitsSigned w128 x ↔ ((neg_ℤ (pos (2 ^ 127)) ≤ℤ x) × (x <ℤ pos (2 ^ 127)))
fits_i128_is = fits_is w128
