-- Sums, differences and products of numbers small enough for a width, as the code computes them.
use Rattle.std.proofs.Common.{◌≡◌, sym, ◌∙◌, ap, subst, ℕ, ◌+◌, ◌*◌, ◌^◌, ◌<◌, ℤ, ◌+ℤ◌, ◌-ℤ◌, ◌*ℤ◌, FitsSigned, to_z, of_z, lit<, lit≤}
use Rattle.std.proofs.lemmas.Int.{to_z-of_z}
use mir.Syntax.{Width, w32, w64}
use mir.Val.{hbits}
use Rattle.integer_laws.proofs.Bound.{IsWithin, within_sum, within_difference, within_product, within_fits, within_more}

-- a number as its bits are read again
abbrev pub read : Width → ℤ → ℤ
read w z = to_z w (of_z w z)

pub read_within : (w : Width) (z : ℤ) (m : ℕ) → m < 2 ^ hbits w → IsWithin m z → read w z ≡ z
read_within w z m small h = to_z-of_z w z (within_fits w small h)

-- one that fits, and is known as another
pub read_is : (w : Width) (x z : ℤ) → FitsSigned w x → x ≡ z → read w x ≡ z
read_is w x z fits e = to_z-of_z w x fits ∙ e

pub same_bits : (w : Width) (a b : ℤ) → FitsSigned w a → FitsSigned w b → of_z w a ≡ of_z w b → a ≡ b
same_bits w a b fits_a fits_b h = sym (to_z-of_z w a fits_a) ∙ ap (to_z w) h ∙ to_z-of_z w b fits_b

module _ (w : Width) (x y : ℤ) (m n : ℕ) (m_small : m < 2 ^ hbits w) (n_small : n < 2 ^ hbits w) (hx : IsWithin m x) (hy : IsWithin n y) where
  both : (f : ℤ → ℤ → ℤ) → f (read w x) (read w y) ≡ f x y
  both f = λ i. f (read_within w x m m_small hx i) (read_within w y n n_small hy i)

  pub plus_fits : m + n < 2 ^ hbits w → FitsSigned w (read w x +ℤ read w y)
  plus_fits small = subst (FitsSigned w) (sym (both (λ a b. a +ℤ b))) (within_fits w small (within_sum hx hy))

  pub plus_is : m + n < 2 ^ hbits w → read w (read w x +ℤ read w y) ≡ x +ℤ y
  plus_is small = read_is w _ _ (plus_fits small) (both (λ a b. a +ℤ b))

  pub minus_fits : m + n < 2 ^ hbits w → FitsSigned w (read w x -ℤ read w y)
  minus_fits small = subst (FitsSigned w) (sym (both (λ a b. a -ℤ b))) (within_fits w small (within_difference hx hy))

  pub minus_is : m + n < 2 ^ hbits w → read w (read w x -ℤ read w y) ≡ x -ℤ y
  minus_is small = read_is w _ _ (minus_fits small) (both (λ a b. a -ℤ b))

  pub times_is : m * n < 2 ^ hbits w → read w (read w x *ℤ read w y) ≡ x *ℤ y
  times_is small = read_is w _ _ (subst (FitsSigned w) (sym (both (λ a b. a *ℤ b))) (within_fits w small (within_product hx hy))) (both (λ a b. a *ℤ b))

-- a product of numbers whose bits are read in 64
pub times_read : (p x y : ℤ) → IsWithin (2 ^ 62) x → IsWithin (2 ^ 62) y → p ≡ read w64 x *ℤ read w64 y → p ≡ x *ℤ y
times_read p x y hx hy is = is ∙ both w64 x y (2 ^ 62) (2 ^ 62) (lit< tt) (lit< tt) hx hy (λ a b. a *ℤ b)

-- ---- what `difference` and `sum` answer

pub difference_is : (d a b : ℤ) → FitsSigned w32 a → FitsSigned w32 b → d ≡ read w32 a -ℤ read w32 b → d ≡ a -ℤ b
difference_is d a b fits_a fits_b is = is ∙ (λ i. to_z-of_z w32 a fits_a i -ℤ to_z-of_z w32 b fits_b i)

module _ (d a b : ℤ) (ha : IsWithin (2 ^ 28) a) (hb : IsWithin (2 ^ 28) b) where
  pub difference_within : d ≡ read w32 a -ℤ read w32 b → IsWithin (2 ^ 29) d
  difference_within is =
      subst (IsWithin (2 ^ 29)) (sym (is ∙ both w32 a b (2 ^ 28) (2 ^ 28) (lit< tt) (lit< tt) ha hb (λ x y. x -ℤ y))) (within_difference ha hb)

  -- as its bits are read again, for a product
  pub difference_small : d ≡ read w32 a -ℤ read w32 b → IsWithin (2 ^ 30) (read w64 d)
  difference_small is =
      let within = difference_within is in
      subst (IsWithin (2 ^ 30)) (sym (read_within w64 d (2 ^ 29) (lit< tt) within)) (within_more (lit≤ tt) within)
