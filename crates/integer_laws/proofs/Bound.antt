-- Numbers between -m and m, and how large the value of an expression can be.
use Prim.Native.Nat.{ℕ, zero, suc, ◌+◌, ◌*◌, ◌^◌, ◌≤◌, ◌<◌}
use mathlib.Core.Path.{◌≡◌, refl}
use mathlib.Core.List.{List, [], ◌∷◌}
use native.Mathlib.Omega.{arith}
use mir.Syntax.{Width}
use mir.Val.{hbits}
use Rattle.std.specs.Prelude.{ℤ, pos, neg_ℤ, ◌+ℤ◌, ◌-ℤ◌, ◌*ℤ◌, ◌≤ℤ◌, unsigned_abs, FitsSigned}
use Rattle.integer_laws.specs.Polynomial.{value_at, eval_at}
use Rattle.integer_laws.specs.Bound.{bound_of, bound_at}
pub use Rattle.integer_laws.specs.Bound.{IsWithin, AreWithin, bound}
use Rattle.integer_laws.proofs.Ring.{lin, Term, Var, Lit, ◌⊕◌, ◌⊖◌, ◌⊗◌, Neg, eval, by_ring}
use Rattle.integer_laws.proofs.Cast.{int_casts}
use Rattle.integer_laws.proofs.Sign.{nonneg_times_nonneg}

pub within_more : {m n : ℕ} {x : ℤ} → m ≤ n → IsWithin m x → IsWithin n x
within_more h w = omega (arith, lin)

pub within_pos : (n : ℕ) → IsWithin n (pos n)
within_pos n = omega (arith, lin)

pub within_abs : (x : ℤ) → IsWithin (unsigned_abs x) x
within_abs x = omega (arith, lin, int_casts)

pub abs_within : {m : ℕ} {x : ℤ} → IsWithin m x → unsigned_abs x ≤ m
abs_within w = omega (arith, lin, int_casts)

pub within_neg : {m : ℕ} {x : ℤ} → IsWithin m x → IsWithin m (neg_ℤ x)
within_neg w = omega (arith, lin)

pub within_sum : {m n : ℕ} {x y : ℤ} → IsWithin m x → IsWithin n y → IsWithin (m + n) (x +ℤ y)
within_sum v w = omega (arith, lin)

pub within_difference : {m n : ℕ} {x y : ℤ} → IsWithin m x → IsWithin n y → IsWithin (m + n) (x -ℤ y)
within_difference v w = omega (arith, lin)

-- 2 (m n - x y) = (m - x) (n + y) + (m + x) (n - y), and 2 (m n + x y) = (m - x) (n - y) + (m + x) (n + y)
pub within_product : {m n : ℕ} {x y : ℤ} → IsWithin m x → IsWithin n y → IsWithin (m * n) (x *ℤ y)
within_product {m} {n} {x} {y} v w =
    let mx : pos 0 ≤ℤ (pos m -ℤ x) = omega (arith, lin) in
    let xm : pos 0 ≤ℤ (pos m +ℤ x) = omega (arith, lin) in
    let ny : pos 0 ≤ℤ (pos n -ℤ y) = omega (arith, lin) in
    let yn : pos 0 ≤ℤ (pos n +ℤ y) = omega (arith, lin) in
    let values = pos m ∷ pos n ∷ x ∷ y ∷ [] in
    let gap = Var 0 ⊗ Var 1 ⊖ Var 2 ⊗ Var 3 in
    let sum = Var 0 ⊗ Var 1 ⊕ Var 2 ⊗ Var 3 in
    let above = by_ring values ((Var 0 ⊖ Var 2) ⊗ (Var 1 ⊕ Var 3) ⊕ (Var 0 ⊕ Var 2) ⊗ (Var 1 ⊖ Var 3)) (gap ⊕ gap) refl in
    let below = by_ring values ((Var 0 ⊖ Var 2) ⊗ (Var 1 ⊖ Var 3) ⊕ (Var 0 ⊕ Var 2) ⊗ (Var 1 ⊕ Var 3)) (sum ⊕ sum) refl in
    halved (m * n) (x *ℤ y) _ _ _ _ (nonneg_times_nonneg mx yn) (nonneg_times_nonneg xm ny) (nonneg_times_nonneg mx ny) (nonneg_times_nonneg xm yn) above below
  where
    halved : (k : ℕ) (p a b c d : ℤ) → pos 0 ≤ℤ a → pos 0 ≤ℤ b → pos 0 ≤ℤ c → pos 0 ≤ℤ d
        → a +ℤ b ≡ (pos k -ℤ p) +ℤ (pos k -ℤ p) → c +ℤ d ≡ (pos k +ℤ p) +ℤ (pos k +ℤ p) → IsWithin k p
    halved k p a b c d ha hb hc hd e f = omega (arith, lin)

-- ---- an expression

within_at : (e : ℕ → ℤ) (b : ℕ → ℕ) → ((n : ℕ) → IsWithin (b n) (e n)) → (t : Term) → IsWithin (bound_at b t) (eval_at e t)
within_at e b h (Var n) = h n
within_at e b h (Lit c) = within_abs c
within_at e b h (s ⊕ t) = within_sum (within_at e b h s) (within_at e b h t)
within_at e b h (s ⊖ t) = within_difference (within_at e b h s) (within_at e b h t)
within_at e b h (s ⊗ t) = within_product (within_at e b h s) (within_at e b h t)
within_at e b h (Neg t) = within_neg (within_at e b h t)

variable_within : (bounds : List ℕ) (values : List ℤ) → AreWithin bounds values → (n : ℕ) → IsWithin (bound_of bounds n) (value_at values n)
variable_within [] [] h n = within_pos 0
variable_within [] (x ∷ xs) h n = absurd h
variable_within (m ∷ ms) [] h n = omega (arith, lin)
variable_within (m ∷ ms) (x ∷ xs) h zero = h.0
variable_within (m ∷ ms) (x ∷ xs) h (suc n) = variable_within ms xs h.1 n

-- the value of an expression is within the bound that its variables' bounds give: `by_bound (2 ^ 31 ∷ 2 ^ 31 ∷ []) (x ∷ y ∷ []) t (hx, (hy, tt))`
pub by_bound : (bounds : List ℕ) (values : List ℤ) (t : Term) → AreWithin bounds values → IsWithin (bound bounds t) (eval values t)
by_bound bounds values t h = within_at (value_at values) (bound_of bounds) (variable_within bounds values h) t

-- ---- widths

pub within_fits : (w : Width) {m : ℕ} {x : ℤ} → m < 2 ^ hbits w → IsWithin m x → FitsSigned w x
within_fits w h v = omega (arith, lin, int_casts)

pub fits_within : (w : Width) {x : ℤ} → FitsSigned w x → IsWithin (2 ^ hbits w) x
fits_within w f = omega (arith, lin, int_casts)
