-- The order of ℤ under products: factors multiplied and cancelled, certificates, fractions compared.
use mathlib.Core.Path.{◌≡◌, refl, sym, ◌∙◌}
use mathlib.Core.List.{List, [], ◌∷◌}
use native.Mathlib.Omega.{arith}
use Rattle.std.specs.Prelude.{ℤ, pos, ◌-ℤ◌, ◌*ℤ◌, ◌≤ℤ◌, ◌<ℤ◌}
use Rattle.integer_laws.proofs.Ring.{lin, Term, Var, ◌⊕◌, ◌⊖◌, ◌⊗◌, eval, Vanishes, vanishes, by_two, times_gap, mul_comm, sub_mul, mul_sub}
use Rattle.integer_laws.proofs.Compare.{lt_excludes_eq, le_of_lt}
use Rattle.integer_laws.proofs.Sign.{nonneg_times_nonneg, positive_times_positive, nonpos_times_nonneg, negative_times_positive, nonneg_factor, positive_factor, zero_factor}

-- ---- an inequality times a factor

pub mul_le : {x y : ℤ} (k : ℤ) → pos 0 ≤ℤ k → x ≤ℤ y → (k *ℤ x) ≤ℤ (k *ℤ y)
mul_le {x} {y} k h le = omega (arith, lin, mul_sub k y x, nonneg_times_nonneg {x = k} {y = y -ℤ x} h (omega (arith, lin)))

pub le_mul : {x y : ℤ} (k : ℤ) → pos 0 ≤ℤ k → x ≤ℤ y → (x *ℤ k) ≤ℤ (y *ℤ k)
le_mul {x} {y} k h le = omega (arith, lin, sub_mul y x k, nonneg_times_nonneg {x = y -ℤ x} {y = k} (omega (arith, lin)) h)

pub mul_lt : {x y : ℤ} (k : ℤ) → pos 0 <ℤ k → x <ℤ y → (k *ℤ x) <ℤ (k *ℤ y)
mul_lt {x} {y} k h lt = omega (arith, lin, mul_sub k y x, positive_times_positive {x = k} {y = y -ℤ x} h (omega (arith, lin)))

pub lt_mul : {x y : ℤ} (k : ℤ) → pos 0 <ℤ k → x <ℤ y → (x *ℤ k) <ℤ (y *ℤ k)
lt_mul {x} {y} k h lt = omega (arith, lin, sub_mul y x k, positive_times_positive {x = y -ℤ x} {y = k} (omega (arith, lin)) h)

-- a factor that is not positive turns the inequality
pub mul_le_turned : {x y : ℤ} (k : ℤ) → k ≤ℤ pos 0 → x ≤ℤ y → (k *ℤ y) ≤ℤ (k *ℤ x)
mul_le_turned {x} {y} k h le = omega (arith, lin, mul_sub k y x, nonpos_times_nonneg {x = k} {y = y -ℤ x} h (omega (arith, lin)))

pub mul_lt_turned : {x y : ℤ} (k : ℤ) → k <ℤ pos 0 → x <ℤ y → (k *ℤ y) <ℤ (k *ℤ x)
mul_lt_turned {x} {y} k h lt = omega (arith, lin, mul_sub k y x, negative_times_positive {x = k} {y = y -ℤ x} h (omega (arith, lin)))

-- ---- a positive factor cancelled

pub cancel_eq : (k x y : ℤ) → pos 0 <ℤ k → k *ℤ x ≡ k *ℤ y → x ≡ y
cancel_eq k x y h e =
    let gap = zero_factor k (x -ℤ y) (λ z. lt_excludes_eq h (sym z)) (mul_sub k x y ∙ omega (arith, lin)) in
    omega (arith, lin)

pub cancel_le : (k x y : ℤ) → pos 0 <ℤ k → (k *ℤ x) ≤ℤ (k *ℤ y) → x ≤ℤ y
cancel_le k x y h le =
    let product = mul_sub k y x in
    let gap = nonneg_factor k (y -ℤ x) h (omega (arith, lin)) in
    omega (arith, lin)

pub cancel_lt : (k x y : ℤ) → pos 0 ≤ℤ k → (k *ℤ x) <ℤ (k *ℤ y) → x <ℤ y
cancel_lt k x y h lt =
    let product = mul_sub k y x in
    let gap = positive_factor k (y -ℤ x) h (omega (arith, lin)) in
    omega (arith, lin)

-- a factor that is not 0 cancelled
pub cancel_nonzero : (k x y : ℤ) → ¬ (k ≡ pos 0) → k *ℤ x ≡ k *ℤ y → x ≡ y
cancel_nonzero k x y n e =
    let gap = zero_factor k (x -ℤ y) n (mul_sub k x y ∙ omega (arith, lin)) in
    omega (arith, lin)

-- the same with the factor on the right
pub cancel_eq_right : (k x y : ℤ) → pos 0 <ℤ k → x *ℤ k ≡ y *ℤ k → x ≡ y
cancel_eq_right k x y h e = cancel_eq k x y h (mul_comm k x ∙ e ∙ mul_comm y k)

pub cancel_le_right : (k x y : ℤ) → pos 0 <ℤ k → (x *ℤ k) ≤ℤ (y *ℤ k) → x ≤ℤ y
cancel_le_right k x y h le = cancel_le k x y h (omega (arith, lin, mul_comm k x, mul_comm k y))

pub cancel_lt_right : (k x y : ℤ) → pos 0 ≤ℤ k → (x *ℤ k) <ℤ (y *ℤ k) → x <ℤ y
cancel_lt_right k x y h lt = cancel_lt k x y h (omega (arith, lin, mul_comm k x, mul_comm k y))

-- ---- two inequalities between numbers that are not negative

pub mul_le_mul : {x y u v : ℤ} → pos 0 ≤ℤ x → x ≤ℤ y → pos 0 ≤ℤ u → u ≤ℤ v → (x *ℤ u) ≤ℤ (y *ℤ v)
mul_le_mul {x} {y} {u} {v} h le k le' = omega (arith, lin, le_mul u k le, mul_le y (omega (arith, lin)) le')

pub mul_lt_mul : {x y u v : ℤ} → pos 0 ≤ℤ x → x <ℤ y → pos 0 ≤ℤ u → u <ℤ v → (x *ℤ u) <ℤ (y *ℤ v)
mul_lt_mul {x} {y} {u} {v} h lt k lt' = omega (arith, lin, le_mul u k (le_of_lt lt), mul_lt y (omega (arith, lin)) lt')

-- strict in the first and not in the second
pub mul_lt_le : {x y u v : ℤ} → pos 0 ≤ℤ x → x <ℤ y → pos 0 <ℤ u → u ≤ℤ v → (x *ℤ u) <ℤ (y *ℤ v)
mul_lt_le {x} {y} {u} {v} h lt k le = omega (arith, lin, lt_mul u k lt, mul_le y (omega (arith, lin)) le)

-- ---- inequalities by certificate

-- t - s = k (b - a), with k not negative and a ≤ b
pub by_le_one : (values : List ℤ) (s t k a b : Term) → Vanishes (t ⊖ s ⊖ k ⊗ (b ⊖ a)) → pos 0 ≤ℤ eval values k → eval values a ≤ℤ eval values b → eval values s ≤ℤ eval values t
by_le_one values s t k a b v p h =
    let e = vanishes values (t ⊖ s ⊖ k ⊗ (b ⊖ a)) v in
    let first = nonneg_times_nonneg {y = eval values b -ℤ eval values a} p (omega (arith, lin)) in
    omega (arith, lin)

-- the same with k positive and a < b
pub by_lt_one : (values : List ℤ) (s t k a b : Term) → Vanishes (t ⊖ s ⊖ k ⊗ (b ⊖ a)) → pos 0 <ℤ eval values k → eval values a <ℤ eval values b → eval values s <ℤ eval values t
by_lt_one values s t k a b v p h =
    let e = vanishes values (t ⊖ s ⊖ k ⊗ (b ⊖ a)) v in
    let first = positive_times_positive {y = eval values b -ℤ eval values a} p (omega (arith, lin)) in
    omega (arith, lin)

-- t - s = k (b - a) + l (d - c), with k and l not negative, a ≤ b and c ≤ d
pub by_le_two : (values : List ℤ) (s t k a b l c d : Term) → Vanishes (t ⊖ s ⊖ (k ⊗ (b ⊖ a) ⊕ l ⊗ (d ⊖ c)))
    → pos 0 ≤ℤ eval values k → eval values a ≤ℤ eval values b → pos 0 ≤ℤ eval values l → eval values c ≤ℤ eval values d → eval values s ≤ℤ eval values t
by_le_two values s t k a b l c d v p h q i =
    let e = vanishes values (t ⊖ s ⊖ (k ⊗ (b ⊖ a) ⊕ l ⊗ (d ⊖ c))) v in
    let first = nonneg_times_nonneg {y = eval values b -ℤ eval values a} p (omega (arith, lin)) in
    let second = nonneg_times_nonneg {y = eval values d -ℤ eval values c} q (omega (arith, lin)) in
    omega (arith, lin)

-- the same with k positive and a < b
pub by_lt_two : (values : List ℤ) (s t k a b l c d : Term) → Vanishes (t ⊖ s ⊖ (k ⊗ (b ⊖ a) ⊕ l ⊗ (d ⊖ c)))
    → pos 0 <ℤ eval values k → eval values a <ℤ eval values b → pos 0 ≤ℤ eval values l → eval values c ≤ℤ eval values d → eval values s <ℤ eval values t
by_lt_two values s t k a b l c d v p h q i =
    let e = vanishes values (t ⊖ s ⊖ (k ⊗ (b ⊖ a) ⊕ l ⊗ (d ⊖ c))) v in
    let first = positive_times_positive {y = eval values b -ℤ eval values a} p (omega (arith, lin)) in
    let second = nonneg_times_nonneg {y = eval values d -ℤ eval values c} q (omega (arith, lin)) in
    omega (arith, lin)

-- t - s = k (b - a) + l (d - c), with k not negative, a ≤ b and c ≡ d, whatever l is
pub by_le_eq : (values : List ℤ) (s t k a b l c d : Term) → Vanishes (t ⊖ s ⊖ (k ⊗ (b ⊖ a) ⊕ l ⊗ (d ⊖ c)))
    → pos 0 ≤ℤ eval values k → eval values a ≤ℤ eval values b → eval values c ≡ eval values d → eval values s ≤ℤ eval values t
by_le_eq values s t k a b l c d v p h i =
    let e = vanishes values (t ⊖ s ⊖ (k ⊗ (b ⊖ a) ⊕ l ⊗ (d ⊖ c))) v in
    let first = nonneg_times_nonneg {y = eval values b -ℤ eval values a} p (omega (arith, lin)) in
    let second = times_gap (eval values l) (eval values d) (eval values c) (sym i) in
    omega (arith, lin)

-- the same with k positive and a < b
pub by_lt_eq : (values : List ℤ) (s t k a b l c d : Term) → Vanishes (t ⊖ s ⊖ (k ⊗ (b ⊖ a) ⊕ l ⊗ (d ⊖ c)))
    → pos 0 <ℤ eval values k → eval values a <ℤ eval values b → eval values c ≡ eval values d → eval values s <ℤ eval values t
by_lt_eq values s t k a b l c d v p h i =
    let e = vanishes values (t ⊖ s ⊖ (k ⊗ (b ⊖ a) ⊕ l ⊗ (d ⊖ c))) v in
    let first = positive_times_positive {y = eval values b -ℤ eval values a} p (omega (arith, lin)) in
    let second = times_gap (eval values l) (eval values d) (eval values c) (sym i) in
    omega (arith, lin)

-- ---- fractions a/b, c/d and e/f with positive denominators: a/b ≤ c/d is a d ≤ c b

module _ (a b c d e f : ℤ) where
  abbrev values : List ℤ
  values = a ∷ b ∷ c ∷ d ∷ e ∷ f ∷ []

  -- d times a f, and d times e b
  abbrev left : Term
  left = Var 3 ⊗ (Var 0 ⊗ Var 5)

  abbrev right : Term
  right = Var 3 ⊗ (Var 4 ⊗ Var 1)

  -- a d, c b, c f and e d
  abbrev ad : Term
  ad = Var 0 ⊗ Var 3

  abbrev cb : Term
  cb = Var 2 ⊗ Var 1

  abbrev cf : Term
  cf = Var 2 ⊗ Var 5

  abbrev ed : Term
  ed = Var 4 ⊗ Var 3

  pub fraction_eq_trans : pos 0 <ℤ d → a *ℤ d ≡ c *ℤ b → c *ℤ f ≡ e *ℤ d → a *ℤ f ≡ e *ℤ b
  fraction_eq_trans q h k = cancel_eq d (a *ℤ f) (e *ℤ b) q (by_two values left right (Var 5) ad cb (Var 1) cf ed refl h k)

  pub fraction_le_trans : pos 0 <ℤ b → pos 0 <ℤ d → pos 0 <ℤ f → (a *ℤ d) ≤ℤ (c *ℤ b) → (c *ℤ f) ≤ℤ (e *ℤ d) → (a *ℤ f) ≤ℤ (e *ℤ b)
  fraction_le_trans p q r h k =
      cancel_le d (a *ℤ f) (e *ℤ b) q (by_le_two values left right (Var 5) ad cb (Var 1) cf ed refl (le_of_lt r) h (le_of_lt p) k)

  pub fraction_lt_le_trans : pos 0 <ℤ b → pos 0 <ℤ d → pos 0 <ℤ f → (a *ℤ d) <ℤ (c *ℤ b) → (c *ℤ f) ≤ℤ (e *ℤ d) → (a *ℤ f) <ℤ (e *ℤ b)
  fraction_lt_le_trans p q r h k =
      cancel_lt d (a *ℤ f) (e *ℤ b) (le_of_lt q) (by_lt_two values left right (Var 5) ad cb (Var 1) cf ed refl r h (le_of_lt p) k)

  pub fraction_le_lt_trans : pos 0 <ℤ b → pos 0 <ℤ d → pos 0 <ℤ f → (a *ℤ d) ≤ℤ (c *ℤ b) → (c *ℤ f) <ℤ (e *ℤ d) → (a *ℤ f) <ℤ (e *ℤ b)
  fraction_le_lt_trans p q r h k =
      cancel_lt d (a *ℤ f) (e *ℤ b) (le_of_lt q) (by_lt_two values left right (Var 1) cf ed (Var 5) ad cb refl p k (le_of_lt r) h)

  pub fraction_lt_trans : pos 0 <ℤ b → pos 0 <ℤ d → pos 0 <ℤ f → (a *ℤ d) <ℤ (c *ℤ b) → (c *ℤ f) <ℤ (e *ℤ d) → (a *ℤ f) <ℤ (e *ℤ b)
  fraction_lt_trans p q r h k = fraction_lt_le_trans p q r h (le_of_lt k)
