-- Equations of polynomials over ℤ, by computing both sides.
use Prim.Native.Nat.{ℕ, zero, suc, ◌+◌, ◌*◌}
use mathlib.Core.Path.{◌≡◌, refl, sym, ap, ◌∙◌}
use mathlib.Core.List.{List, [], ◌∷◌}
use native.Mathlib.Omega.{arith}
use lib.IntN.{ℤ, pos, negsuc, neg_ℤ, ◌+ℤ◌, ◌-ℤ◌, ◌*ℤ◌, *ℤ_comm}
use borrow.Author.Differences.{up, down, same_in, same_out, sum_is_lem, neg_is, product_is, lt_out, le_out, below_in, at_most_in}
pub use Rattle.integer_laws.specs.Polynomial.{Term, Var, Lit, ◌⊕◌, ◌⊖◌, ◌⊗◌, Neg, eval, Vanishes}
use Rattle.integer_laws.specs.Polynomial.{Poly, Const, Node, value_at, eval_at, value, node, add_const, add, scale, map_coefficients, mul, variable, norm}

-- sums, differences, negations and comparisons, for `omega`: a product is an unknown
pub ruleset lin = (same_in, same_out, sum_is_lem, neg_is, lt_out, le_out, below_in, at_most_in)

-- ---- the laws of products

pub mul_add : (a b c : ℤ) → a *ℤ (b +ℤ c) ≡ (a *ℤ b) +ℤ (a *ℤ c)
mul_add a b c =
    let s = sum_is_lem b c in
    let above = ap (λ n. up a * n) s in
    let below = ap (λ n. down a * n) s in
    same_in _ _ (omega (arith, above, below, sum_is_lem (a *ℤ b) (a *ℤ c), product_is a b, product_is a c, product_is a (b +ℤ c)))

pub add_mul : (a b c : ℤ) → (a +ℤ b) *ℤ c ≡ (a *ℤ c) +ℤ (b *ℤ c)
add_mul a b c = *ℤ_comm (a +ℤ b) c ∙ mul_add c a b ∙ (λ i. *ℤ_comm c a i +ℤ *ℤ_comm c b i)

pub mul_assoc : (a b c : ℤ) → (a *ℤ b) *ℤ c ≡ a *ℤ (b *ℤ c)
mul_assoc a b c =
    let ab = product_is a b in
    let bc = product_is b c in
    let by = λ (k : ℕ) (m n : ℕ) (e : m ≡ n). ap (λ x. x * k) e in
    let left = product_is (a *ℤ b) c in
    let right = product_is a (b *ℤ c) in
    let ups : up ((a *ℤ b) *ℤ c) ≡ up (a *ℤ (b *ℤ c)) =
    omega (arith, by (up c) _ _ ab.0, by (down c) _ _ ab.1, by (up a) _ _ bc.0, by (down a) _ _ bc.1) in
    let downs : down ((a *ℤ b) *ℤ c) ≡ down (a *ℤ (b *ℤ c)) =
    omega (arith, by (down c) _ _ ab.0, by (up c) _ _ ab.1, by (down a) _ _ bc.0, by (up a) _ _ bc.1) in
    same_in _ _ (λ i. ups i + sym downs i)

pub mul_comm : (a b : ℤ) → a *ℤ b ≡ b *ℤ a
mul_comm = *ℤ_comm

pub mul_left_comm : (a b c : ℤ) → a *ℤ (b *ℤ c) ≡ b *ℤ (a *ℤ c)
mul_left_comm a b c = sym (mul_assoc a b c) ∙ ap (λ x. x *ℤ c) (*ℤ_comm a b) ∙ mul_assoc b a c

pub mul_zero : (a : ℤ) → a *ℤ pos 0 ≡ pos 0
mul_zero a = omega (arith, lin, product_is a (pos 0))

pub zero_mul : (a : ℤ) → pos 0 *ℤ a ≡ pos 0
zero_mul a = omega (arith, lin, product_is (pos 0) a)

pub mul_one : (a : ℤ) → a *ℤ pos 1 ≡ a
mul_one a = omega (arith, lin, product_is a (pos 1))

pub one_mul : (a : ℤ) → pos 1 *ℤ a ≡ a
one_mul a = omega (arith, lin, product_is (pos 1) a)

pub minus_one_mul : (a : ℤ) → negsuc 0 *ℤ a ≡ neg_ℤ a
minus_one_mul a = omega (arith, lin, product_is (negsuc 0) a)

-- ---- the value of a normal form

node_is : (e : ℕ → ℤ) (p q : Poly) → value e (node p q) ≡ value e (Node p q)
node_is e (Const a) (Const (pos zero)) = omega (arith, lin, mul_zero (e 0))
node_is e (Const a) (Const (pos (suc n))) = refl
node_is e (Const a) (Const (negsuc n)) = refl
node_is e (Const a) (Node p q) = refl
node_is e (Node p q) r = refl

add_const_is : (e : ℕ → ℤ) (a : ℤ) (p : Poly) → value e (add_const a p) ≡ a +ℤ value e p
add_const_is e a (Const b) = refl
add_const_is e a (Node p q) = omega (arith, lin, add_const_is (λ n. e (suc n)) a p)

add_is : (e : ℕ → ℤ) (p q : Poly) → value e (add p q) ≡ value e p +ℤ value e q
add_is e (Const a) r = add_const_is e a r
add_is e (Node p q) (Const b) = omega (arith, lin, add_const_is (λ n. e (suc n)) b p)
add_is e (Node p q) (Node r s) =
    let first = add_is (λ n. e (suc n)) p r in
    let second = ap (λ x. e 0 *ℤ x) (add_is e q s) ∙ mul_add (e 0) (value e q) (value e s) in
    node_is e (add p r) (add q s) ∙ omega (arith, lin)

scale_is : (e : ℕ → ℤ) (a : ℤ) (p : Poly) → value e (scale a p) ≡ a *ℤ value e p
scale_is e a (Const b) = refl
scale_is e a (Node p q) =
    let first = scale_is (λ n. e (suc n)) a p in
    let second = ap (λ x. e 0 *ℤ x) (scale_is e a q) ∙ mul_left_comm (e 0) a (value e q) in
    let all = mul_add a (value (λ n. e (suc n)) p) (e 0 *ℤ value e q) in
    node_is e (scale a p) (scale a q) ∙ omega (arith, lin)

-- f multiplies by c in the later variables
map_is : (e : ℕ → ℤ) (c : ℤ) (f : Poly → Poly) → ((r : Poly) → value (λ n. e (suc n)) (f r) ≡ c *ℤ value (λ n. e (suc n)) r) → (p : Poly) → value e (map_coefficients f p) ≡ c *ℤ value e p
map_is e c f h (Const a) = node_is e (f (Const a)) (Const (pos 0)) ∙ omega (arith, lin, h (Const a), mul_zero (e 0))
map_is e c f h (Node p q) =
    let first = h p in
    let second = ap (λ x. e 0 *ℤ x) (map_is e c f h q) ∙ mul_left_comm (e 0) c (value e q) in
    let all = mul_add c (value (λ n. e (suc n)) p) (e 0 *ℤ value e q) in
    node_is e (f p) (map_coefficients f q) ∙ omega (arith, lin)

mul_is : (e : ℕ → ℤ) (p q : Poly) → value e (mul p q) ≡ value e p *ℤ value e q
mul_is e (Const a) r = scale_is e a r
mul_is e (Node p q) r =
    let c = value (λ n. e (suc n)) p in
    let first = map_is e c (mul p) (mul_is (λ n. e (suc n)) p) r in
    let second = node_is e (Const (pos 0)) (mul q r) in
    let third = ap (λ x. e 0 *ℤ x) (mul_is e q r) ∙ sym (mul_assoc (e 0) (value e q) (value e r)) in
    let all = add_mul c (e 0 *ℤ value e q) (value e r) in
    add_is e (map_coefficients (mul p) r) (node (Const (pos 0)) (mul q r)) ∙ omega (arith, lin)

variable_is : (e : ℕ → ℤ) (n : ℕ) → value e (variable n) ≡ e n
variable_is e zero = omega (arith, lin, mul_one (e 0))
variable_is e (suc n) = omega (arith, lin, variable_is (λ k. e (suc k)) n, mul_zero (e 0))

minus_is : (e : ℕ → ℤ) (p : Poly) → value e (scale (negsuc 0) p) ≡ neg_ℤ (value e p)
minus_is e p = scale_is e (negsuc 0) p ∙ minus_one_mul (value e p)

pub norm_is : (e : ℕ → ℤ) (t : Term) → value e (norm t) ≡ eval_at e t
norm_is e (Var n) = variable_is e n
norm_is e (Lit c) = refl
norm_is e (s ⊕ t) = add_is e (norm s) (norm t) ∙ (λ i. norm_is e s i +ℤ norm_is e t i)
norm_is e (s ⊖ t) =
    add_is e (norm s) (scale (negsuc 0) (norm t))
    ∙ ap (λ x. value e (norm s) +ℤ x) (minus_is e (norm t))
    ∙ (λ i. norm_is e s i -ℤ norm_is e t i)
norm_is e (s ⊗ t) = mul_is e (norm s) (norm t) ∙ (λ i. norm_is e s i *ℤ norm_is e t i)
norm_is e (Neg t) = minus_is e (norm t) ∙ ap neg_ℤ (norm_is e t)

-- ---- equations

pub vanishes : (values : List ℤ) (t : Term) → Vanishes t → eval values t ≡ pos 0
vanishes values t v = sym (norm_is (value_at values) t) ∙ ap (value (value_at values)) v

-- two expressions whose difference has no monomial left are equal: `by_ring (x ∷ y ∷ []) s t refl`
pub by_ring : (values : List ℤ) (s t : Term) → Vanishes (s ⊖ t) → eval values s ≡ eval values t
by_ring values s t v = let e = vanishes values (s ⊖ t) v in omega (arith, lin)

-- a multiple of the difference of two numbers that are equal
pub times_gap : (k x y : ℤ) → x ≡ y → k *ℤ (x -ℤ y) ≡ pos 0
times_gap k x y h = ap (λ z. k *ℤ z) {x = x -ℤ y} {y = pos 0} (omega (arith, lin)) ∙ mul_zero k

-- s - t = k (a - b), and a ≡ b
pub by_one : (values : List ℤ) (s t k a b : Term) → Vanishes (s ⊖ t ⊖ k ⊗ (a ⊖ b)) → eval values a ≡ eval values b → eval values s ≡ eval values t
by_one values s t k a b v h =
    let e = vanishes values (s ⊖ t ⊖ k ⊗ (a ⊖ b)) v in
    let first = times_gap (eval values k) (eval values a) (eval values b) h in
    omega (arith, lin)

-- s - t = k (a - b) + l (c - d), and a ≡ b and c ≡ d
pub by_two : (values : List ℤ) (s t k a b l c d : Term) → Vanishes (s ⊖ t ⊖ (k ⊗ (a ⊖ b) ⊕ l ⊗ (c ⊖ d)))
    → eval values a ≡ eval values b → eval values c ≡ eval values d → eval values s ≡ eval values t
by_two values s t k a b l c d v h i =
    let e = vanishes values (s ⊖ t ⊖ (k ⊗ (a ⊖ b) ⊕ l ⊗ (c ⊖ d))) v in
    let first = times_gap (eval values k) (eval values a) (eval values b) h in
    let second = times_gap (eval values l) (eval values c) (eval values d) i in
    omega (arith, lin)

-- s - t = k (a - b) + l (c - d) + m (f - g), and a ≡ b, c ≡ d and f ≡ g
pub by_three : (values : List ℤ) (s t k a b l c d m f g : Term) → Vanishes (s ⊖ t ⊖ (k ⊗ (a ⊖ b) ⊕ l ⊗ (c ⊖ d) ⊕ m ⊗ (f ⊖ g)))
    → eval values a ≡ eval values b → eval values c ≡ eval values d → eval values f ≡ eval values g → eval values s ≡ eval values t
by_three values s t k a b l c d m f g v h i j =
    let e = vanishes values (s ⊖ t ⊖ (k ⊗ (a ⊖ b) ⊕ l ⊗ (c ⊖ d) ⊕ m ⊗ (f ⊖ g))) v in
    let first = times_gap (eval values k) (eval values a) (eval values b) h in
    let second = times_gap (eval values l) (eval values c) (eval values d) i in
    let third = times_gap (eval values m) (eval values f) (eval values g) j in
    omega (arith, lin)

-- the sum of k (a - b) over a list of (k, a, b), and that each a ≡ b
abbrev pub combination : List (Term × Term × Term) → Term
combination [] = Lit (pos 0)
combination (e ∷ es) = e.0 ⊗ (e.1 ⊖ e.2) ⊕ combination es

abbrev pub AreEqual : List ℤ → List (Term × Term × Term) → Type 0
AreEqual values [] = Unit {0}
AreEqual values (e ∷ es) = (eval values e.1 ≡ eval values e.2) × AreEqual values es

combination_zero : (values : List ℤ) (es : List (Term × Term × Term)) → AreEqual values es → eval values (combination es) ≡ pos 0
combination_zero values [] h = refl
combination_zero values (e ∷ es) h =
    let first = times_gap (eval values e.0) (eval values e.1) (eval values e.2) h.0 in
    let rest = combination_zero values es h.1 in
    omega (arith, lin)

-- s - t is the combination of any number of equations: `by_equations values s t ((k, a, b) ∷ (l, c, d) ∷ []) refl (h, (i, tt))`
pub by_equations : (values : List ℤ) (s t : Term) (es : List (Term × Term × Term)) → Vanishes (s ⊖ t ⊖ combination es) → AreEqual values es → eval values s ≡ eval values t
by_equations values s t es v h =
    let e = vanishes values (s ⊖ t ⊖ combination es) v in
    let sum = combination_zero values es h in
    omega (arith, lin)

-- ---- differences and negations in products

pub mul_sub : (k x y : ℤ) → k *ℤ (x -ℤ y) ≡ (k *ℤ x) -ℤ (k *ℤ y)
mul_sub k x y = by_ring (k ∷ x ∷ y ∷ []) (Var 0 ⊗ (Var 1 ⊖ Var 2)) (Var 0 ⊗ Var 1 ⊖ Var 0 ⊗ Var 2) refl

pub sub_mul : (x y k : ℤ) → (x -ℤ y) *ℤ k ≡ (x *ℤ k) -ℤ (y *ℤ k)
sub_mul x y k = by_ring (x ∷ y ∷ k ∷ []) ((Var 0 ⊖ Var 1) ⊗ Var 2) (Var 0 ⊗ Var 2 ⊖ Var 1 ⊗ Var 2) refl

pub neg_mul : (x y : ℤ) → neg_ℤ x *ℤ y ≡ neg_ℤ (x *ℤ y)
neg_mul x y = by_ring (x ∷ y ∷ []) (Neg (Var 0) ⊗ Var 1) (Neg (Var 0 ⊗ Var 1)) refl

pub mul_neg : (x y : ℤ) → x *ℤ neg_ℤ y ≡ neg_ℤ (x *ℤ y)
mul_neg x y = by_ring (x ∷ y ∷ []) (Var 0 ⊗ Neg (Var 1)) (Neg (Var 0 ⊗ Var 1)) refl

pub neg_mul_neg : (x y : ℤ) → neg_ℤ x *ℤ neg_ℤ y ≡ x *ℤ y
neg_mul_neg x y = by_ring (x ∷ y ∷ []) (Neg (Var 0) ⊗ Neg (Var 1)) (Var 0 ⊗ Var 1) refl

-- a multiple by a natural, for `omega` at a literal: `omega (arith, lin, pos_times 2 x)`
pub pos_times : (n : ℕ) (x : ℤ) → (up (pos n *ℤ x) ≡ n * up x) × (down (pos n *ℤ x) ≡ n * down x)
pos_times n x = omega (arith, product_is (pos n) x)
