-- Polynomial expressions over ℤ, and the normal form by which two of them are compared.
use Prim.Native.Nat.{ℕ, zero, suc}
use mathlib.Core.Path.{◌≡◌}
use mathlib.Core.List.{List, [], ◌∷◌}
use lib.IntN.{ℤ, pos, negsuc, neg_ℤ, ◌+ℤ◌, ◌-ℤ◌, ◌*ℤ◌}

infixl 6 ◌⊕◌
infixl 6 ◌⊖◌
infixl 7 ◌⊗◌
-- an expression: a numbered variable, a literal, a sum, a difference, a product, a negation
pub data Term : Type 0 where
  Var : ℕ → Term
  Lit : ℤ → Term
  ◌⊕◌ : Term → Term → Term
  ◌⊖◌ : Term → Term → Term
  ◌⊗◌ : Term → Term → Term
  Neg : Term → Term

-- the value of the variable n: the nth of the values, or 0
abbrev pub value_at : List ℤ → ℕ → ℤ
value_at [] n = pos 0
value_at (x ∷ xs) zero = x
value_at (x ∷ xs) (suc n) = value_at xs n

-- the value of an expression where each variable has a value
abbrev pub eval_at : (ℕ → ℤ) → Term → ℤ
eval_at e (Var n) = e n
eval_at e (Lit c) = c
eval_at e (s ⊕ t) = eval_at e s +ℤ eval_at e t
eval_at e (s ⊖ t) = eval_at e s -ℤ eval_at e t
eval_at e (s ⊗ t) = eval_at e s *ℤ eval_at e t
eval_at e (Neg t) = neg_ℤ (eval_at e t)

-- the value of an expression where the variables 0, 1, 2 .. have the values of a list
abbrev pub eval : List ℤ → Term → ℤ
eval values t = eval_at (value_at values) t

-- a polynomial: a constant, or p in the later variables plus the first variable times q
pub data Poly : Type 0 where
  Const : ℤ → Poly
  Node : Poly → Poly → Poly

-- the value of a polynomial
abbrev pub value : (ℕ → ℤ) → Poly → ℤ
value e (Const c) = c
value e (Node p q) = value (λ n. e (suc n)) p +ℤ (e zero *ℤ value e q)

-- p in the later variables plus the first times q, a constant where it is one
abbrev pub node : Poly → Poly → Poly
node (Const a) (Const (pos zero)) = Const a
node p q = Node p q

-- the sum of a constant and a polynomial
abbrev pub add_const : ℤ → Poly → Poly
add_const a (Const b) = Const (a +ℤ b)
add_const a (Node p q) = Node (add_const a p) q

-- the sum of two polynomials
abbrev pub add : Poly → Poly → Poly
add (Const a) r = add_const a r
add (Node p q) (Const b) = Node (add_const b p) q
add (Node p q) (Node r s) = node (add p r) (add q s)

-- a polynomial times a constant
abbrev pub scale : ℤ → Poly → Poly
scale a (Const b) = Const (a *ℤ b)
scale a (Node p q) = node (scale a p) (scale a q)

-- a polynomial in all variables, each coefficient of the first variable changed by f
abbrev pub map_coefficients : (Poly → Poly) → Poly → Poly
map_coefficients f (Const c) = node (f (Const c)) (Const (pos 0))
map_coefficients f (Node p q) = node (f p) (map_coefficients f q)

-- the product of two polynomials
abbrev pub mul : Poly → Poly → Poly
mul (Const a) r = scale a r
mul (Node p q) r = add (map_coefficients (mul p) r) (node (Const (pos 0)) (mul q r))

-- a variable as a polynomial
abbrev pub variable : ℕ → Poly
variable zero = Node (Const (pos 0)) (Const (pos 1))
variable (suc n) = Node (variable n) (Const (pos 0))

-- the normal form of an expression
abbrev pub norm : Term → Poly
norm (Var n) = variable n
norm (Lit c) = Const c
norm (s ⊕ t) = add (norm s) (norm t)
norm (s ⊖ t) = add (norm s) (scale (negsuc 0) (norm t))
norm (s ⊗ t) = mul (norm s) (norm t)
norm (Neg t) = scale (negsuc 0) (norm t)

-- an expression with no monomial left: its value is 0 at all values
abbrev pub Vanishes : Term → Type 0
Vanishes t = norm t ≡ Const (pos 0)
