-- Numbers between -m and m, and how large the value of an expression can be.
use Rattle.std.specs.Prelude.{ℕ, zero, suc, ◌+◌, ◌*◌, List, [], ◌∷◌, ℤ, pos, neg_ℤ, ◌≤ℤ◌, unsigned_abs}
use Rattle.integer_laws.specs.Polynomial.{Term, Var, Lit, ◌⊕◌, ◌⊖◌, ◌⊗◌, Neg}

-- -m ≤ x ≤ m
pub record IsWithin (m : ℕ) (x : ℤ) : Type 0 where
  pub low : neg_ℤ (pos m) ≤ℤ x
  pub high : x ≤ℤ pos m

-- each of the values is within its bound
abbrev pub AreWithin : List ℕ → List ℤ → Type 0
AreWithin bounds [] = Unit {0}
AreWithin [] (x ∷ xs) = ⊥
AreWithin (m ∷ ms) (x ∷ xs) = IsWithin m x × AreWithin ms xs

-- the bound of the variable n: the nth of the bounds, or 0
abbrev pub bound_of : List ℕ → ℕ → ℕ
bound_of [] n = 0
bound_of (m ∷ ms) zero = m
bound_of (m ∷ ms) (suc n) = bound_of ms n

-- a bound of an expression whose variables have bounds
abbrev pub bound_at : (ℕ → ℕ) → Term → ℕ
bound_at b (Var n) = b n
bound_at b (Lit c) = unsigned_abs c
bound_at b (s ⊕ t) = bound_at b s + bound_at b t
bound_at b (s ⊖ t) = bound_at b s + bound_at b t
bound_at b (s ⊗ t) = bound_at b s * bound_at b t
bound_at b (Neg t) = bound_at b t

-- a bound of an expression whose variables 0, 1, 2 .. have the bounds of a list
abbrev pub bound : List ℕ → Term → ℕ
bound bounds t = bound_at (bound_of bounds) t
