-- The four laws that this crate's lemmas come to.
use Rattle.std.specs.Prelude.{◌≡◌, ℕ, List, ℤ, pos, ◌*ℤ◌, ◌≤ℤ◌, ◌<ℤ◌, ◌⊎◌, ◌↔◌}
use Rattle.integer_laws.specs.Polynomial.{Term, ◌⊖◌, eval, Vanishes}
use Rattle.integer_laws.specs.Bound.{IsWithin, AreWithin, bound}

-- two expressions whose difference has no monomial left are equal at all values
abbrev pub EquationLaw : Type 0
EquationLaw = (values : List ℤ) (s t : Term) → Vanishes (s ⊖ t) → eval values s ≡ eval values t

-- the value of an expression is within the bound that the bounds of its variables give
abbrev pub BoundLaw : Type 0
BoundLaw = (bounds : List ℕ) (values : List ℤ) (t : Term) → AreWithin bounds values → IsWithin (bound bounds t) (eval values t)

-- a product is 0 exactly where a factor is
abbrev pub ZeroLaw : Type 0
ZeroLaw = (x y : ℤ) → (x *ℤ y ≡ pos 0) ↔ ((x ≡ pos 0) ⊎ (y ≡ pos 0))

-- the order of the fractions a/b, c/d and e/f is transitive, compared by cross-multiplying
abbrev pub FractionLaw : Type 0
FractionLaw = (a b c d e f : ℤ) → pos 0 <ℤ b → pos 0 <ℤ d → pos 0 <ℤ f → (a *ℤ d) ≤ℤ (c *ℤ b) → (c *ℤ f) ≤ℤ (e *ℤ d) → (a *ℤ f) ≤ℤ (e *ℤ b)
