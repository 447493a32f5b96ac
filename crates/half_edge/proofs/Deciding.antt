-- Tests, and what they tell.
use Rattle.std.proofs.Common.{◌≡◌, ◌↔◌, refl, sym, ◌∙◌, Bool, true, false, true≢false, not, IsTrue}
use Rattle.std.specs.Ordering.{is_lt, is_ge}
use Rattle.std.specs.declared.cmp.Ordering.{Ordering}
use Rattle.std.specs.declared.cmp.Ordering.TheVariants.{Less, Equal, Greater}

-- a test that is true, or false, and what it tells
pub iff_true : {P : Type 0} → P → IsTrue true ↔ P
iff_true p = (λ t. p, λ q. refl)

pub iff_false : {P : Type 0} → ¬ P → IsTrue false ↔ P
iff_false fails = (λ t. absurd (true≢false (sym t)), λ p. absurd (fails p))

-- and what a test that tells it says of it
pub by_true : {P : Type 0} (t : Bool) → (IsTrue t ↔ P) → t ≡ true → P
by_true t told is = told.0 is

pub by_false : {P : Type 0} (t : Bool) → (IsTrue t ↔ P) → t ≡ false → ¬ P
by_false t told is p = true≢false (sym (told.1 p) ∙ is)

-- what is not less is greater or equal
pub ge-not_lt : (o : Ordering) → is_ge o ≡ not (is_lt o)
ge-not_lt Less = refl
ge-not_lt Equal = refl
ge-not_lt Greater = refl
