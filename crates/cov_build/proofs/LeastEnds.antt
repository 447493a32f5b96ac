-- The least of the first points of a list.
use mathlib.Core.List.{List}
use Rattle.std.proofs.Common.{◌≡◌, sym, ◌∙◌, ap, ℕ, ◌+◌, ◌<◌, ◌≤◌, true, false, true≢false, length, get_or, Contains, inl, inr, arith}
use Rattle.std.specs.Ordering.{partial_lt}
use Rattle.std.proofs.lemmas.Bool.{cases_eq}
use Rattle.std.proofs.lemmas.Int.{ints}
use Rattle.std.proofs.lemmas.List.{get_or_default}
use Rattle.cov_types.specs.contracts.coord.CoordPartialOrd.TheImpl.{partial_cmp-value}
use Rattle.cov_types.specs.declared.coord.Coord.{Coord}
use Rattle.cov_types.specs.Coord.{is_before}
use Rattle.cov_types.proofs.Order.{is_before-irrefl, is_before-trans}
use Rattle.sector_laws.proofs.Angles.{true_or_false}

pub before_is : (a b : Coord) → partial_lt partial_cmp-value.it a b ≡ is_before a b
before_is a b = grind (arith, ints)

module _ (point : ℕ → Coord) (i least : ℕ) where
  pub least_stays : is_before (point i) (point least) ≡ false → ((k : ℕ) → k < i → is_before (point k) (point least) ≡ false) → (k : ℕ) → k < i + 1 → is_before (point k) (point least) ≡ false
  least_stays not_less so_far k below = elim (cases_eq k i) [
    | inl here ↦ ap (λ n. is_before (point n) (point least)) here ∙ not_less
    | inr apart ↦ so_far k (omega (arith, below, apart))
  ]

  pub least_moves : is_before (point i) (point least) ≡ true → ((k : ℕ) → k < i → is_before (point k) (point least) ≡ false) → (k : ℕ) → k < i + 1 → is_before (point k) (point i) ≡ false
  least_moves less so_far k below = elim (cases_eq k i) [
    | inl here ↦ ap (λ n. is_before (point n) (point i)) here ∙ is_before-irrefl (point i)
    | inr apart ↦ elim (true_or_false (is_before (point k) (point i))) [
      | inl before ↦ absurd (true≢false (sym (is_before-trans (point k) (point i) (point least) before less) ∙ so_far k (omega (arith, below, apart))))
      | inr not_before ↦ not_before
    ]
  ]

pub least_all : (point : ℕ → Coord) (way : List ℕ) (i least : ℕ) → length way ≤ i → ((k : ℕ) → k < i → is_before (point (get_or way k 0)) (point (get_or way least 0)) ≡ false)
    → (n : ℕ) → Contains way n → is_before (point n) (point (get_or way least 0)) ≡ false
least_all point way i least all so_far n c =
    ap (λ m. is_before (point m) (point (get_or way least 0))) (sym c.2 ∙ get_or_default way c.0 n 0 c.1) ∙ so_far c.0 (omega (arith, all, c.1))
