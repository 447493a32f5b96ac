-- The first of a list that something is given for.
use mathlib.Core.List.{[], ◌∷◌}
use Rattle.std.proofs.Common.{◌≡◌, refl, sym, ◌∙◌, ap, ℕ, zero, suc, ◌+◌, ◌<◌, ◌≤◌, true, false, List, length, map, take, drop, get_or, Option, Some, None, add-one, arith}
use Rattle.std.specs.Prelude.{is_some}
use Rattle.std.specs.Option.{option_or}
use Rattle.std.proofs.lemmas.List.{take_all}
use Rattle.cov_rules.specs.FirstGiven.{first_given}

-- of two that are none together each is none
pub none_of : {Y : Type 0} (a b : Option Y) → option_or a b ≡ None → (a ≡ None) × (b ≡ None)
none_of None b e = (refl, e)
none_of (Some y) b e = cc

pub option_some : {Y : Type 0} (a b : Option Y) → is_some a ≡ true → option_or a b ≡ a
option_some None b some = cc
option_some (Some y) b some = refl

option_none : {Y : Type 0} (a : Option Y) → is_some a ≡ false → a ≡ None
option_none None missing = refl
option_none (Some y) missing = cc

module _ {X Y : Type 0} (give : X → Option Y) where
  -- nothing was given for those before
  pub given_at : (k : ℕ) (xs : List X) (d : X) → k < length xs → first_given give (take k xs) ≡ None → first_given give xs ≡ option_or (give (get_or xs k d)) (first_given give (drop (suc k) xs))
  given_at k [] d less none = absurd (omega arith)
  given_at zero (x ∷ xs) d less none = refl
  given_at (suc k) (x ∷ xs) d less none =
      let parts = none_of (give x) (first_given give (take k xs)) none in
      ap (λ found. option_or found (first_given give xs)) parts.0 ∙ given_at k xs d (omega arith) parts.1

  none_suc : (k : ℕ) (xs : List X) (d : X) → k < length xs → first_given give (take k xs) ≡ None → give (get_or xs k d) ≡ None → first_given give (take (suc k) xs) ≡ None
  none_suc k [] d less none here = absurd (omega arith)
  none_suc zero (x ∷ xs) d less none here = ap (λ found. option_or found None) here
  none_suc (suc k) (x ∷ xs) d less none here =
      let parts = none_of (give x) (first_given give (take k xs)) none in
      ap (λ found. option_or found (first_given give (take (suc k) xs))) parts.0 ∙ none_suc k xs d (omega arith) parts.1 here

  -- nor is it for one more
  pub given_none : (k : ℕ) (xs : List X) (d : X) → k < length xs → first_given give (take k xs) ≡ None → is_some (give (get_or xs k d)) ≡ false → first_given give (take (k + 1) xs) ≡ None
  given_none k xs d less none missing = ap (λ n. first_given give (take n xs)) (add-one k) ∙ none_suc k xs d less none (option_none (give (get_or xs k d)) missing)

  -- nor for any
  pub given_nowhere : (k : ℕ) (xs : List X) → length xs ≤ k → first_given give (take k xs) ≡ None → first_given give xs ≡ None
  given_nowhere k xs all none = ap (first_given give) (sym (take_all k xs all)) ∙ none

-- of the mapped elements
pub given_mapped : {W X Y : Type 0} (give : X → Option Y) (f : W → X) (ws : List W) → first_given give (map f ws) ≡ first_given (λ w. give (f w)) ws
given_mapped give f [] = refl
given_mapped give f (w ∷ ws) = ap (option_or (give (f w))) (given_mapped give f ws)
