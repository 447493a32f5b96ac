-- Lists that are sorted by a key beside each element, and then rid of the keys and of repeats.
use mathlib.Core.List.{[], ◌∷◌}
use Rattle.std.proofs.Common.{◌≡◌, refl, sym, ◌∙◌, ap, subst, ℕ, ◌+◌, ◌<◌, ◌≤◌, ◌↔◌, Bool, List, ◌++◌, get_or, length, map, take, Decides, IsPermutation}
use Rattle.std.specs.Prelude.{Contains}
use Rattle.std.specs.List.{dedup}
use Rattle.std.proofs.lemmas.List.{take_more, take_all, map-append, get_or_default}
use Rattle.std.proofs.lemmas.List.Kept.{Contains-dedup, Contains-from_dedup}
use Rattle.std.proofs.lemmas.List.Sorted.{Contains-permutation, IsPermutation-sym, IsPermutation-map}
use Rattle.hot_pixel.proofs.Ascending.{same_equivalence}

module _ {X : Type 0} where
  -- the elements beside the keys
  abbrev pub items : List (ℕ × X) → List X
  items keyed = map (λ p. p.1) keyed

  -- x is the element at i
  pub keyed_more : (xs : List X) (before after : List (ℕ × X)) (i : ℕ) (key : ℕ) (x : X) → i < length xs → x ≡ get_or xs i x → items before ≡ take i xs → after ≡ before ++ (key, x) ∷ [] → items after ≡ take (i + 1) xs
  keyed_more xs before after i key x within is so_far pushed =
      ap items pushed ∙ map-append (λ p. p.1) before ((key, x) ∷ []) ∙ (λ j. so_far j ++ is j ∷ []) ∙ sym (take_more xs i x within)

  -- the same as the loop reads it
  pub keyed_read : (xs : List X) (before after : List (ℕ × X)) (i : ℕ) (key : ℕ) (d : X) → i < length xs → items before ≡ take i xs → after ≡ before ++ (key, get_or xs i d) ∷ [] → items after ≡ take (i + 1) xs
  keyed_read xs before after i key d within so_far pushed = keyed_more xs before after i key (get_or xs i d) within (get_or_default xs i d (get_or xs i d) within) so_far pushed

  pub keyed_all : (xs : List X) (keyed : List (ℕ × X)) (i : ℕ) → length xs ≤ i → items keyed ≡ take i xs → items keyed ≡ xs
  keyed_all xs keyed i past so_far = so_far ∙ take_all i xs past

  -- what is left after the sort has the same elements
  module _ (same : X → X → Bool) (decides : (a b : X) → Decides (same a b) (a ≡ b)) where
    pub sorted_same : (xs : List X) (keyed sorted : List (ℕ × X)) (along kept : List X) → items keyed ≡ xs → IsPermutation keyed sorted → along ≡ items sorted → kept ≡ dedup same along → (x : X) → Contains kept x ↔ Contains xs x
    sorted_same xs keyed sorted along kept are moved mapped deduped x = (there, back)
      where
        permuted : IsPermutation xs along
        permuted = subst (λ ys. IsPermutation ys along) are (subst (λ ys. IsPermutation (items keyed) ys) (sym mapped) (IsPermutation-map (λ p. p.1) keyed sorted moved))

        there : Contains kept x → Contains xs x
        there has = Contains-permutation along xs x (IsPermutation-sym xs along permuted) (Contains-from_dedup same along x (subst (λ ys. Contains ys x) deduped has))

        back : Contains xs x → Contains kept x
        back has = subst (λ ys. Contains ys x) (sym deduped) (Contains-dedup (same_equivalence same decides) (λ a b. (decides a b).0) along x (Contains-permutation xs along x permuted has))
