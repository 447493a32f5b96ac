-- Edges that are sorted by a key beside each, and then rid of the keys.
use mathlib.Core.List.{[], ◌∷◌}
use Rattle.std.proofs.Common.{◌≡◌, sym, ◌∙◌, ap, subst, ℕ, ◌+◌, ◌<◌, ◌≤◌, ◌↔◌, List, ◌++◌, get_or, length, map, take, IsPermutation}
use Rattle.std.specs.Prelude.{Contains}
use Rattle.std.proofs.lemmas.List.{take_more, take_all, map-append}
use Rattle.std.proofs.lemmas.List.Sorted.{Contains-permutation, IsPermutation-sym, IsPermutation-map}
use Rattle.cov_types.specs.declared.seg.Seg.{Seg}

-- the edges beside the keys
abbrev pub keyless : List (ℕ × Seg) → List Seg
keyless keyed = map (λ p. p.1) keyed

-- e is the edge at i
pub keyed_more : (edges : List Seg) (before after : List (ℕ × Seg)) (i : ℕ) (key : ℕ) (e : Seg) → i < length edges → e ≡ get_or edges i e → keyless before ≡ take i edges → after ≡ before ++ (key, e) ∷ []
    → keyless after ≡ take (i + 1) edges
keyed_more edges before after i key e within is so_far pushed =
    ap keyless pushed ∙ map-append (λ p. p.1) before ((key, e) ∷ []) ∙ (λ j. so_far j ++ is j ∷ []) ∙ sym (take_more edges i e within)

-- what is left after the sort has the same edges
pub sorted_same : (edges : List Seg) (keyed sorted : List (ℕ × Seg)) (along : List Seg) (i : ℕ) → length edges ≤ i → keyless keyed ≡ take i edges → IsPermutation keyed sorted → along ≡ keyless sorted
    → (e : Seg) → Contains along e ↔ Contains edges e
sorted_same edges keyed sorted along i past so_far moved mapped e =
    (λ has. Contains-permutation along edges e (IsPermutation-sym edges along permuted) has, λ has. Contains-permutation edges along e permuted has)
  where
    permuted : IsPermutation edges along
    permuted = subst (λ ys. IsPermutation ys along) (so_far ∙ take_all i edges past) (subst (λ ys. IsPermutation (keyless keyed) ys) (sym mapped) (IsPermutation-map (λ p. p.1) keyed sorted moved))
