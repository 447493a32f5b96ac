-- The numbers of rings along a curve: all of them, in some order.
use Rattle.std.proofs.Common.{◌≡◌, sym, ◌∙◌, ap, subst, ℕ, ◌+◌, ◌<◌, List, [], ◌∷◌, ◌++◌, map, Contains, IsPermutation, arith, inl, inr}
use Rattle.std.proofs.lemmas.Bool.{cases_lt}
use Rattle.std.proofs.lemmas.List.{map-append}
use Rattle.std.proofs.lemmas.List.Elements.{All-nil, All-push, Contains-push, Contains-append_left}
use Rattle.std.proofs.lemmas.List.Sorted.{All-permutation, Contains-permutation, IsPermutation-map}
use Rattle.cov_locate.specs.Rings.{AreNumbersBelow}

-- the numbers beside their keys
abbrev pub numbers_of : List (ℕ × ℕ) → List ℕ
numbers_of keyed = map (λ p. p.1) keyed

pub numbers_none : (keyed : List (ℕ × ℕ)) → keyed ≡ [] → AreNumbersBelow 0 (numbers_of keyed)
numbers_none keyed is = subst (λ (ks : List (ℕ × ℕ)). AreNumbersBelow 0 (numbers_of ks)) (sym is)
    (record { within = All-nil (λ (n : ℕ). n < 0); each = λ n lt. absurd (omega (arith, lt)) })

number_push : (count : ℕ) (numbers : List ℕ) → AreNumbersBelow count numbers → AreNumbersBelow (count + 1) (numbers ++ count ∷ [])
number_push count numbers so_far = record {
  within = All-push (λ (n : ℕ). n < count + 1) numbers count (λ i d lt. (let old = so_far.within i d lt in omega (arith, old))) (omega arith);
  each = λ n lt. elim (cases_lt n count) [
    | inl early ↦ Contains-append_left numbers (count ∷ []) n (so_far.each n early)
    | inr late ↦ (let last : count ≡ n = omega (arith, lt, late) in subst (λ m. Contains (numbers ++ count ∷ []) m) last (Contains-push numbers count))
  ];
}

pub number_more : (count key : ℕ) (keyed after : List (ℕ × ℕ)) → after ≡ keyed ++ (key, count) ∷ [] → AreNumbersBelow count (numbers_of keyed) → AreNumbersBelow (count + 1) (numbers_of after)
number_more count key keyed after is so_far = subst (AreNumbersBelow (count + 1))
    (sym (ap numbers_of is ∙ map-append (λ (p : ℕ × ℕ). p.1) keyed ((key, count) ∷ []))) (number_push count (numbers_of keyed) so_far)

pub numbers_sorted : (count n : ℕ) (made sorted : List (ℕ × ℕ)) (numbers : List ℕ) → n ≡ count → AreNumbersBelow n (numbers_of made) → IsPermutation made sorted → numbers ≡ numbers_of sorted → AreNumbersBelow count numbers
numbers_sorted count n made sorted numbers all so_far moved is =
    let permuted : IsPermutation (numbers_of made) numbers = subst (λ (xs : List ℕ). IsPermutation (numbers_of made) xs) (sym is) (IsPermutation-map (λ (p : ℕ × ℕ). p.1) made sorted moved) in
    let first : AreNumbersBelow count (numbers_of made) = subst (λ k. AreNumbersBelow k (numbers_of made)) all so_far in
    record {
      within = All-permutation (λ (m : ℕ). m < count) (numbers_of made) numbers permuted first.within;
      each = λ m lt. Contains-permutation (numbers_of made) numbers m permuted (first.each m lt);
    }
