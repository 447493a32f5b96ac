-- What the four rules pick: the first place whose element no element beats, which is the first best one.
use mathlib.Core.List.{[], ◌∷◌}
use Rattle.std.proofs.Common.{◌≡◌, sym, subst, ℕ, ◌<◌, Bool, true, false, not, nat_lt, int_lt, List, length, get_or, ℤ, arith}
use Rattle.std.specs.Cmp.{IsStrictWeakOrder}
use Rattle.std.specs.List.{IsFirstBest, list_any}
use Rattle.std.proofs.lemmas.Bool.{not_from_true, not_from_false}
use Rattle.std.proofs.lemmas.List.{get_or_default}
use Rattle.std.proofs.lemmas.List.Folds.{list_any_none, list_any_at}
use Rattle.std.proofs.lemmas.List.MinMax.{IsStrictWeakOrder-by_number, IsStrictWeakOrder-flip, IsFirstBest-from_best_of}
use Rattle.std.proofs.lemmas.List.Sums.{position_or_len_is}
use Rattle.integer_laws.proofs.Compare.{int_tests}
use Rattle.region_owners.specs.declared.candidate.Candidate.{Candidate}
use Rattle.region_owners.specs.Owner.{first_best}
use Rattle.region_owners.specs.Laws.{ArePicks}

module _ {X : Type 0} (beats : X → X → Bool) (order : IsStrictWeakOrder beats) where
  -- the first best one is the first that none beats
  best_is : (xs : List X) (b : ℕ) (d : X) → IsFirstBest beats xs (length xs) b → first_best beats xs ≡ b
  best_is xs b d best =
      let within : b < length xs = best.0 in
      position_or_len_is (λ x. not (list_any (λ y. beats y x) xs)) xs b d (omega arith)
      (λ k below. not_from_true (list_any (λ y. beats y (get_or xs k d)) xs) (list_any_at (λ y. beats y (get_or xs k d)) xs b d within (best.2 k d below)))
      (λ h. not_from_false (list_any (λ y. beats y (get_or xs b d)) xs) (list_any_none (λ y. beats y (get_or xs b d)) xs (λ k e inside. beaten k e inside)))
    where
      beaten : (k : ℕ) (e : X) → k < length xs → beats (get_or xs k e) (get_or xs b d) ≡ false
      beaten k e inside = rw (get_or_default xs k e d inside) (best.1 k d inside)

  pub first_best_is : (xs : List X) → 0 < length xs → IsFirstBest beats xs (length xs) (first_best beats xs)
  first_best_is [] some = absurd (omega arith)
  first_best_is (a ∷ xs) some =
      let found = IsFirstBest-from_best_of order a xs in
      subst (λ b. IsFirstBest beats (a ∷ xs) (length (a ∷ xs)) b) (sym (best_is (a ∷ xs) found.0 a found.1)) found.1

-- ---- numbers rank

-- whole numbers rank by a key, the lesser first
pub ints_rank : {X : Type 0} (key : X → ℤ) → IsStrictWeakOrder (λ x y. int_lt (key x) (key y))
ints_rank key = record { one_way = λ x y h. one_way (key x) (key y) h; chain = λ x y z h k. chain (key x) (key y) (key z) h k }
  where
    one_way : (a b : ℤ) → int_lt a b ≡ true → int_lt b a ≡ false
    one_way a b h = grind (arith, int_tests)

    chain : (a b c : ℤ) → int_lt a b ≡ false → int_lt b c ≡ false → int_lt a c ≡ false
    chain a b c h k = grind (arith, int_tests)

-- ---- the four rules

pub picks : (candidates : List Candidate) → 0 < length candidates → ArePicks candidates
picks candidates some = record {
  index = some;
  greatest = first_best_is (λ c d. int_lt d.area2 c.area2) (IsStrictWeakOrder-flip (λ c d. int_lt c.area2 d.area2) (ints_rank (λ (c : Candidate). c.area2))) candidates some;
  least = first_best_is (λ c d. int_lt c.area2 d.area2) (ints_rank (λ (c : Candidate). c.area2)) candidates some;
  longest = first_best_is (λ c d. nat_lt d.border c.border) (IsStrictWeakOrder-flip (λ c d. nat_lt c.border d.border) (IsStrictWeakOrder-by_number (λ (c : Candidate). c.border))) candidates some;
}
