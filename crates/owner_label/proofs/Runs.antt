-- The odd pairs of one member, which stand side by side.
use mathlib.Core.List.{[], ◌∷◌}
use Rattle.std.proofs.Common.{◌≡◌, refl, sym, ◌∙◌, ap, ℕ, zero, suc, ◌+◌, ◌<◌, ◌≤◌, ◌==◌, Bool, cond, List, filter, length, get_or, take, drop, IsTrue, inl, inr, arith}
use Rattle.std.specs.List.Sorted.{IsNonDecreasingBy}
use Rattle.std.proofs.lemmas.Bool.{cases_eq, eq-eqb, ne_eqb}
use Rattle.std.proofs.lemmas.Bool.Decides.{nat_tests}
use Rattle.std.proofs.lemmas.List.{get_or-drop, length-drop}
use Rattle.arrangement.specs.declared.odd_use.OddUse.{OddUse}
use Rattle.arrangement.specs.Noding.{is_odd_before}
use Rattle.owner_label.proofs.Toggles.{AreOddAscending}

not_falling : (o p : OddUse) → IsTrue (is_odd_before o p) → o.member ≤ p.member
not_falling o p before = grind (arith, nat_tests)

pub members_rise : (odd : List OddUse) → AreOddAscending odd → IsNonDecreasingBy (λ (o : OddUse). o.member) odd
members_rise odd ascending i j d le within =
    elim (cases_eq i j) [
      | inl same ↦ (let one = ap (λ k. (get_or odd k d).member) same in omega arith)
      | inr other ↦ not_falling (get_or odd i d) (get_or odd j d) (ascending i j d (omega arith) within)
    ]

module _ (m : ℕ) where
  abbrev is_its : OddUse → Bool
  is_its o = o.member == m

  kept : (o : OddUse) (odd : List OddUse) → o.member ≡ m → filter is_its (o ∷ odd) ≡ o ∷ filter is_its odd
  kept o odd same = ap (λ b. cond b (o ∷ filter is_its odd) (filter is_its odd)) (eq-eqb o.member m same)

  left_out : (o : OddUse) (odd : List OddUse) → (o.member ≡ m → ⊥) → filter is_its (o ∷ odd) ≡ filter is_its odd
  left_out o odd other = ap (λ b. cond b (o ∷ filter is_its odd) (filter is_its odd)) (ne_eqb o.member m other)

  none_left : (odd : List OddUse) → ((k : ℕ) (d : OddUse) → k < length odd → m < (get_or odd k d).member) → filter is_its odd ≡ []
  none_left [] above = refl
  none_left (o ∷ odd) above =
      left_out o odd (λ e. (let first = above 0 o (omega arith) in omega arith)) ∙ none_left odd (λ k d within. above (suc k) d (omega arith))

  front_run : (count : ℕ) (odd : List OddUse) → ((k : ℕ) (d : OddUse) → k < length odd → m ≤ (get_or odd k d).member) → ((k : ℕ) (d : OddUse) → k < count → k < length odd → (get_or odd k d).member ≤ m)
      → ((k : ℕ) (d : OddUse) → count ≤ k → k < length odd → m < (get_or odd k d).member) → take count odd ≡ filter is_its odd
  front_run zero [] low high above = refl
  front_run zero (o ∷ odd) low high above = sym (none_left (o ∷ odd) (λ k d within. above k d (omega arith) within))
  front_run (suc count) [] low high above = refl
  front_run (suc count) (o ∷ odd) low high above =
      let same : o.member ≡ m = (let a = low 0 o (omega arith) in let b = high 0 o (omega arith) (omega arith) in omega arith) in
      ap (λ xs. o ∷ xs) (front_run count odd (λ k d within. low (suc k) d (omega arith)) (λ k d less within. high (suc k) d (omega arith) (omega arith)) (λ k d past within. above (suc k) d (omega arith) (omega arith)))
      ∙ sym (kept o odd same)

  without_front : (from : ℕ) (odd : List OddUse) → ((k : ℕ) (d : OddUse) → k < from → k < length odd → (get_or odd k d).member < m) → filter is_its (drop from odd) ≡ filter is_its odd
  without_front zero odd below = refl
  without_front (suc from) [] below = refl
  without_front (suc from) (o ∷ odd) below =
      without_front from odd (λ k d less within. below (suc k) d (omega arith) (omega arith))
      ∙ sym (left_out o odd (λ e. (let first = below 0 o (omega arith) (omega arith) in omega arith)))

  -- the run of the member begins where members are no longer below it, and ends where they are above it
  pub run_is : (odd rest : List OddUse) (from count : ℕ) → rest ≡ drop from odd → ((k : ℕ) (d : OddUse) → k < from → (get_or odd k d).member < m)
      → ((k : ℕ) (d : OddUse) → from ≤ k → k < length odd → m ≤ (get_or odd k d).member) → ((k : ℕ) (d : OddUse) → k < count → (get_or rest k d).member ≤ m)
      → ((k : ℕ) (d : OddUse) → count ≤ k → k < length rest → m < (get_or rest k d).member) → take count rest ≡ filter is_its odd
  run_is odd rest from count is before low high above =
      front_run count rest (λ k d within. at_least k d within) (λ k d less within. high k d less) above
      ∙ ap (λ xs. filter is_its xs) is ∙ without_front from odd (λ k d less within. before k d less)
    where
      at_least : (k : ℕ) (d : OddUse) → k < length rest → m ≤ (get_or rest k d).member
      at_least k d within =
          let long = ap length is ∙ length-drop from odd in
          let same = ap (λ xs. (get_or xs k d).member) is ∙ ap (λ (o : OddUse). o.member) (get_or-drop from odd k d) in
          let high_enough = low (from + k) d (omega arith) (omega arith) in
          omega arith
