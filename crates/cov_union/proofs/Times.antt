-- How often an element stands in a list.
use mathlib.Core.List.{[], ◌∷◌}
use Rattle.std.proofs.Common.{◌≡◌, ◌⊎◌, inl, inr, refl, sym, ◌∙◌, ap, subst, zero, suc, ◌+◌, ◌<◌, ◌%◌, Bool, true, false, cond, List, ◌++◌, Decides, arith}
use Rattle.std.specs.Prelude.{Contains, count_by}
use Rattle.std.proofs.lemmas.Bool.{false≢true}
use Rattle.crossing_laws.proofs.Lists.{contains_here, contains_there}
use Rattle.std.proofs.lemmas.List.Sums.{sum_by-append, sum_by-cons}

pub contains_cases : {X : Type 0} (y x : X) (xs : List X) → Contains (y ∷ xs) x → (y ≡ x) ⊎ Contains xs x
contains_cases y x xs (zero, within, is) = inl is
contains_cases y x xs (suc k, within, is) = inr (k, omega arith, is)

module _ {X : Type 0} (same : X → X → Bool) (decides : (a b : X) → Decides (same a b) (a ≡ b)) where
  pub same_or_not : (a b : X) → (a ≡ b) ⊎ ¬ (a ≡ b)
  same_or_not a b =
      elim (same a b) as (λ t. same a b ≡ t → (a ≡ b) ⊎ ¬ (a ≡ b)) [ true ↦ λ h. inl ((decides a b).0 h) | false ↦ λ h. inr (λ e. false≢true (sym h ∙ (decides a b).1 e)) ] refl

  not_same : (a b : X) → ¬ (a ≡ b) → same a b ≡ false
  not_same a b n = elim (same a b) as (λ t. same a b ≡ t → same a b ≡ false) [ true ↦ λ h. absurd (n ((decides a b).0 h)) | false ↦ λ h. h ] refl

  pub times_push : (e x : X) (xs : List X) → count_by (λ v. same v e) (xs ++ x ∷ []) ≡ count_by (λ v. same v e) xs + cond (same x e) 1 0
  times_push e x xs =
      sum_by-append (λ v. cond (same v e) 1 0) xs (x ∷ []) ∙ ap (λ n. count_by (λ v. same v e) xs + n) (sum_by-cons (λ v. cond (same v e) 1 0) x [] ∙ omega arith)

  pub times_push_same : (x : X) (xs : List X) → count_by (λ v. same v x) (xs ++ x ∷ []) ≡ count_by (λ v. same v x) xs + 1
  times_push_same x xs = times_push x x xs ∙ ap (λ t. count_by (λ v. same v x) xs + cond t 1 0) ((decides x x).1 refl)

  pub times_push_other : (e x : X) (xs : List X) → ¬ (x ≡ e) → count_by (λ v. same v e) (xs ++ x ∷ []) ≡ count_by (λ v. same v e) xs
  times_push_other e x xs n = times_push e x xs ∙ ap (λ t. count_by (λ v. same v e) xs + cond t 1 0) (not_same x e n) ∙ omega arith

  -- what stands there some times stands there
  pub times_has : (e : X) (xs : List X) → 0 < count_by (λ v. same v e) xs → Contains xs e
  times_has e [] some = absurd (omega arith)
  times_has e (x ∷ xs) some =
      elim (same_or_not x e) [
        | inl is ↦ subst (λ v. Contains (x ∷ xs) v) is (contains_here x xs)
        | inr other ↦ contains_there x e xs (times_has e xs (let first = sum_by-cons (λ v. cond (same v e) 1 0) x xs ∙ ap (λ t. cond t 1 0 + count_by (λ v. same v e) xs) (not_same x e other) in omega arith))
      ]

  pub odd_has : (e : X) (xs : List X) → count_by (λ v. same v e) xs % 2 ≡ 1 → Contains xs e
  odd_has e xs odd = times_has e xs (omega arith)
