-- A list with one more element, and the places that are marked.
use mathlib.Core.List.{[], ◌∷◌, ◌++◌}
use Rattle.std.proofs.Common.{◌≡◌, ◌⊎◌, refl, sym, ◌∙◌, ap, subst, ℕ, zero, suc, ◌<◌, Bool, true, List, length, set, Some, inl, inr, arith}
use Rattle.std.specs.Prelude.{Contains, slice_get}
use Rattle.std.proofs.lemmas.Bool.{cases_order}
use Rattle.std.proofs.lemmas.List.{get_or-set_same, get_or-set_other}
use Rattle.std.proofs.lemmas.List.Elements.{Contains-push, Contains-push_cases, Contains-append_left}
use Rattle.std.proofs.lemmas.Option.{none-some, slice_get_within, slice_get-get_or, get_or_from_slice_get}
use Rattle.std.proofs.Math.ListN.{length-set}
use Rattle.line_walk.specs.Line.{IsMarkedBy}

pub push_before : {X : Type 0} (xs : List X) (y : X) (k : ℕ) (x : X) → slice_get xs k ≡ Some x → slice_get (xs ++ y ∷ []) k ≡ Some x
push_before [] y k x at = absurd (none-some x at)
push_before (z ∷ xs) y zero x at = at
push_before (z ∷ xs) y (suc k) x at = push_before xs y k x at

pub push_last : {X : Type 0} (xs : List X) (y : X) → slice_get (xs ++ y ∷ []) (length xs) ≡ Some y
push_last [] y = refl
push_last (z ∷ xs) y = push_last xs y

pub slice_get_among : {X : Type 0} (xs : List X) (k : ℕ) (x : X) → slice_get xs k ≡ Some x → Contains xs x
slice_get_among xs k x at = (k, slice_get_within xs k x at, get_or_from_slice_get xs k x x at)

-- ---- marks

pub marked_none : (before : List Bool) → IsMarkedBy [] before before
marked_none before = record { size = refl; exact = λ k. (λ at. inl at, λ either. elim either [ inl at ↦ at | inr new ↦ (let inside = new.1.1 in absurd (omega arith)) ]) }

module _ (places : List ℕ) (before after : List Bool) (k : ℕ) (within : k < length before) (h : IsMarkedBy places before after) where
  abbrev now : List Bool
  now = set after k true

  size_now : length now ≡ length before
  size_now = length-set after k true ∙ h.size

  here : slice_get now k ≡ Some true
  here = (let size = h.size in slice_get-get_or now k true (omega (arith, size_now)) ∙ ap Some (get_or-set_same after k true true (omega arith)))

  other : (j : ℕ) → (j ≡ k → ⊥) → slice_get now j ≡ Some true → slice_get after j ≡ Some true
  other j differs at =
      let inside = slice_get_within now j true at in
      slice_get-get_or after j true (omega (arith, length-set after k true)) ∙ ap Some (sym (get_or-set_other after k j true true differs) ∙ get_or_from_slice_get now j true true at)

  other_back : (j : ℕ) → (j ≡ k → ⊥) → slice_get after j ≡ Some true → slice_get now j ≡ Some true
  other_back j differs at =
      let inside = slice_get_within after j true at in
      slice_get-get_or now j true (omega (arith, length-set after k true)) ∙ ap Some (get_or-set_other after k j true true differs ∙ get_or_from_slice_get after j true true at)

  same_or_not : (j : ℕ) → (j ≡ k) ⊎ (j ≡ k → ⊥)
  same_or_not j = elim (cases_order j k) [
    | inl same ↦ inl same
    | inr apart ↦ inr (λ same. elim apart [ inl low ↦ omega (arith, same, low) | inr high ↦ omega (arith, same, high) ])
  ]

  IsMarked : ℕ → Type 0
  IsMarked j = (slice_get before j ≡ Some true) ⊎ ((j < length before) × Contains (places ++ k ∷ []) j)

  to : (j : ℕ) → (j ≡ k) ⊎ (j ≡ k → ⊥) → slice_get now j ≡ Some true → IsMarked j
  unfolding IsMarked
  to j (inl same) at = inr (omega arith, subst (Contains (places ++ k ∷ [])) (sym same) (Contains-push places k))
  to j (inr differs) at = elim ((h.exact j).0 (other j differs at)) [
    | inl old ↦ inl old
    | inr new ↦ inr (new.0, Contains-append_left places (k ∷ []) j new.1)
  ]

  back : (j : ℕ) → (j ≡ k) ⊎ (j ≡ k → ⊥) → IsMarked j → slice_get now j ≡ Some true
  unfolding IsMarked
  back j (inl same) marked = ap (slice_get now) same ∙ here
  back j (inr differs) (inl old) = other_back j differs ((h.exact j).1 (inl old))
  back j (inr differs) (inr new) = other_back j differs ((h.exact j).1 (inr (new.0, elim (Contains-push_cases places k j new.1) [ inl in_places ↦ in_places | inr same ↦ absurd (differs (sym same)) ])))

  pub marked_more : IsMarkedBy (places ++ k ∷ []) before now
  unfolding IsMarked
  marked_more = record { size = size_now; exact = λ j. (to j (same_or_not j), back j (same_or_not j)) }
