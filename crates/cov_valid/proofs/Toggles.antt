-- A member that an ascending list gets or loses at its end.
use Rattle.std.proofs.Common.{◌≡◌, refl, ℕ, ◌-◌, ◌<◌, ◌≤◌, List, [], ◌∷◌, ◌++◌, length, get_or, All, Contains, sym, ap, ◌∙◌, subst, arith, inl, inr, Option, Some}
use Rattle.std.specs.Prelude.{AllPairs, slice_get, option_to_list}
use Rattle.std.proofs.lemmas.Bool.{cases_lt}
use Rattle.std.proofs.lemmas.List.{get_or_append_left, get_or_push, length_push}
use Rattle.std.proofs.lemmas.List.Elements.{All-push, Contains-append_left, Contains-get_or, Contains-push, Contains-push_cases}
use Rattle.std.proofs.lemmas.List.Quantifiers.{all_pairs_push}
use Rattle.std.proofs.lemmas.Option.{slice_get-get_or, slice_get_within, get_or_from_slice_get}
use Rattle.cov_valid.specs.Holders.{IsMemberToggled}

abbrev AreAscending : List ℕ → Type 0
AreAscending ns = AllPairs (λ (i : ℕ) (j : ℕ). i < j) ns

-- ---- the member stands at the end

before_last : (front : List ℕ) (member k d : ℕ) → AreAscending (front ++ member ∷ []) → k < length front → get_or front k d < member
before_last front member k d up within =
    let long = length_push front member in
    let here = get_or_append_left front (member ∷ []) d k within in
    let last = get_or_push front member d (length front) refl in
    let less : get_or (front ++ member ∷ []) k d < get_or (front ++ member ∷ []) (length front) d = up k (length front) d within (omega (arith, long)) in
    omega (arith, less, here, last)

toggled_last : (front : List ℕ) (member : ℕ) → AreAscending (front ++ member ∷ []) → IsMemberToggled (front ++ member ∷ []) member front
toggled_last front member up = record {
  ascending = λ i j d h k.
      let long = length_push front member in
      let less : get_or (front ++ member ∷ []) i d < get_or (front ++ member ∷ []) j d = up i j d h (omega (arith, k, long)) in
      omega (arith, less, get_or_append_left front (member ∷ []) d i (omega (arith, h, k)), get_or_append_left front (member ∷ []) d j k);
  at_most = λ k d h. omega (arith, before_last front member k d up h);
  turned = (
    λ (k, within, at). absurd (omega (arith, before_last front member k member up within, at)),
    λ absent. absurd (absent (Contains-push front member)),
  );
  others = λ other apart. (
    λ h. Contains-append_left front (member ∷ []) other h,
    λ h. elim (Contains-push_cases front member other h) [ inl there ↦ there | inr same ↦ absurd (apart (sym same)) ],
  );
}

pub toggled_away : (old front : List ℕ) (member : ℕ) → old ≡ front ++ member ∷ [] → AreAscending old → IsMemberToggled old member front
toggled_away old front member e up =
    subst (λ (ns : List ℕ). IsMemberToggled ns member front) (sym e) (toggled_last front member (subst AreAscending e up))

-- by the clauses of `pop`
pub toggled_pop : (old front : List ℕ) (member n : ℕ) (r : Option ℕ) → old ≡ front ++ option_to_list r → n ≡ length old → (0 < n → r ≡ Some (get_or old (n - 1) 0)) → slice_get old (length old - 1) ≡ Some member → AreAscending old
    → IsMemberToggled old member front
toggled_pop old front member n r split long last at up =
    let within : length old - 1 < length old = slice_get_within old (length old - 1) member at in
    let same : get_or old (n - 1) 0 ≡ member = ap (λ (m : ℕ). get_or old (m - 1) 0) long ∙ get_or_from_slice_get old (length old - 1) member 0 at in
    let r_is : r ≡ Some member = last (omega arith) ∙ ap (λ (m : ℕ). Some m) same in
    toggled_away old front member (split ∙ ap (λ (o : Option ℕ). front ++ option_to_list o) r_is) up

-- ---- it does not

absent_from : (old : List ℕ) (member : ℕ) → ¬ (slice_get old (length old - 1) ≡ Some member) → AreAscending old → All (λ m. m ≤ member) old → ¬ Contains old member
absent_from old member not_last up at_most (k, within, at) =
    let last : ℕ = length old - 1 in
    let before_end : last < length old = omega arith in
    elim (cases_lt k last) [
      | inl earlier ↦
          let less : get_or old k member < get_or old last member = up k last member earlier before_end in
          let most : get_or old last member ≤ member = at_most last member before_end in
          omega (arith, less, most, at)
      | inr later ↦
          let here : k ≡ last = omega arith in
          not_last (ap (slice_get old) (sym here) ∙ (slice_get-get_or old k member within ∙ ap (λ (n : ℕ). Some n) at))
    ]

pub toggled_in : (old new : List ℕ) (member : ℕ) → new ≡ old ++ member ∷ [] → ¬ (slice_get old (length old - 1) ≡ Some member) → AreAscending old → All (λ m. m ≤ member) old → IsMemberToggled old member new
toggled_in old new member e not_last up at_most =
    let absent : ¬ Contains old member = absent_from old member not_last up at_most in
    subst (λ (ns : List ℕ). IsMemberToggled old member ns) (sym e)
    (record {
      ascending = all_pairs_push (λ (i : ℕ) (j : ℕ). i < j) old member up
          (λ k d h.
          let most : get_or old k d ≤ member = at_most k d h in
          elim (cases_lt (get_or old k d) member) [
            | inl less ↦ less
            | inr more ↦
                let same : get_or old k d ≡ member = omega arith in
                absurd (absent (subst (Contains old) same (Contains-get_or old k d h)))
          ]);
      at_most = All-push (λ (m : ℕ). m ≤ member) old member at_most (omega arith);
      turned = (λ h. absent, λ h. Contains-push old member);
      others = λ other apart. (
        λ h. elim (Contains-push_cases old member other h) [ inl there ↦ there | inr same ↦ absurd (apart (sym same)) ],
        λ h. Contains-append_left old (member ∷ []) other h,
      );
    })
