-- The owners of regions by their places, one region more at a time.
use mathlib.Core.List.{[], ◌∷◌}
use Rattle.std.proofs.Common.{◌≡◌, ◌⊎◌, refl, sym, ◌∙◌, ap, subst, ℕ, zero, suc, ◌<◌, List, ◌++◌, get_or, set, take, length, replicate, Option, Some, None, inl, inr, All, arith}
use Rattle.std.specs.Prelude.{AllPairs, IfSome, slice_get}
use Rattle.std.proofs.lemmas.Bool.{cases_eq}
use Rattle.std.proofs.lemmas.List.{get_or-set_same, get_or-set_other, get_or-take, length-set, length-take-le}
use Rattle.std.proofs.lemmas.Option.{none-some, same_Some, slice_get_within, get_or_from_slice_get}
use Rattle.cov_types.specs.declared.seg.Seg.{Seg}
use Rattle.plane.specs.Region.{IsOuterRegion}
use Rattle.cov_build.specs.Owners.{owner_in}
use Rattle.cov_build.proofs.OwnerLinks.{owner_is}
use Rattle.fault_map.specs.Polygon.{AreOwnersByPlace, IsInner}

-- ---- a list with one element more

push_cases : {X : Type 0} (xs : List X) (x : X) (k : ℕ) (y : X) → slice_get (xs ++ x ∷ []) k ≡ Some y → (slice_get xs k ≡ Some y) ⊎ ((k ≡ length xs) × (x ≡ y))
push_cases [] x zero y at = inr (refl, same_Some x y at)
push_cases [] x (suc k) y at = absurd (none-some y at)
push_cases (z ∷ xs) x zero y at = inl at
push_cases (z ∷ xs) x (suc k) y at = elim (push_cases xs x k y at) [
  | inl old ↦ inl old
  | inr new ↦ inr (ap suc new.0, new.1)
]

push_old : {X : Type 0} (xs : List X) (x : X) (k : ℕ) (y : X) → slice_get xs k ≡ Some y → slice_get (xs ++ x ∷ []) k ≡ Some y
push_old [] x k y at = absurd (none-some y at)
push_old (z ∷ xs) x zero y at = at
push_old (z ∷ xs) x (suc k) y at = push_old xs x k y at

push_new : {X : Type 0} (xs : List X) (x : X) → slice_get (xs ++ x ∷ []) (length xs) ≡ Some x
push_new [] x = refl
push_new (z ∷ xs) x = push_new xs x

-- ---- owners

owner_none : (count r : ℕ) → owner_in (replicate count None) r ≡ None
owner_none zero r = refl
owner_none (suc count) zero = refl
owner_none (suc count) (suc r) = owner_none count r

pub by_place_none : (count : ℕ) → AreOwnersByPlace [] (owner_in (replicate count None))
by_place_none count = record {
  listed = λ place r at. absurd (none-some r at);
  owned = λ place r is. absurd (none-some place (sym (owner_none count r) ∙ is));
}

module _ (regions : List ℕ) (r : ℕ) (owners : List (Option ℕ)) (within : r < length owners) where
  abbrev after : List (Option ℕ)
  after = set owners r (Some (length regions))

  here : owner_in after r ≡ Some (length regions)
  here = owner_is after r ∙ get_or-set_same owners r (Some (length regions)) None within

  elsewhere : (s : ℕ) → ¬ (s ≡ r) → owner_in after s ≡ owner_in owners s
  elsewhere s apart = owner_is after s ∙ get_or-set_other owners r s (Some (length regions)) None apart ∙ sym (owner_is owners s)

  -- a region more, which is none of them
  pub by_place_more : ((k s : ℕ) → slice_get regions k ≡ Some s → ¬ (s ≡ r)) → AreOwnersByPlace regions (owner_in owners) → AreOwnersByPlace (regions ++ r ∷ []) (owner_in after)
  by_place_more apart are = record {
    listed = λ place s at. elim (push_cases regions r place s at) [
      | inl old ↦ elsewhere s (apart place s old) ∙ are.listed place s old
      | inr new ↦ subst (λ (n : ℕ). owner_in after n ≡ Some place) new.1 (here ∙ ap Some (sym new.0))
    ];
    owned = λ place s is. elim (cases_eq s r) [
      | inl same ↦ (
          let last : length regions ≡ place = same_Some (length regions) place (sym here ∙ ap (owner_in after) (sym same) ∙ is) in
          subst (λ n. slice_get (regions ++ r ∷ []) n ≡ Some s) last (push_new regions r ∙ ap Some (sym same)))
      | inr other ↦ push_old regions r place s (are.owned place s (sym (elsewhere s other) ∙ is))
    ];
  }

-- the regions before a place are none of that at it
pub earlier_apart : (regions : List ℕ) (n : ℕ) → AllPairs (λ j k. j < k) regions → n < length regions → (k s : ℕ) → slice_get (take n regions) k ≡ Some s → ¬ (s ≡ get_or regions n 0)
earlier_apart regions n up within k s at same =
    let long : length (take n regions) ≡ n = length-take-le n regions (omega (arith, within)) in
    let inside : k < n = (let low = slice_get_within (take n regions) k s at in omega (arith, low, long)) in
    let is : get_or (take n regions) k 0 ≡ s = get_or_from_slice_get (take n regions) k s 0 at in
    let before = up k n 0 inside within in
    let read = get_or-take n regions k 0 inside in
    omega (arith, before, is, read, same)

pub below_more : (n place r : ℕ) (owners : List (Option ℕ)) → place < n → All (λ o. IfSome o (λ i. i < n)) owners → All (λ o. IfSome o (λ i. i < n)) (set owners r (Some place))
below_more n place r owners less below k d within = elim (cases_eq k r) [
  | inl same ↦ subst (λ (o : Option ℕ). IfSome o (λ i. i < n)) (sym (ap (λ j. get_or (set owners r (Some place)) j d) same ∙ get_or-set_same owners r (Some place) d (omega (arith, within, same, length-set owners r (Some place))))) less
  | inr other ↦ subst (λ (o : Option ℕ). IfSome o (λ i. i < n)) (sym (get_or-set_other owners r k (Some place) d other)) (below k d (omega (arith, within, length-set owners r (Some place))))
]

-- nobody owns the outer region
pub outer_free : (edges : List Seg) (regions : List ℕ) (owners : ℕ → Option ℕ) → ((k r : ℕ) → slice_get regions k ≡ Some r → IsInner edges r) → AreOwnersByPlace regions owners → (n : ℕ) → IsOuterRegion edges n → owners n ≡ None
outer_free edges regions owners inner are n outer = by (owners n) refl
  where
    by : (o : Option ℕ) → owners n ≡ o → owners n ≡ None
    by None is = is
    by (Some place) is = absurd ((inner place n (are.owned place n is)).not_outer outer)
