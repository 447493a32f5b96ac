-- Elements of a list that was written, and of lists by key.
use mathlib.Core.List.{[], ◌∷◌}
use Rattle.std.proofs.Common.{◌≡◌, refl, sym, ◌∙◌, ap, subst, ℕ, zero, suc, ◌≤◌, ◌<◌, ◌==◌, ◌↔◌, ◌⊎◌, Bool, true, false, cond, List, ◌++◌, map, set, filter, length, get_or, take, Contains, Some, slice_get, inl, inr, arith}
use Rattle.std.specs.Prelude.{All}
use Rattle.std.proofs.Math.Seq.{take-suc}
use Rattle.std.proofs.lemmas.Bool.{cases_eq, eqb-true, eq-eqb}
use Rattle.std.proofs.lemmas.List.{length-set, length-map, get_or-map, get_or-set_same, get_or-set_other, map-append, take_all}
use Rattle.std.proofs.lemmas.List.Elements.{filter-append, Contains-get_or}
use Rattle.std.proofs.lemmas.Option.{slice_get-get_or, get_or_from_slice_get, slice_get_within, same_Some}
use Rattle.arrangement.specs.declared.odd_use.OddUse.{OddUse}
use Rattle.owner_label.specs.Members.{members_of, members_at, member_of, pair_edges}
use Rattle.plane.specs.Label.{numbers_below}
use Rattle.counting_sort.specs.Grouped.{places_of, IsGrouped}
use Rattle.owner_label.specs.Sided.{Sided, region_on}
use Rattle.owner_label.proofs.Ascending.{chosen_contains}

-- ---- elements of a list that was written or grew

-- the element is the written one at its place, and an old one elsewhere
pub get-set : {X : Type 0} (xs : List X) (i : ℕ) (y : X) (k : ℕ) (v : X) → slice_get (set xs i y) k ≡ Some v → ((k ≡ i) × (v ≡ y)) ⊎ ((k ≡ i → ⊥) × (slice_get xs k ≡ Some v))
get-set xs i y k v at =
    let within : k < length xs = (let h = slice_get_within (set xs i y) k v at in omega (arith, length-set xs i y)) in
    let is = get_or_from_slice_get (set xs i y) k v v at in
    elim (cases_eq k i) [
      | inl same ↦ inl (same, sym is ∙ ap (λ j. get_or (set xs i y) j v) same ∙ get_or-set_same xs i y v (omega arith))
      | inr other ↦ inr (other, slice_get-get_or xs k v within ∙ ap (λ w. Some w) (sym (get_or-set_other xs i k y v other) ∙ is))
    ]

-- ---- one more odd pair

members_of-push : (odd : List OddUse) (o : OddUse) (k : ℕ) → members_of (odd ++ o ∷ []) k ≡ members_of odd k ++ members_of (o ∷ []) k
members_of-push odd o k =
    ap (λ (xs : List OddUse). map (λ (p : OddUse). p.member) xs) (filter-append (λ (p : OddUse). p.edge == k) odd (o ∷ []))
    ∙ map-append (λ (p : OddUse). p.member) (filter (λ (p : OddUse). p.edge == k) odd) (filter (λ (p : OddUse). p.edge == k) (o ∷ []))

last_member : (o : OddUse) (k : ℕ) (b : Bool) → (o.edge == k) ≡ b → members_of (o ∷ []) k ≡ cond b (o.member ∷ []) []
last_member o k true h = ap (λ t. map (λ (p : OddUse). p.member) (cond t (o ∷ []) [])) h
last_member o k false h = ap (λ t. map (λ (p : OddUse). p.member) (cond t (o ∷ []) [])) h

-- the members of the odd pairs of an edge
pub members_grouped : (odd : List OddUse) (k : ℕ) → members_at odd (places_of (pair_edges odd) k) ≡ members_of odd k
members_grouped odd k =
    ap (λ n. members_at odd (filter its (numbers_below n))) (length-map odd (λ (o : OddUse). o.edge)) ∙ so_far (length odd) (omega arith)
    ∙ ap (λ (os : List OddUse). members_of os k) (take_all (length odd) odd (omega arith))
  where
    its : ℕ → Bool
    its i = get_or (pair_edges odd) i 0 == k

    none : OddUse
    none = record { member = 0; edge = 0 }

    last : (n : ℕ) → n < length odd → (b : Bool) → its n ≡ b → (get_or odd n none).edge ≡ get_or (pair_edges odd) n 0 → members_at odd (filter its (n ∷ [])) ≡ members_of (get_or odd n none ∷ []) k
    last n inside true h same =
        ap (λ b. members_at odd (cond b (n ∷ []) [])) h ∙ ap (λ o. member_of o ∷ []) (slice_get-get_or odd n none inside)
        ∙ sym (last_member (get_or odd n none) k true (ap (λ e. e == k) same ∙ h))
    last n inside false h same =
        ap (λ b. members_at odd (cond b (n ∷ []) [])) h ∙ sym (last_member (get_or odd n none) k false (ap (λ e. e == k) same ∙ h))

    so_far : (n : ℕ) → n ≤ length odd → members_at odd (filter its (numbers_below n)) ≡ members_of (take n odd) k
    so_far zero h = refl
    so_far (suc n) h =
        let inside : n < length odd = omega arith in
        ap (members_at odd) (filter-append its (numbers_below n) (n ∷ [])) ∙ map-append (λ i. member_of (slice_get odd i)) (filter its (numbers_below n)) (filter its (n ∷ []))
        ∙ (λ i. so_far n (omega arith) i ++ last n inside (its n) refl (sym (get_or-map (λ (o : OddUse). o.edge) odd n none 0 inside)) i)
        ∙ sym (members_of-push (take n odd) (get_or odd n none) k) ∙ ap (λ (os : List OddUse). members_of os k) (sym (take-suc odd n none inside))

-- ---- the places of a key

pub group_is : (keys : List ℕ) (count : ℕ) (groups : List (List ℕ)) → IsGrouped keys count groups → (k : ℕ) (group : List ℕ) → slice_get groups k ≡ Some group → group ≡ places_of keys k
group_is keys count groups are k group at =
    same_Some group (places_of keys k) (sym at ∙ are.each k (omega (arith, slice_get_within groups k group at, are.long)))

pub group_contains : (keys : List ℕ) (k n : ℕ) → Contains (places_of keys k) n ↔ ((n < length keys) × (get_or keys n 0 ≡ k))
group_contains keys k n =
    let chosen = chosen_contains (λ i. get_or keys i 0 == k) (length keys) n in (
      (λ c. (let h = chosen.0 c in (h.0, eqb-true (get_or keys n 0) k h.1))),
      (λ h. chosen.1 (h.0, eq-eqb (get_or keys n 0) k h.1)),
    )

pub group_within : (keys : List ℕ) (k : ℕ) → All (λ n. n < length keys) (places_of keys k)
group_within keys k i d inside = ((group_contains keys k (get_or (places_of keys k) i d)).0 (Contains-get_or (places_of keys k) i d inside)).0

-- the sides of a region
pub region_sides : (s : Sided) (lists : List (List ℕ)) → IsGrouped s.regions (length s.regions) lists → (r : ℕ) (sides : List ℕ) → slice_get lists r ≡ Some sides
    → (n : ℕ) → Contains sides n ↔ ((n < length s.regions) × (region_on s n ≡ r))
region_sides s lists are r sides at n =
    subst (λ xs. Contains xs n ↔ ((n < length s.regions) × (region_on s n ≡ r))) (sym (group_is s.regions (length s.regions) lists are r sides at)) (group_contains s.regions r n)
