-- The points that are left in slots: by their places, and after one slot was emptied.
use mathlib.Core.List.{[], ◌∷◌}
use Rattle.std.proofs.Common.{◌≡◌, refl, sym, ◌∙◌, ap, subst, ℕ, zero, suc, ◌<◌, List, ◌++◌, length, map, All, Option, Some, None, inl, inr, Bool, true, false, not, cond, true≢false, length-set, arith}
use Rattle.std.specs.Prelude.{Contains, get_or, slice_get, slice_set, option_to_list}
use Rattle.std.specs.List.{list_any}
use Rattle.std.specs.Option.{option_eq}
use Rattle.std.proofs.lemmas.Option.{none-some, same_Some, slice_get-map, slice_get_within, slice_get-get_or, get_or_from_slice_get}
use Rattle.std.proofs.lemmas.List.Concat.{flat_map-cons}
use Rattle.std.proofs.lemmas.List.Elements.{filter-append, Contains-append_cases, Contains-append_left, Contains-append_right, All-contains}
use Rattle.cov_types.specs.declared.coord.Coord.{Coord}
use Rattle.cov_types.specs.Coord.{is_same_coord}
use Rattle.cov_types.specs.Range.{IsInRange}
use Rattle.cov_types.proofs.Equal.{Decides-same_coords}
use Rattle.box_tree.specs.Rect.{box_of_point}
use Rattle.box_tree.specs.declared.rect.Rect.{Rect}
use Rattle.greedy_run.specs.Run.{is_removed, current}
use Rattle.cov_cells.specs.Slots.{living, StandsIn, AreCells, IsRemoval}

-- ---- places

living-cons : (s : Option Coord) (slots : List (Option Coord)) → living (s ∷ slots) ≡ option_to_list s ++ living slots
living-cons s slots = flat_map-cons option_to_list s slots

only_one : (q p : Coord) → Contains (q ∷ []) p → q ≡ p
only_one q p (zero, inside, is) = is
only_one q p (suc k, inside, is) = absurd (omega arith)

pub living_has : (slots : List (Option Coord)) (k : ℕ) (p : Coord) → StandsIn slots k p → Contains (living slots) p
living_has [] k p at = absurd (none-some (Some p) at)
living_has (s ∷ slots) zero p at =
    let is : s ≡ Some p = same_Some s (Some p) at in
    let first : Contains (option_to_list s) p = subst (λ o. Contains (option_to_list o) p) (sym is) (0, omega arith, refl) in
    subst (λ ps. Contains ps p) (sym (living-cons s slots)) (Contains-append_left (option_to_list s) (living slots) p first)
living_has (s ∷ slots) (suc k) p at = subst (λ ps. Contains ps p) (sym (living-cons s slots)) (Contains-append_right (option_to_list s) (living slots) p (living_has slots k p at))

pub has_living : (slots : List (Option Coord)) (p : Coord) → Contains (living slots) p → (k : ℕ) × StandsIn slots k p
has_living [] p has = absurd (omega (arith, has.1))
has_living (s ∷ slots) p has =
    elim (Contains-append_cases (option_to_list s) (living slots) p (subst (λ ps. Contains ps p) (living-cons s slots) has)) [
      | inl here ↦ (0, ap Some (by s here))
      | inr later ↦ (let rest = has_living slots p later in (suc rest.0, rest.1))
    ]
  where
    by : (o : Option Coord) → Contains (option_to_list o) p → o ≡ Some p
    by None h = absurd (omega (arith, h.1))
    by (Some q) h = ap Some (only_one q p h)

-- ---- without a point

module _ (p : Coord) where
  abbrev keep : Coord → Bool
  keep q = not (is_removed (p ∷ []) q)

  own_gone : keep p ≡ false
  own_gone = by (is_same_coord p p) ((Decides-same_coords p p).1 refl)
    where
      by : (b : Bool) → b ≡ true → not (list_any (λ (c : Bool). c) (b ∷ [])) ≡ false
      by true e = refl
      by false e = absurd (true≢false (sym e))

  other_kept : (q : Coord) → (q ≡ p → ⊥) → keep q ≡ true
  other_kept q apart = by (is_same_coord q p) (λ e. apart ((Decides-same_coords q p).0 e))
    where
      by : (b : Bool) → (b ≡ true → ⊥) → not (list_any (λ (c : Bool). c) (b ∷ [])) ≡ true
      by true n = absurd (n refl)
      by false n = refl

  own_dropped : current (p ∷ []) (p ∷ []) ≡ []
  own_dropped = by (keep p) own_gone
    where
      by : (b : Bool) → b ≡ false → cond b (p ∷ []) [] ≡ []
      by true e = absurd (true≢false e)
      by false e = refl

  -- where p does not stand, nothing changes
  pub none_gone : (xs : List Coord) → ((q : Coord) → Contains xs q → q ≡ p → ⊥) → current (p ∷ []) xs ≡ xs
  none_gone [] apart = refl
  none_gone (x ∷ xs) apart =
      by (keep x) (other_kept x (apart x (0, omega arith, refl))) (none_gone xs (λ q has. apart q (suc has.0, omega (arith, has.1), has.2)))
    where
      by : (b : Bool) → b ≡ true → current (p ∷ []) xs ≡ xs → cond b (x ∷ current (p ∷ []) xs) (current (p ∷ []) xs) ≡ x ∷ xs
      by true e rest = ap (λ ys. x ∷ ys) rest
      by false e rest = absurd (true≢false (sym e))

  -- emptying a slot of p leaves the others
  pub emptied : (slots : List (Option Coord)) (k : ℕ) → StandsIn slots k p → current (p ∷ []) (living (slice_set slots k None)) ≡ current (p ∷ []) (living slots)
  emptied [] k at = absurd (none-some (Some p) at)
  emptied (s ∷ slots) zero at =
      let is : s ≡ Some p = same_Some s (Some p) at in
      ap (current (p ∷ [])) (living-cons None slots)
      ∙ sym (ap (current (p ∷ [])) (living-cons s slots) ∙ filter-append keep (option_to_list s) (living slots) ∙ ap (λ (o : Option Coord). current (p ∷ []) (option_to_list o) ++ current (p ∷ []) (living slots)) is ∙ ap (λ ps. ps ++ current (p ∷ []) (living slots)) own_dropped)
  emptied (s ∷ slots) (suc k) at =
      ap (current (p ∷ [])) (living-cons s (slice_set slots k None)) ∙ filter-append keep (option_to_list s) (living (slice_set slots k None))
      ∙ ap (λ ps. current (p ∷ []) (option_to_list s) ++ ps) (emptied slots k at)
      ∙ sym (ap (current (p ∷ [])) (living-cons s slots) ∙ filter-append keep (option_to_list s) (living slots))

-- a slot that passes the test has p
pub slot_has : (slots : List (Option Coord)) (k : ℕ) (s : Option Coord) (p : Coord) → k < length slots → s ≡ get_or slots k s → option_eq is_same_coord s (Some p) ≡ true → StandsIn slots k p
slot_has slots k s p within is h = slice_get-get_or slots k s within ∙ ap Some (sym is ∙ test s h)
  where
    test : (s : Option Coord) → option_eq is_same_coord s (Some p) ≡ true → s ≡ Some p
    test None e = absurd (true≢false (sym e))
    test (Some q) e = ap Some ((Decides-same_coords q p).0 e)

-- and one that fails it has not
pub slot_lacks : (slots : List (Option Coord)) (k : ℕ) (s : Option Coord) (p : Coord) → s ≡ get_or slots k s → option_eq is_same_coord s (Some p) ≡ false → ¬ StandsIn slots k p
slot_lacks slots k s p is h at = test s h (is ∙ get_or_from_slice_get slots k (Some p) s at)
  where
    test : (s : Option Coord) → option_eq is_same_coord s (Some p) ≡ false → s ≡ Some p → ⊥
    test None e same = none-some p same
    test (Some q) e same = true≢false (sym ((Decides-same_coords q p).1 (same_Some q p same)) ∙ e)

-- where p stands in no slot, it is gone
pub no_slot : (slots : List (Option Coord)) (p : Coord) → ((k : ℕ) → ¬ StandsIn slots k p) → current (p ∷ []) (living slots) ≡ living slots
no_slot slots p lacks = none_gone p (living slots) (λ q has same. (let place = has_living slots q has in lacks place.0 (subst (StandsIn slots place.0) same place.1)))

-- what stands in a slot stood there before one was emptied
pub stood : (slots : List (Option Coord)) (k j : ℕ) (q : Coord) → StandsIn (slice_set slots k None) j q → StandsIn slots j q
stood [] k j q at = at
stood (s ∷ slots) zero zero q at = absurd (none-some q (same_Some None (Some q) at))
stood (s ∷ slots) zero (suc j) q at = at
stood (s ∷ slots) (suc k) zero q at = at
stood (s ∷ slots) (suc k) (suc j) q at = stood slots k j q at

pub slots_kept : (slots : List (Option Coord)) (k : ℕ) (boxes : List Rect) → length (slice_set slots k None) ≡ length slots → AreCells slots boxes → AreCells (slice_set slots k None) boxes
slots_kept slots k boxes same h = record {
  count = h.count ∙ sym same;
  in_range = λ j q at. h.in_range j q (stood slots k j q at);
  at = λ j q at. h.at j q (stood slots k j q at);
}

-- a removal goes on with the slot emptied
pub goes_on : (first slots : List (Option Coord)) (p : Coord) (k : ℕ) (boxes : List Rect) → StandsIn slots k p → IsRemoval first p slots boxes → IsRemoval first p (slice_set slots k None) boxes
goes_on first slots p k boxes stands h = record {
  cells = slots_kept slots k boxes (length-set slots k None) h.cells;
  same = emptied p slots k stands ∙ h.same;
}

-- ---- from points

pub all_living : (points : List Coord) → living (map Some points) ≡ points
all_living [] = refl
all_living (p ∷ points) = living-cons (Some p) (map Some points) ∙ ap (λ ps. p ∷ ps) (all_living points)

pub cells_of : (points : List Coord) → All IsInRange points → AreCells (map Some points) (map box_of_point points)
cells_of points in_range = record {
  count = lengths points;
  in_range = λ k p at. (let stands = back k p at in All-contains IsInRange points p in_range (k, slice_get_within points k p stands, same_Some _ p (sym (slice_get-get_or points k p (slice_get_within points k p stands)) ∙ stands)));
  at = λ k p at. slice_get-map box_of_point points k ∙ ap (λ o. mapped o) (back k p at);
}
  where
    lengths : (ps : List Coord) → length (map box_of_point ps) ≡ length (map Some ps)
    lengths [] = refl
    lengths (p ∷ ps) = let rest = lengths ps in omega (arith, rest)

    mapped : Option Coord → Option Rect
    mapped None = None
    mapped (Some p) = Some (box_of_point p)

    back : (k : ℕ) (p : Coord) → StandsIn (map Some points) k p → slice_get points k ≡ Some p
    back k p at = by points k at
      where
        by : (ps : List Coord) (k : ℕ) → StandsIn (map Some ps) k p → slice_get ps k ≡ Some p
        by [] k at = absurd (none-some (Some p) at)
        by (q ∷ ps) zero at = same_Some (Some q) (Some p) at
        by (q ∷ ps) (suc k) at = by ps k at
