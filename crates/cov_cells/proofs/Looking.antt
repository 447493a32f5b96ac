-- A search among slots for the least wanted point: what its boxes rule out, and what one more slot adds.
use mathlib.Core.List.{[], ◌∷◌}
use Rattle.std.proofs.Common.{◌≡◌, refl, sym, ◌∙◌, subst, ℕ, List, Option, Some, None, slice_get, inl, inr, Bool, true, false, ◌||◌, true≢false}
use Rattle.std.specs.Prelude.{Contains}
use Rattle.std.proofs.lemmas.Bool.{or_cases, or_left, or_right}
use Rattle.std.proofs.lemmas.Option.{none-some, same_Some}
use Rattle.cov_types.specs.declared.coord.Coord.{Coord}
use Rattle.cov_types.specs.Coord.{is_before, is_same_coord}
use Rattle.cov_types.proofs.Equal.{Decides-same_coords}
use Rattle.cov_types.proofs.Order.{cases_coords, is_before-trans}
use Rattle.box_tree.specs.Rect.{IsInside, box_of_point, is_touching}
use Rattle.box_tree.specs.declared.rect.Rect.{Rect}
use Rattle.box_tree.proofs.Touching.{is_touching-is, touch_upward}
use Rattle.greedy_run.specs.Run.{Triangle, IsInTriangle}
use Rattle.cov_cells.specs.Way.{IsInWay, IsFirstInWay}
use Rattle.cov_cells.specs.Slots.{StandsIn, AreCells, IsWanted, IsRound, IsHeld, IsReached, IsSlotSettled, IsEarlier, IsFirstWanted, living}
use Rattle.cov_cells.specs.declared.wanted.Wanted.{Wanted}
use Rattle.cov_cells.specs.declared.wanted.Wanted.TheVariants.{At, InWay}
use Rattle.cov_cells.specs.declared.found.Found.{Found}
use Rattle.cov_cells.proofs.Triangles.{box_has}
use Rattle.cov_cells.proofs.Living.{living_has, has_living}

-- ---- boxes

-- the box has all that is wanted
round_has : (wanted : Wanted) (round : Rect) (p : Coord) → IsRound wanted round → IsWanted wanted p → IsInside (box_of_point p) round
round_has (At q) round p is h = subst (λ (c : Coord). IsInside (box_of_point c) round) (sym h) is
round_has (InWay a b c) round p is h = box_has (record { a = a; b = b; c = c }) p round is.0 is.1 is.2 h.inside

inside_touches : (round : Rect) (p : Coord) → IsInside (box_of_point p) round → is_touching round (box_of_point p) ≡ true
inside_touches round p h = (is_touching-is round (box_of_point p)).1 (record { left = h.left; right = h.right; below = h.bottom; above = h.top })

-- a hull that the box does not touch has nothing wanted
pub settled_outside : (slots : List (Option Coord)) (wanted : Wanted) (boxes : List Rect) (round hull : Rect) (first : Option Found) → AreCells slots boxes → IsRound wanted round → is_touching round hull ≡ false
    → (k : ℕ) (b : Rect) → slice_get boxes k ≡ Some b → IsInside b hull → IsSlotSettled slots wanted first k
settled_outside slots wanted boxes round hull first cells is apart k b at_k in_hull p stands h =
    let own : b ≡ box_of_point p = same_Some b (box_of_point p) (sym at_k ∙ cells.at k p stands) in
    let inside = subst (λ (x : Rect). IsInside x hull) own in_hull in
    absurd (true≢false (sym (touch_upward round (box_of_point p) hull inside (inside_touches round p (round_has wanted round p is h))) ∙ apart))

-- ---- the order of coordinates

not_before_trans : (p q r : Coord) → is_before p q ≡ false → is_before q r ≡ false → is_before p r ≡ false
not_before_trans p q r h k = by (is_before p r) refl
  where
    by : (b : Bool) → is_before p r ≡ b → is_before p r ≡ false
    by false e = e
    by true e = elim (cases_coords p q) [
      | inl before ↦ absurd (true≢false (sym before ∙ h))
      | inr rest ↦ elim rest [
        | inl same ↦ subst (λ (c : Coord). is_before c r ≡ false) (sym same) k
        | inr after ↦ absurd (true≢false (sym (is_before-trans q p r after e) ∙ k))
      ]
    ]

-- ---- corners

-- a corner is not in the way
pub corner_out : (t : Triangle) (p : Coord) → (is_same_coord p t.a || is_same_coord p t.b || is_same_coord p t.c) ≡ true → ¬ IsInWay t p
corner_out t p h way =
    elim (or_cases (is_same_coord p t.a || is_same_coord p t.b) (is_same_coord p t.c) h) [
      | inl k ↦ elim (or_cases (is_same_coord p t.a) (is_same_coord p t.b) k) [
        | inl e ↦ way.not_a ((Decides-same_coords p t.a).0 e)
        | inr e ↦ way.not_b ((Decides-same_coords p t.b).0 e)
      ]
      | inr e ↦ way.not_c ((Decides-same_coords p t.c).0 e)
    ]

-- and what is none of them is, where it is in the triangle
pub way_of : (t : Triangle) (p : Coord) → (is_same_coord p t.a || is_same_coord p t.b || is_same_coord p t.c) ≡ false → IsInTriangle t p → IsInWay t p
way_of t p h inside = record {
  inside = inside;
  not_a = λ e. true≢false (sym (or_left _ _ (or_left _ _ ((Decides-same_coords p t.a).1 e))) ∙ h);
  not_b = λ e. true≢false (sym (or_left _ _ (or_right (is_same_coord p t.a) _ ((Decides-same_coords p t.b).1 e))) ∙ h);
  not_c = λ e. true≢false (sym (or_right (is_same_coord p t.a || is_same_coord p t.b) _ ((Decides-same_coords p t.c).1 e)) ∙ h);
}

-- ---- one more slot

-- an empty slot has nothing wanted
pub empty_settled : (slots : List (Option Coord)) (wanted : Wanted) (first : Option Found) (k : ℕ) → slice_get slots k ≡ Some None → IsSlotSettled slots wanted first k
empty_settled slots wanted first k at p stands h = absurd (none-some p (same_Some None (Some p) (sym at ∙ stands)))

-- nor has a slot with a point that is not wanted
pub other_settled : (slots : List (Option Coord)) (wanted : Wanted) (first : Option Found) (k : ℕ) (q : Coord) → StandsIn slots k q → ¬ IsWanted wanted q → IsSlotSettled slots wanted first k
other_settled slots wanted first k q at unwanted p stands h =
    absurd (unwanted (subst (IsWanted wanted) (sym (same_Some q p (same_Some (Some q) (Some p) (sym at ∙ stands)))) h))

pub earlier_held : (slots : List (Option Coord)) (wanted : Wanted) (first : Option Found) (found result : Found) → IsHeld slots wanted first → StandsIn slots found.place found.point → IsWanted wanted found.point
    → IsEarlier first found result → IsHeld slots wanted (Some result)
earlier_held slots wanted first found result held stands h is =
    elim is.one [
      | inl e ↦ subst (IsHeld slots wanted) e held
      | inr e ↦ subst (λ (f : Found). IsHeld slots wanted (Some f)) e (stands, h)
    ]

pub earlier_settled : (slots : List (Option Coord)) (wanted : Wanted) (first : Option Found) (found result : Found) → StandsIn slots found.place found.point
    → IsEarlier first found result → IsSlotSettled slots wanted (Some result) found.place
earlier_settled slots wanted first found result at is p stands h =
    subst (λ (q : Coord). is_before q result.point ≡ false) (same_Some found.point p (same_Some (Some found.point) (Some p) (sym at ∙ stands))) is.not_found

pub earlier_kept : (slots : List (Option Coord)) (wanted : Wanted) (first : Option Found) (found result : Found) → IsEarlier first found result
    → (j : ℕ) → IsSlotSettled slots wanted first j → IsSlotSettled slots wanted (Some result) j
earlier_kept slots wanted first found result is j settled p stands h = by first refl (settled p stands h)
  where
    by : (o : Option Found) → first ≡ o → IsReached o p → is_before p result.point ≡ false
    by None e reached = absurd reached
    by (Some other) e reached = not_before_trans p other.point result.point reached (is.not_first other e)

-- ---- answers

-- what was found is the first in the way
pub first_found : (slots : List (Option Coord)) (points : List Coord) (a b c : Coord) (r : Option Found) (f : Found) → living slots ≡ points → r ≡ Some f → IsFirstWanted slots (InWay a b c) r
    → IsFirstInWay points (record { a = a; b = b; c = c }) (Some f.point)
first_found slots points a b c r f are is h =
    let first = subst (IsFirstWanted slots (InWay a b c)) is h in (
      subst (λ ps. Contains ps f.point) are (living_has slots f.place f.point first.held.0),
      first.held.1,
      λ q has way. (let place = has_living slots q (subst (λ ps. Contains ps q) (sym are) has) in first.least place.0 q place.1 way),
    )

-- and where nothing was, nothing is
pub none_found : (slots : List (Option Coord)) (points : List Coord) (a b c : Coord) (r : Option Found) → living slots ≡ points → r ≡ None → IsFirstWanted slots (InWay a b c) r
    → IsFirstInWay points (record { a = a; b = b; c = c }) None
none_found slots points a b c r are is h q has way =
    let first = subst (IsFirstWanted slots (InWay a b c)) is h in
    let place = has_living slots q (subst (λ ps. Contains ps q) (sym are) has) in
    first.least place.0 q place.1 way
