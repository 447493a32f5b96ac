-- Sides beyond which nobody owns, and one side more.
use Rattle.std.proofs.Common.{◌≡◌, refl, sym, ◌∙◌, ap, ℕ, ◌+◌, ◌<◌, ◌==◌, ◌&&◌, Bool, true, false, not, List, [], ◌∷◌, ◌++◌, length, get_or, take, sum_by, Option, Some, None, Contains, arith}
use Rattle.std.proofs.lemmas.List.{get_or_default}
use Rattle.std.proofs.lemmas.List.Sums.{sum_by_push, sum_by_more}
use Rattle.std.proofs.lemmas.Option.{unwrap_or-slice_get}
use Rattle.half_edge.specs.Side.{across}
use Rattle.arrangement.specs.Measure.{is_member}
use Rattle.arrangement.specs.Overlay.{Overlay, region_at, label_of}
use Rattle.owner_label.specs.Labelled.{owner_in}
use Rattle.owner_label.specs.OwnedSides.{length_by, length_by_any, owned_length}
use Rattle.owner_label.specs.Sides.{side_length, is_owned}
use Rattle.owner_label.specs.declared.owned_side.OwnedSide.{OwnedSide}
use Rattle.owner_label.proofs.Sums.{side_skipped}

nobody : (b : Bool) → (b && false) ≡ false
nobody true = refl
nobody false = refl

-- beyond the side is a region that has no owner
pub side_unowned : (o : Overlay) (owners : List (Option ℕ)) (n r : ℕ) (d : Option ℕ) → r ≡ region_at o (across n) → r < length owners → get_or owners r d ≡ None → (member : ℕ)
    → 0 ≡ side_length o (is_owned o (owner_in owners) member) n
side_unowned o owners n r d is within none member =
    let free : owner_in owners r ≡ None = unwrap_or-slice_get owners r None ∙ get_or_default owners r None d within ∙ none in
    side_skipped o (is_owned o (owner_in owners) member) n
    (ap (λ (owner : Option ℕ). not (length (label_of o (region_at o (across n))) == 0) && is_member member owner) (ap (owner_in owners) (sym is) ∙ free) ∙ nobody _)

-- an owner that is read in the list is in it
pub owner_listed : (owners : List (Option ℕ)) (r i : ℕ) (d : Option ℕ) → r < length owners → get_or owners r d ≡ Some i → Contains owners (Some i)
owner_listed owners r i d within is = (r, within, get_or_default owners r (Some i) d within ∙ is)

-- ---- one side more

module _ (f : ℕ → ℕ) (places : List ℕ) (k member : ℕ) (before : List OwnedSide) (within : k < length places) (so_far : owned_length before member ≡ sum_by f (take k places)) where
  pub owned_same : (found : Option OwnedSide) → found ≡ None → length_by_any member found ≡ f (get_or places k 0) → owned_length before member ≡ sum_by f (take (k + 1) places)
  owned_same found none is =
      let more = sum_by_more f places k 0 within in
      let zero_more : 0 ≡ f (get_or places k 0) = sym (ap (length_by_any member) none) ∙ is in
      omega (arith, so_far, more, zero_more)

  pub owned_more : (found : Option OwnedSide) (side : OwnedSide) (after : List OwnedSide) → found ≡ Some side → length_by_any member found ≡ f (get_or places k 0) → after ≡ before ++ side ∷ []
      → owned_length after member ≡ sum_by f (take (k + 1) places)
  owned_more found side after some is pushed =
      ap (λ xs. owned_length xs member) pushed ∙ sum_by_push (length_by member) before side ∙ (λ i. so_far i + (sym (ap (length_by_any member) some) ∙ is) i) ∙ sym (sum_by_more f places k 0 within)
