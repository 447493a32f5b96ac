-- To be in one part is an equivalence on the regions of an owner.
use mathlib.Core.List.{[], ◌∷◌}
use Rattle.std.proofs.Common.{◌≡◌, sym, refl, subst, ℕ, List, inl, inr, Option, Some}
use Rattle.arrangement.specs.Overlay.{Overlay, AreBeside}
use Rattle.sound_polygons.specs.Parts.{LeadsWithin, InOnePart}
use Rattle.sound_polygons.specs.Laws.{IsPartEquivalence}

module _ (o : Overlay) (owners : ℕ → Option ℕ) (i : ℕ) where
  beside-sym : (r s : ℕ) → AreBeside o r s → AreBeside o s r
  beside-sym r s h = record { edge = h.edge; listed = h.listed; sides = elim h.sides [ inl a ↦ inr a | inr a ↦ inl a ] }

  -- the first region of a way is the owner's
  first_owned : (r : ℕ) (way : List ℕ) (s : ℕ) → LeadsWithin o owners i r way s → owners r ≡ Some i
  first_owned r [] s h = h.0
  first_owned r (g ∷ way) s h = h.0

  itself : (r : ℕ) → owners r ≡ Some i → InOnePart o owners i r r
  itself r own = ([], (own, refl))

  -- a way on
  on : (r : ℕ) (way : List ℕ) (s t : ℕ) → LeadsWithin o owners i r way s → InOnePart o owners i s t → InOnePart o owners i r t
  on r [] s t h k = subst (λ q. InOnePart o owners i q t) (sym h.1) k
  on r (g ∷ way) s t h k = let rest = on g way s t h.2 k in (g ∷ rest.0, (h.0, h.1, rest.1))

  -- a way back
  back : (r : ℕ) (way : List ℕ) (s : ℕ) → LeadsWithin o owners i r way s → InOnePart o owners i s r
  back r [] s h = subst (λ q. InOnePart o owners i q r) h.1 (itself r h.0)
  back r (g ∷ way) s h =
      let rest = back g way s h.2 in
      let step : InOnePart o owners i g r = (r ∷ [], (first_owned g way s h.2, beside-sym r g h.1, (h.0, refl))) in
      on s rest.0 g r rest.1 step

  pub part_equivalence : IsPartEquivalence o owners i
  part_equivalence = record {
    itself = itself;
    back = λ r s h. back r h.0 s h.1;
    on = λ r s t h k. on r h.0 s t h.1 k;
  }
