-- A set of segments, with and without one.
use Rattle.std.proofs.Common.{◌≡◌, ◌⊎◌, inl, inr, refl, sym, ◌∙◌, subst, Bool, true, false, cond, true≢false, ◌↔◌}
use Rattle.cov_types.specs.declared.coord.Coord.{Coord}
use Rattle.cov_types.specs.declared.seg.Seg.{Seg}
use Rattle.cov_types.specs.Seg.{IsSegBetween}
use Rattle.cov_types.proofs.Equal.{Decides-same_segs}
use Rattle.greedy_run.proofs.Threads.{one_seg, no_loop}
use Rattle.visvalingam.specs.Segments.{are_same_ends}

-- the segment f between a and b is added
pub added : (a b : Coord) (f e : Seg) (old new : Bool) → IsSegBetween a b f → new ≡ cond (are_same_ends (f.lo, f.hi) (e.lo, e.hi)) true old → (new ≡ true) ↔ ((old ≡ true) ⊎ IsSegBetween a b e)
added a b f e old new between is = (there (are_same_ends (f.lo, f.hi) (e.lo, e.hi)) refl is, back (are_same_ends (f.lo, f.hi) (e.lo, e.hi)) refl is)
  where
    there : (t : Bool) → are_same_ends (f.lo, f.hi) (e.lo, e.hi) ≡ t → new ≡ cond t true old → new ≡ true → (old ≡ true) ⊎ IsSegBetween a b e
    there true same k h = inr (subst (IsSegBetween a b) ((Decides-same_segs f e).0 same) between)
    there false same k h = inl (sym k ∙ h)

    back : (t : Bool) → are_same_ends (f.lo, f.hi) (e.lo, e.hi) ≡ t → new ≡ cond t true old → (old ≡ true) ⊎ IsSegBetween a b e → new ≡ true
    back true same k h = k
    back false same k (inl h) = k ∙ h
    back false same k (inr h) = absurd (true≢false (sym ((Decides-same_segs f e).1 (one_seg a b f e between h)) ∙ same))

-- the segment f between a and b is taken out
pub left : (a b : Coord) (f e : Seg) (old new : Bool) → IsSegBetween a b f → new ≡ cond (are_same_ends (f.lo, f.hi) (e.lo, e.hi)) false old → (new ≡ true) ↔ ((old ≡ true) × ¬ IsSegBetween a b e)
left a b f e old new between is = (there (are_same_ends (f.lo, f.hi) (e.lo, e.hi)) refl is, back (are_same_ends (f.lo, f.hi) (e.lo, e.hi)) refl is)
  where
    there : (t : Bool) → are_same_ends (f.lo, f.hi) (e.lo, e.hi) ≡ t → new ≡ cond t false old → new ≡ true → (old ≡ true) × ¬ IsSegBetween a b e
    there true same k h = absurd (true≢false (sym h ∙ k))
    there false same k h = (sym k ∙ h, λ other. true≢false (sym ((Decides-same_segs f e).1 (one_seg a b f e between other)) ∙ same))

    back : (t : Bool) → are_same_ends (f.lo, f.hi) (e.lo, e.hi) ≡ t → new ≡ cond t false old → (old ≡ true) × ¬ IsSegBetween a b e → new ≡ true
    back true same k h = absurd (h.1 (subst (IsSegBetween a b) ((Decides-same_segs f e).0 same) between))
    back false same k h = k ∙ h.0

-- between equal points there is none
pub none_added : (a b : Coord) (e : Seg) (old : Bool) → a ≡ b → (old ≡ true) ↔ ((old ≡ true) ⊎ IsSegBetween a b e)
none_added a b e old same = (λ h. inl h, back)
  where
    back : (old ≡ true) ⊎ IsSegBetween a b e → old ≡ true
    back (inl h) = h
    back (inr h) = absurd (no_loop b e (subst (λ (q : Coord). IsSegBetween q b e) same h))

pub none_left : (a b : Coord) (e : Seg) (old : Bool) → a ≡ b → (old ≡ true) ↔ ((old ≡ true) × ¬ IsSegBetween a b e)
none_left a b e old same = (λ h. (h, λ k. no_loop b e (subst (λ (q : Coord). IsSegBetween q b e) same k)), λ h. h.0)
