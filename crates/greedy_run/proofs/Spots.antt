-- The spots of a single line, by what filtering gives.
use mathlib.Core.List.{[], ◌∷◌}
use Rattle.std.proofs.Common.{◌≡◌, refl, sym, ◌∙◌, ap, subst, ℕ, zero, suc, false, List}
use Rattle.std.specs.Prelude.{Some, slice_get, option_and_then, unwrap_or}
use Rattle.std.proofs.lemmas.Option.{none-some}
use Rattle.cov_types.specs.declared.coord.Coord.{Coord}
use Rattle.greedy_run.specs.Run.{point_before, point_after, is_removed, Spot, Triangle, IsTriangleAt}
use Rattle.greedy_run.proofs.Kept.{before_is, after_is}

module _ (only : List Coord) where
  one_line : (line : ℕ) (points : List Coord) → slice_get (only ∷ []) line ≡ Some points → (line ≡ 0) × (only ≡ points)
  one_line zero points h = (refl, ap (λ o. unwrap_or o only) h)
  one_line (suc line) points h = absurd (none-some points h)

  -- a triangle at a spot is one of neighbours in what is left of the line
  pub record IsOfLine (removed : List Coord) (spot : Spot) (t : Triangle) : Type 0 where
    pub line : spot.line ≡ 0
    pub before : point_before removed only spot.place ≡ Some t.a
    pub here : slice_get only spot.place ≡ Some t.b
    pub there : is_removed removed t.b ≡ false
    pub after : point_after removed only spot.place ≡ Some t.c

  pub of_line : (removed : List Coord) (spot : Spot) (t : Triangle) → IsTriangleAt (only ∷ []) removed spot t → IsOfLine removed spot t
  of_line removed spot t h =
      let line = one_line spot.line h.points h.line in
      record {
        line = line.0;
        before = subst (λ ps. point_before removed ps spot.place ≡ Some t.a) (sym line.1) ((before_is removed h.points spot.place t.a).1 (h.from, h.before));
        here = subst (λ ps. slice_get ps spot.place ≡ Some t.b) (sym line.1) (sym (ap (option_and_then (λ points. slice_get points spot.place)) h.line) ∙ h.here);
        there = h.there;
        after = subst (λ ps. point_after removed ps spot.place ≡ Some t.c) (sym line.1) ((after_is removed h.points spot.place t.c).1 (h.to, h.after));
      }
