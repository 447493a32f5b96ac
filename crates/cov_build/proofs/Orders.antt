-- The order of lists of points, and lists that are sorted by it.
use mathlib.Core.List.{List, [], ◌∷◌}
use Rattle.std.proofs.Common.{◌≡◌, sym, ◌∙◌, ap, subst, ℕ, ◌<◌, length, get_or, drop}
use Rattle.std.specs.Cmp.{IsStrictWeakOrder}
use Rattle.std.specs.List.{insert, remove}
use Rattle.std.specs.List.Sorted.{IsPermutation}
use Rattle.std.specs.Ordering.{is_lt}
use Rattle.std.proofs.lemmas.Cmp.{lists_total}
use Rattle.std.proofs.lemmas.List.{get_or_default}
use Rattle.std.proofs.lemmas.List.Sorted.{IsPermutation-trans, IsPermutation-cons, IsPermutation-insert, IsPermutation-remove, ranks_by}
use Rattle.cov_types.specs.declared.coord.Coord.{Coord}
use Rattle.cov_types.specs.Coord.{points_cmp}
use Rattle.cov_types.proofs.SegOrder.{coord_cmp_total}
use Rattle.sound_polygons.specs.Cleaned.{shell_of}
use Rattle.cov_build.specs.Rings.{IsInFront}

pub points_weak : IsStrictWeakOrder (λ (g h : List Coord). is_lt (points_cmp g h))
points_weak = ranks_by {R = points_cmp} (lists_total coord_cmp_total) (λ (g : List Coord). g)

pub shells_weak : IsStrictWeakOrder (λ (a b : List (List Coord)). is_lt (points_cmp (shell_of a) (shell_of b)))
shells_weak = ranks_by {R = points_cmp} (lists_total coord_cmp_total) shell_of

-- a list without an element, sorted, and with the element in front
pub front_same : {X : Type 0} (list removed sorted out : List X) (first : X) (place : ℕ) → place < length list → first ≡ get_or list place first → removed ≡ remove list place → IsPermutation removed sorted
    → out ≡ insert sorted 0 first → IsPermutation list out
front_same list removed sorted out first place within is taken same made =
    IsPermutation-trans list (first ∷ remove list place) out (IsPermutation-remove list place first within is)
    (IsPermutation-trans (first ∷ remove list place) (first ∷ sorted) out
    (IsPermutation-cons first (remove list place) sorted (subst (λ xs. IsPermutation xs sorted) taken same))
    (subst (IsPermutation (first ∷ sorted)) (sym made) (IsPermutation-insert sorted 0 first)))

pub front_is : (list removed sorted out : List (List Coord)) (first : List Coord) (place : ℕ) → place < length list → first ≡ get_or list place first → removed ≡ remove list place → IsPermutation removed sorted
    → out ≡ insert sorted 0 first → IsInFront place list out
front_is list removed sorted out first place within is taken same made = record {
  others = sorted;
  is = made ∙ (λ i. (is ∙ get_or_default list place first [] within) i ∷ sorted);
  same = subst (λ xs. IsPermutation xs sorted) taken same;
}

pub drop-front : {X : Type 0} (sorted out : List X) (first : X) → out ≡ insert sorted 0 first → drop 1 out ≡ sorted
drop-front [] out first made = ap (drop 1) made
drop-front (x ∷ sorted) out first made = ap (drop 1) made
