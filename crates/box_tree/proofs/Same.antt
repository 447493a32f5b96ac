-- Boxes with the same corners.
use lib.Dec.{T_prop}
use mathlib.Core.HLevel.{is_prop→PathP}
use Rattle.std.proofs.Common.{◌≡◌, ℤ, ◌≤ℤ◌}
use Rattle.cov_types.specs.declared.coord.Coord.{Coord}
use Rattle.box_tree.specs.declared.rect.Rect.{Rect}

≤ℤ-prop : (a b : ℤ) → IsProp (a ≤ℤ b)
≤ℤ-prop a b = hlevel T_prop

-- two boxes with the same corners are one
pub same_rects : (a b : Rect) → a.lo ≡ b.lo → a.hi ≡ b.hi → a ≡ b
same_rects a b e f =
    λ i. record {
      lo = e i;
      hi = f i;
      across = is_prop→PathP (λ j. (e j).x ≤ℤ (f j).x) (λ j. ≤ℤ-prop (e j).x (f j).x) a.across b.across i;
      upright = is_prop→PathP (λ j. (e j).y ≤ℤ (f j).y) (λ j. ≤ℤ-prop (e j).y (f j).y) a.upright b.upright i;
    }

-- two points with the same numbers are one
pub same_coords : (a b : Coord) → a.x ≡ b.x → a.y ≡ b.y → a ≡ b
same_coords a b e f = λ i. record { x = e i; y = f i }
