-- Regions that are not outer, by the numbers of their sides.
use Rattle.std.proofs.Common.{◌≡◌, subst, ℕ, ◌*◌, ◌<◌, List, length, le_antisymm}
use Rattle.cov_types.specs.declared.seg.Seg.{Seg}
use Rattle.plane.specs.Point.{Point}
use Rattle.plane.specs.Region.{IsSide, IsRegionOf, IsOuterRegion}
use Rattle.arrangement.specs.Overlay.{IsRegion}
use Rattle.crossing_laws.proofs.Located.{side_at}

-- a side that is its own region
pub own_region : (edges : List Seg) (n r : ℕ) → n < 2 * length edges → ((p : Point) → IsSide edges n p → IsRegionOf edges p r) → r ≡ n → IsRegion edges n
own_region edges n r within region same =
    let p = side_at edges n within in
    record { at = p.0; side = p.1; own = subst (λ q. IsRegionOf edges p.0 q) same (region p.0 p.1) }

-- no number but one is that of the outer region
pub not_outer : (edges : List Seg) (outer n : ℕ) → IsOuterRegion edges outer → ¬ (n ≡ outer) → ¬ IsOuterRegion edges n
not_outer edges outer n is other = λ k. other (le_antisymm (k.least outer is.outer) (is.least n k.outer))
