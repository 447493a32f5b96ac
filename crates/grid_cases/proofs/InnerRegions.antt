-- Regions of sides, and which one is outer.
use Rattle.std.proofs.Common.{◌≡◌, subst, ℕ, ◌*◌, ◌<◌, List, length, Option, Some, IfSome, arith}
use Rattle.cov_types.specs.declared.seg.Seg.{Seg}
use Rattle.plane.specs.Point.{Point}
use Rattle.plane.specs.Region.{IsSide, IsOuterRegion, IsRegionOf}
use Rattle.crossing_laws.proofs.Located.{side_at, region-joined}
use Rattle.arrangement.specs.Overlay.{IsRegion}

-- the region of a side is a region
pub region_from : (edges : List Seg) (side r : ℕ) → side < 2 * length edges → ((p : Point) → IsSide edges side p → IsRegionOf edges p r) → IsRegion edges r
region_from edges side r below is =
    let (p, at) = side_at edges side below in
    let its = is p at in
    record { at = its.joined.at; side = its.joined.side; own = region-joined edges p its.joined.at r its.joined.joined its }

-- one region is outer
pub one_outer : (edges : List Seg) (r s : ℕ) → IsOuterRegion edges r → IsOuterRegion edges s → r ≡ s
one_outer edges r s a b = (let first = a.least s b.outer in let second = b.least r a.outer in omega (arith, first, second))

-- what holds of a number that is there holds of this one
pub outer_at : (P : ℕ → Type 0) (o : Option ℕ) (n : ℕ) → o ≡ Some n → IfSome o P → P n
outer_at P o n is h = subst (λ x. IfSome x P) is h
