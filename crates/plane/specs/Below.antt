-- Which edges are below a point, where the ray from the point back along (1, -2^30) meets them, and which of two is nearer.
use Rattle.std.specs.Prelude.{◌≡◌, ◌⊎◌, Bool, ◌&&◌, not, ℤ, pos, ◌-ℤ◌, ◌*ℤ◌, ◌<ℤ◌, int_lt}
use Rattle.cov_types.specs.declared.seg.Seg.{Seg}
use Rattle.plane.specs.Point.{Point, at_coord}
use Rattle.plane.specs.Segment.{side}
use Rattle.plane.specs.Ray.{sweep, sweep_below}

-- the edge is under p: lo is not past p and hi is, and p is strictly above the edge along the ray
abbrev pub is_under : Seg → Point → Bool
is_under e p = not (sweep_below p (at_coord e.lo)) && sweep_below p (at_coord e.hi) && int_lt (pos 0) (side e p)

-- how far the sweep value rises along the edge: p is side e p / (sweep_rise e · p.d) steps of the ray above the edge
abbrev pub sweep_rise : Seg → ℤ
sweep_rise e = sweep (at_coord e.hi) -ℤ sweep (at_coord e.lo)

-- of two edges under p, e is nearer: p is less far above it, or as far and e leads on above f
abbrev pub IsNearer : Point → Seg → Seg → Type 0
IsNearer p e f = ((side e p *ℤ sweep_rise f) <ℤ (side f p *ℤ sweep_rise e)) ⊎ ((side e p *ℤ sweep_rise f ≡ side f p *ℤ sweep_rise e) × (pos 0 <ℤ side f (at_coord e.hi)))
