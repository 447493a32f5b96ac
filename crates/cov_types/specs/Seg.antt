-- Segments: their ends and their order.
use Rattle.std.specs.Prelude.{◌≡◌, ◌⊎◌, Bool, ◌&&◌, ◌||◌, not}
use Rattle.std.specs.Ordering.{ordering_then}
use Rattle.std.specs.declared.cmp.Ordering.{Ordering}
use Rattle.cov_types.specs.Coord.{is_before, coord_cmp}
use Rattle.cov_types.specs.declared.coord.Coord.{Coord}
use Rattle.cov_types.specs.declared.seg.Seg.{Seg}

-- the ends of s are a and b, in either order
abbrev pub IsSegBetween : Coord → Coord → Seg → Type 0
IsSegBetween a b s = ((s.lo ≡ a) × (s.hi ≡ b)) ⊎ ((s.lo ≡ b) × (s.hi ≡ a))

-- s comes before t: by its lesser end, then by its greater
abbrev pub is_seg_before : Seg → Seg → Bool
is_seg_before s t = is_before s.lo t.lo || (not (is_before t.lo s.lo) && is_before s.hi t.hi)

-- what `cmp` answers of two segments
abbrev pub seg_cmp : Seg → Seg → Ordering
seg_cmp s t = ordering_then (coord_cmp s.lo t.lo) (coord_cmp s.hi t.hi)
