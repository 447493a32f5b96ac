-- Probes, and the boxes that they reach.
use Rattle.std.specs.Prelude.{ℕ, ◌+◌, ℤ, Bool, ◌&&◌, ◌||◌, pos, neg_ℤ, ◌-ℤ◌, ◌*ℤ◌, int_lt, int_le, unsigned_abs}
use Rattle.cov_types.specs.Range.{IsSegInRange}
use Rattle.cov_types.specs.declared.coord.Coord.{Coord}
use Rattle.cov_types.specs.declared.seg.Seg.{Seg}
use Rattle.plane.specs.Segment.{turn_of}
use Rattle.box_tree.specs.Rect.{is_touching, box_of_segment}
use Rattle.box_tree.specs.declared.probe.Probe.{Probe}
use Rattle.box_tree.specs.declared.probe.Probe.TheVariants.{Box, Pixels, Above, Below}
use Rattle.box_tree.specs.declared.rect.Rect.{Rect}

-- a probe by a segment has it in range
abbrev pub IsProbeInRange : Probe → Type 0
IsProbeInRange (Box own) = Unit {0}
IsProbeInRange (Pixels s) = IsSegInRange s
IsProbeInRange (Above p) = Unit {0}
IsProbeInRange (Below p) = Unit {0}

-- how far the segment goes in x and in y together
abbrev pub reach_of : Seg → ℕ
reach_of s = unsigned_abs (s.hi.x -ℤ s.lo.x) + unsigned_abs (s.hi.y -ℤ s.lo.y)

-- twice the turn of a point against the segment
abbrev pub twice_turn : Seg → ℤ → ℤ → ℤ
twice_turn s x y = pos 2 *ℤ turn_of s.lo s.hi (record { x = x; y = y })

-- the corner with these numbers is at most as far on the left of the segment's line as the centre of a pixel that the segment meets
abbrev pub is_near_left : Seg → ℤ → ℤ → Bool
is_near_left s x y = int_le (twice_turn s x y) (pos (reach_of s))

-- and likewise on the right
abbrev pub is_near_right : Seg → ℤ → ℤ → Bool
is_near_right s x y = int_le (neg_ℤ (pos (reach_of s))) (twice_turn s x y)

-- some corner of the box passes
abbrev pub has_corner : (ℤ → ℤ → Bool) → Rect → Bool
has_corner test b = test b.lo.x b.lo.y || test b.hi.x b.lo.y || test b.lo.x b.hi.y || test b.hi.x b.hi.y

-- the box is not wholly beside the pixels that the segment's line meets, on one side of it
abbrev pub is_near_line : Seg → Rect → Bool
is_near_line s b = has_corner (is_near_left s) b && has_corner (is_near_right s) b

-- the box may have the centre of a pixel that the segment meets
abbrev pub is_near_pixels : Seg → Rect → Bool
is_near_pixels s b = is_touching (box_of_segment s) b && is_near_line s b

-- p is twice a point: the box has points of its column
abbrev pub is_in_column : Coord → Rect → Bool
is_in_column p b = int_le (pos 2 *ℤ b.lo.x) p.x && int_le p.x (pos 2 *ℤ b.hi.x)

-- and a point strictly above it
abbrev pub is_above_point : Coord → Rect → Bool
is_above_point p b = is_in_column p b && int_lt p.y (pos 2 *ℤ b.hi.y)

-- and a point that is not above it
abbrev pub is_below_point : Coord → Rect → Bool
is_below_point p b = is_in_column p b && int_le (pos 2 *ℤ b.lo.y) p.y

-- the probe reaches the box
abbrev pub reaches : Probe → Rect → Bool
reaches (Box own) b = is_touching own b
reaches (Pixels s) b = is_near_pixels s b
reaches (Above p) b = is_above_point p b
reaches (Below p) b = is_below_point p b
