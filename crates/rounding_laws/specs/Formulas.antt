-- Formulas by which code decides which pixels a segment meets, and in which order.
use Rattle.std.specs.Prelude.{◌≡◌, ℤ, pos, neg_ℤ, ◌+ℤ◌, ◌-ℤ◌, ◌*ℤ◌, ◌≤ℤ◌, ◌<ℤ◌, ◌⊎◌}
use Rattle.cov_types.specs.declared.coord.Coord.{Coord}
use Rattle.cov_types.specs.declared.seg.Seg.{Seg}
use Rattle.plane.specs.Segment.{turn_of}

-- from lo to hi, the centre a comes before b: by x, then by y, upwards or downwards as the segment goes
abbrev pub ComesFirst : Seg → Coord → Coord → Type 0
ComesFirst s a b = (a.x <ℤ b.x) ⊎ ((a.x ≡ b.x) × (((s.lo.y ≤ℤ s.hi.y) × (a.y <ℤ b.y)) ⊎ ((s.hi.y <ℤ s.lo.y) × (b.y <ℤ a.y))))

-- how far the segment goes in x and in y together
abbrev pub reach_up : Seg → ℤ
reach_up s = (s.hi.x -ℤ s.lo.x) +ℤ (s.hi.y -ℤ s.lo.y)

-- how far it goes in x, and down in y, together
abbrev pub reach_down : Seg → ℤ
reach_down s = (s.hi.x -ℤ s.lo.x) +ℤ (s.lo.y -ℤ s.hi.y)

-- the segment does not go down, r is beside it, and twice the turn of r is strictly between the two reaches
pub record IsBesideUp (s : Seg) (r : Coord) : Type 0 where
  pub up : s.lo.y ≤ℤ s.hi.y
  pub from : s.lo.y ≤ℤ r.y
  pub to : r.y ≤ℤ s.hi.y
  pub right : neg_ℤ (reach_up s) <ℤ (pos 2 *ℤ turn_of s.lo s.hi r)
  pub left : (pos 2 *ℤ turn_of s.lo s.hi r) <ℤ reach_up s

-- the segment goes down, and likewise, but that r may be at its reach on the left: there the closed corner of the pixel is
pub record IsBesideDown (s : Seg) (r : Coord) : Type 0 where
  pub down : s.hi.y <ℤ s.lo.y
  pub from : r.y ≤ℤ s.lo.y
  pub to : s.hi.y ≤ℤ r.y
  pub right : neg_ℤ (reach_down s) <ℤ (pos 2 *ℤ turn_of s.lo s.hi r)
  pub left : (pos 2 *ℤ turn_of s.lo s.hi r) ≤ℤ reach_down s

-- r is as near to the segment as the centre of a pixel that the segment meets
pub record IsBeside (s : Seg) (r : Coord) : Type 0 where
  pub from : s.lo.x ≤ℤ r.x
  pub to : r.x ≤ℤ s.hi.x
  pub within : IsBesideUp s r ⊎ IsBesideDown s r
