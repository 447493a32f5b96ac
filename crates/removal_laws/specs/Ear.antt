-- Triangles of two neighbouring segments, and the segments that stay out of them.
use Rattle.std.specs.Prelude.{◌≡◌, ◌⊎◌, ℕ, ◌+◌, ◌≤◌, pos, ◌+ℤ◌, ◌*ℤ◌}
use Rattle.cov_types.specs.declared.coord.Coord.{Coord}
use Rattle.cov_types.specs.declared.seg.Seg.{Seg}
use Rattle.cov_types.specs.Range.{IsSegInRange}
use Rattle.cov_types.specs.Seg.{IsSegBetween}
use Rattle.plane.specs.Contact.{IsCommon}
use Rattle.plane.specs.Point.{Point, at_coord, SamePoint}
use Rattle.plane.specs.Segment.{IsEnd, turn_of}
use Rattle.greedy_run.specs.Run.{Triangle}

-- p is in the closed triangle: a mean of the three corners with whole weights that are not all 0
pub record IsWithin (t : Triangle) (p : Point) : Type 0 where
  pub first : ℕ
  pub second : ℕ
  pub third : ℕ
  pub weighted : 1 ≤ first + second + third
  pub x : p.x *ℤ pos (first + second + third) ≡ pos p.d *ℤ ((pos first *ℤ t.a.x) +ℤ (pos second *ℤ t.b.x) +ℤ (pos third *ℤ t.c.x))
  pub y : p.y *ℤ pos (first + second + third) ≡ pos p.d *ℤ ((pos first *ℤ t.a.y) +ℤ (pos second *ℤ t.b.y) +ℤ (pos third *ℤ t.c.y))

-- ab and bc are the segments from a to b and from b to c, in range
pub record AreSides (t : Triangle) (ab bc : Seg) : Type 0 where
  pub first : IsSegBetween t.a t.b ab
  pub second : IsSegBetween t.b t.c bc
  pub first_in_range : IsSegInRange ab
  pub second_in_range : IsSegInRange bc

-- and ac is the segment from a to c, in range
pub record AreThreeSides (t : Triangle) (ab bc ac : Seg) : Type 0 where
  pub two : AreSides t ab bc
  pub third : IsSegBetween t.a t.c ac
  pub third_in_range : IsSegInRange ac

-- p is strictly in the triangle: all weights are positive, and the triangle is not flat
pub record IsStrictlyWithin (t : Triangle) (p : Point) : Type 0 where
  pub within : IsWithin t p
  pub first : 1 ≤ within.first
  pub second : 1 ≤ within.second
  pub third : 1 ≤ within.third
  pub bent : ¬ (turn_of t.a t.b t.c ≡ pos 0)

-- the vertex is free: it is a or c, or not in the triangle
abbrev pub IsFree : Triangle → Coord → Type 0
IsFree t v = IsWithin t (at_coord v) → (v ≡ t.a) ⊎ (v ≡ t.c)

-- s has at most ends in common with the other, which are ends of both
abbrev pub MeetsInEndsAlone : Seg → Seg → Type 0
MeetsInEndsAlone s t = (r : Point) → IsCommon s t r → IsEnd s r × IsEnd t r

-- s is not ac, and has free ends
pub record HasFreeEnds (t : Triangle) (s : Seg) : Type 0 where
  pub not_third : ¬ IsSegBetween t.a t.c s
  pub lo : IsFree t s.lo
  pub hi : IsFree t s.hi

-- and it meets ab and bc in ends alone
pub record IsFreeOf (t : Triangle) (ab bc s : Seg) : Type 0 where
  pub first : MeetsInEndsAlone s ab
  pub second : MeetsInEndsAlone s bc
  pub free : HasFreeEnds t s

-- s is ac, or stays out of the triangle
abbrev pub IsOther : Triangle → Seg → Seg → Seg → Seg → Type 0
IsOther t ab bc ac s = (s ≡ ac) ⊎ IsFreeOf t ab bc s

-- r is an end of s, and it is a or c
pub record IsOuterEnd (t : Triangle) (s : Seg) (r : Point) : Type 0 where
  pub is_end : IsEnd s r
  pub corner : SamePoint r (at_coord t.a) ⊎ SamePoint r (at_coord t.c)
