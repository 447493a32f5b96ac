-- Lists of edges that meet in ends alone.
use Rattle.std.specs.Prelude.{◌≡◌, ℤ, pos, ◌+ℤ◌, ◌-ℤ◌, ◌*ℤ◌, ◌≤ℤ◌, ℕ, ◌*◌, ◌⊎◌, List, Contains}
use Rattle.cov_types.specs.declared.seg.Seg.{Seg}
use Rattle.plane.specs.Point.{Point}
use Rattle.plane.specs.Segment.{IsEnd}
use Rattle.plane.specs.Contact.{IsCommon}

-- two segments are equal, or have at most common ends in common
abbrev pub MeetInEnds : Seg → Seg → Type 0
MeetInEnds s t = (s ≡ t) ⊎ ((r : Point) → IsCommon s t r → IsEnd s r × IsEnd t r)

-- any two edges of the list are equal or have at most common ends in common
abbrev pub IsNodedFully : List Seg → Type 0
IsNodedFully edges = (e f : Seg) → Contains edges e → Contains edges f → MeetInEnds e f

-- p is within half a unit of q, in x and in y
pub record IsWithinHalf (p q : Point) : Type 0 where
  pub left : ((pos 2 *ℤ (p.x *ℤ pos q.d)) -ℤ pos (p.d * q.d)) ≤ℤ (pos 2 *ℤ (q.x *ℤ pos p.d))
  pub right : (pos 2 *ℤ (q.x *ℤ pos p.d)) ≤ℤ ((pos 2 *ℤ (p.x *ℤ pos q.d)) +ℤ pos (p.d * q.d))
  pub below : ((pos 2 *ℤ (p.y *ℤ pos q.d)) -ℤ pos (p.d * q.d)) ≤ℤ (pos 2 *ℤ (q.y *ℤ pos p.d))
  pub above : (pos 2 *ℤ (q.y *ℤ pos p.d)) ≤ℤ ((pos 2 *ℤ (p.y *ℤ pos q.d)) +ℤ pos (p.d * q.d))
