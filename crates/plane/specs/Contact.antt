-- How two segments meet, by their common points.
use Rattle.std.specs.Prelude.{◌≡◌, ◌⊎◌, Bool, true, false}
use Rattle.cov_types.specs.declared.seg.Seg.{Seg}
use Rattle.plane.specs.declared.contact.Contact.{Contact}
use Rattle.plane.specs.declared.contact.Contact.TheVariants.{Apart, SameSegment, CommonEnd, Bad}
use Rattle.plane.specs.declared.contact.Badness.{Badness}
use Rattle.plane.specs.declared.contact.Badness.TheVariants.{Cross, Touch, Overlap}
use Rattle.plane.specs.Point.{Point, SamePoint}
use Rattle.plane.specs.Segment.{IsOn, IsEnd}

-- r is a point of both segments
abbrev pub IsCommon : Seg → Seg → Point → Type 0
IsCommon s t r = IsOn s r × IsOn t r

-- r is the one point that the segments have in common
pub record IsOnlyCommon (s t : Seg) (r : Point) : Type 0 where
  pub common : IsCommon s t r
  pub only : (q : Point) → IsCommon s t q → SamePoint q r

-- the segments have two different points in common
pub record HaveTwoCommon (s t : Seg) : Type 0 where
  pub one : Point
  pub other : Point
  pub one_common : IsCommon s t one
  pub other_common : IsCommon s t other
  pub different : SamePoint one other → ⊥

-- the segments meet badly: inside both, at an end of just one, or along a piece
abbrev pub IsBad : Seg → Seg → Badness → Type 0
IsBad s t Cross = (r : Point) × (IsOnlyCommon s t r × ¬ IsEnd s r × ¬ IsEnd t r)
IsBad s t Touch = (r : Point) × (IsOnlyCommon s t r × ((IsEnd s r × ¬ IsEnd t r) ⊎ (¬ IsEnd s r × IsEnd t r)))
IsBad s t Overlap = ¬ (s ≡ t) × HaveTwoCommon s t

-- the contact of two segments
abbrev pub IsContact : Seg → Seg → Contact → Type 0
IsContact s t Apart = (r : Point) → ¬ IsCommon s t r
IsContact s t SameSegment = s ≡ t
IsContact s t CommonEnd = (r : Point) × (IsOnlyCommon s t r × IsEnd s r × IsEnd t r)
IsContact s t (Bad badness) = IsBad s t badness

-- the segments are not equal and have a point in common that is not an end of both
abbrev pub MeetsBadly : Seg → Seg → Type 0
MeetsBadly s t = ¬ (s ≡ t) × ((r : Point) × (IsCommon s t r × ¬ (IsEnd s r × IsEnd t r)))

-- the contact is one that may not stand in a coverage
abbrev pub is_bad : Contact → Bool
is_bad Apart = false
is_bad SameSegment = false
is_bad CommonEnd = false
is_bad (Bad badness) = true
