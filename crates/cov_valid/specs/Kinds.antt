-- The kinds of fault that a use of a segment can have in a list of uses.
use Rattle.std.specs.Prelude.{◌≡◌, ℕ, List, Contains, true}
use Rattle.cov_types.specs.declared.edge_use.EdgeUse.{EdgeUse}
use Rattle.cov_types.specs.declared.seg.Seg.{Seg}
use Rattle.cov_valid.specs.declared.mark.Kind.{Kind}
use Rattle.cov_valid.specs.declared.mark.Kind.TheVariants.{Meets, Repeated, SameSide, Inside, NarrowGap}
use Rattle.plane.specs.Contact.{MeetsBadly}
use Rattle.plane.specs.Parity.{member_holds}
use Rattle.plane.specs.Segment.{midpoint, upper}
use Rattle.plane.specs.Validity.{IsRepeated}

-- another segment of the list isn't equal to s and has a point in common with it that isn't an end of both
pub record HasBadContact (uses : List EdgeUse) (s : Seg) : Type 0 where
  pub other : EdgeUse
  pub listed : Contains uses other
  pub meets : MeetsBadly s other.seg

-- another member has the segment too, and both or neither of the two hold the side point above it
pub record IsSameSide (uses : List EdgeUse) (edge : EdgeUse) : Type 0 where
  pub other : EdgeUse
  pub listed : Contains uses other
  pub another : ¬ (other.member ≡ edge.member)
  pub shared : other.seg ≡ edge.seg
  pub alike : member_holds uses other.member (upper edge.seg) ≡ member_holds uses edge.member (upper edge.seg)

-- a member that doesn't have the segment holds its midpoint
pub record IsInside (uses : List EdgeUse) (s : Seg) : Type 0 where
  pub member : ℕ
  pub without : ¬ Contains uses (record { member = member; seg = s })
  pub held : member_holds uses member (midpoint s) ≡ true

-- the fault of the use is of this kind: the first of the four that applies, and a narrow gap is no fault
abbrev pub IsFaultOf : List EdgeUse → EdgeUse → Kind → Type 0
IsFaultOf uses edge Meets = HasBadContact uses edge.seg
IsFaultOf uses edge Repeated = ¬ HasBadContact uses edge.seg × IsRepeated uses edge
IsFaultOf uses edge SameSide = ¬ HasBadContact uses edge.seg × ¬ IsRepeated uses edge × IsSameSide uses edge
IsFaultOf uses edge Inside = ¬ HasBadContact uses edge.seg × ¬ IsRepeated uses edge × ¬ IsSameSide uses edge × IsInside uses edge.seg
IsFaultOf uses edge NarrowGap = ⊥

-- none of the four applies to the use
abbrev pub IsFaultless : List EdgeUse → EdgeUse → Type 0
IsFaultless uses edge = (kind : Kind) → ¬ IsFaultOf uses edge kind

-- none of the four applies to any use of the list
abbrev pub AreFaultless : List EdgeUse → Type 0
AreFaultless uses = (edge : EdgeUse) → Contains uses edge → IsFaultless uses edge
