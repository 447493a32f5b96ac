-- Where a point lies in a coverage, by the uses of its segments.
use Rattle.std.specs.Prelude.{◌≡◌, ℕ, ◌<◌, true, false, List, Contains}
use Rattle.cov_types.specs.declared.coord.Coord.{Coord}
use Rattle.cov_types.specs.declared.edge_use.EdgeUse.{EdgeUse}
use Rattle.cov_locate.specs.declared.place.Where.{Where}
use Rattle.cov_locate.specs.declared.place.Where.TheVariants.{Edge, Member, Nowhere}
use Rattle.plane.specs.Parity.{member_holds}
use Rattle.plane.specs.Point.{at_coord}
use Rattle.plane.specs.Segment.{IsOn}

-- a segment of the uses has the point
abbrev pub IsOnEdge : List EdgeUse → Coord → Type 0
IsOnEdge uses p = (u : EdgeUse) × (Contains uses u × IsOn u.seg (at_coord p))

-- the member is the least that holds the point
pub record IsLeastHolder (uses : List EdgeUse) (p : Coord) (member : ℕ) : Type 0 where
  pub holds : member_holds uses member (at_coord p) ≡ true
  pub least : (other : ℕ) → other < member → member_holds uses other (at_coord p) ≡ false

-- no member holds the point
abbrev pub IsHeldByNone : List EdgeUse → Coord → Type 0
IsHeldByNone uses p = (member : ℕ) → member_holds uses member (at_coord p) ≡ false

-- the point lies on an edge; or else in a least member; or else in none
abbrev pub IsWhere : List EdgeUse → Coord → Where → Type 0
IsWhere uses p Edge = IsOnEdge uses p
IsWhere uses p (Member member) = ¬ IsOnEdge uses p × IsLeastHolder uses p member
IsWhere uses p Nowhere = ¬ IsOnEdge uses p × IsHeldByNone uses p
