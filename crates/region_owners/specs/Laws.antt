-- The laws that make the definitions of gaps and owners believable.
use Rattle.std.specs.Prelude.{◌≡◌, ℕ, ◌<◌, ◌↔◌, nat_lt, int_lt, Bool, IsTrue, List, length, All, AllPairs, Contains, Option, Some}
use Rattle.std.specs.List.{IsFirstBest}
use Rattle.cov_types.specs.declared.coord.Coord.{Coord}
use Rattle.cov_types.specs.declared.seg.Seg.{Seg}
use Rattle.plane.specs.Point.{Point, at_coord}
use Rattle.plane.specs.Ray.{is_over}
use Rattle.plane.specs.Region.{IsOuterRegion, IsRegionOf}
use Rattle.sector_laws.specs.Sector.{AreDistinct, IsPlanar}
use Rattle.region_laws.specs.Below.{is_under}
use Rattle.arrangement.specs.Live.{IsLiveOverlay}
use Rattle.arrangement.specs.Measure.{owned_border}
use Rattle.arrangement.specs.Overlay.{Overlay, IsRegion, label_of}
use Rattle.region_owners.specs.declared.candidate.Candidate.{Candidate}
use Rattle.region_owners.specs.Box.{IsEdgeOf, IsInBoxOf}
use Rattle.distance_laws.specs.Room.{HasRoom}
use Rattle.region_owners.specs.Gap.{IsGap, HasRoomWithin, IsClearance, IsNarrow}
use Rattle.region_owners.specs.Owner.{Rule, rule_by, IsLawful, least_index, greatest_area, least_area, longest_border, label_owner, neighbour_of, IsNarrowGap, IsOwner, AreOwners}
use Rattle.region_owners.specs.Candidates.{candidates_of}

-- ---- clearances

-- a region has one clearance at most
abbrev pub ClearanceLaw : Type 0
ClearanceLaw = (edges : List Seg) (r v w : ℕ) → IsClearance edges r v → IsClearance edges r w → v ≡ w

-- and is narrow at w where w is past its clearance
abbrev pub NarrowLaw : Type 0
NarrowLaw = (edges : List Seg) (r c w : ℕ) → IsClearance edges r c → IsNarrow edges r w ↔ (c < w)

-- ---- the edges of a region

-- a region that is not outer has an edge of its own under each of its points
abbrev pub EdgeUnderLaw : Type 0
EdgeUnderLaw = (edges : List Seg) → IsPlanar edges → AreDistinct edges → (r : ℕ) → ¬ IsOuterRegion edges r
    → (p : Point) → IsRegionOf edges p r → (e : Seg) × (IsEdgeOf edges r e × IsTrue (is_under e p))

-- and one over it
abbrev pub EdgeOverLaw : Type 0
EdgeOverLaw = (edges : List Seg) → IsPlanar edges → AreDistinct edges → (r : ℕ) → ¬ IsOuterRegion edges r
    → (p : Point) → IsRegionOf edges p r → (e : Seg) × (IsEdgeOf edges r e × IsTrue (is_over e p))

-- so its points are strictly inside the box of its edges
abbrev pub BoxLaw : Type 0
BoxLaw = (edges : List Seg) → IsPlanar edges → AreDistinct edges → (r : ℕ) → ¬ IsOuterRegion edges r → (p : Point) → IsRegionOf edges p r → IsInBoxOf edges r p

-- the grid point is in the region and has room w from every edge
pub record IsWithRoom (edges : List Seg) (r w : ℕ) (q : Coord) : Type 0 where
  pub within : IsRegionOf edges (at_coord q) r
  pub room : (e : Seg) → Contains edges e → HasRoom q w e

-- and a region that is not outer has a clearance, where a test tells the grid points with room
abbrev pub ClearanceExistsLaw : Type 0
ClearanceExistsLaw = (edges : List Seg) → IsPlanar edges → AreDistinct edges → (r : ℕ) → ¬ IsOuterRegion edges r
    → (has_room : Coord → ℕ → Bool) → ((q : Coord) (w : ℕ) → IsTrue (has_room q w) ↔ IsWithRoom edges r w q) → (w : ℕ) × IsClearance edges r w

-- ---- room among the edges of a region

-- only its own edges can be nearest to a grid point of the region: where these leave room round it, all edges do
abbrev pub OwnRoomLaw : Type 0
OwnRoomLaw = (edges : List Seg) → IsPlanar edges → AreDistinct edges → (r : ℕ) → ¬ IsOuterRegion edges r → (q : Coord) (w : ℕ) → IsRegionOf edges (at_coord q) r
    → ((e : Seg) → IsEdgeOf edges r e → HasRoom q w e) → (e : Seg) → Contains edges e → HasRoom q w e

-- some grid point of the region, in the box of its edges, has room w from each of them
pub record HasOwnRoomWithin (edges : List Seg) (r w : ℕ) : Type 0 where
  pub at : Coord
  pub within : IsRegionOf edges (at_coord at) r
  pub in_box : IsInBoxOf edges r (at_coord at)
  pub room : (e : Seg) → IsEdgeOf edges r e → HasRoom at w e

-- so room is searched for in this box, and measured from these edges
abbrev pub OwnSearchLaw : Type 0
OwnSearchLaw = (edges : List Seg) → IsPlanar edges → AreDistinct edges → (r : ℕ) → ¬ IsOuterRegion edges r → (w : ℕ) → HasRoomWithin edges r w ↔ HasOwnRoomWithin edges r w

-- ---- owners

-- of candidates, each of the four rules picks the first that is best
pub record ArePicks (candidates : List Candidate) : Type 0 where
  pub index : least_index candidates < length candidates
  pub greatest : IsFirstBest (λ c d. int_lt d.area2 c.area2) candidates (length candidates) (greatest_area candidates)
  pub least : IsFirstBest (λ c d. int_lt c.area2 d.area2) candidates (length candidates) (least_area candidates)
  pub longest : IsFirstBest (λ c d. nat_lt d.border c.border) candidates (length candidates) (longest_border candidates)

-- of one candidate or more, these are the picks
abbrev pub PickLaw : Type 0
PickLaw = (candidates : List Candidate) → 0 < length candidates → ArePicks candidates

-- the four rules are lawful, whatever the state
pub record AreLawful (State : Type 0) : Type 0 where
  pub index : IsLawful {State = State} (rule_by least_index)
  pub greatest : IsLawful {State = State} (rule_by greatest_area)
  pub least : IsLawful {State = State} (rule_by least_area)
  pub longest : IsLawful {State = State} (rule_by longest_border)

-- the candidates for a region ascend by member, and are the members of its label
pub record AreOrdered (o : Overlay) (r : ℕ) : Type 0 where
  pub ascending : AllPairs (λ c d. c.member < d.member) (candidates_of o r)
  pub below : All (λ c. c.member < o.members) (candidates_of o r)
  pub count : length (candidates_of o r) ≡ length (label_of o r)

-- and it is so for every region of every overlay
abbrev pub CandidateLaw : Type 0
CandidateLaw = (o : Overlay) (r : ℕ) → AreOrdered o r

-- a region that some member holds has an owner by a lawful rule, which is one of its members
abbrev pub LabelOwnerLaw : (State : Type 0) → Type 0
LabelOwnerLaw State = (rule : Rule State) (state : State) (o : Overlay) (r : ℕ) → IsLawful rule → 0 < length (label_of o r)
    → (i : ℕ) × ((label_owner rule state o r ≡ Some i) × Contains (label_of o r) i)

-- the member is the neighbour of the gap, with a border that is not 0
pub record IsNeighbour (o : Overlay) (owners : ℕ → Option ℕ) (r i : ℕ) : Type 0 where
  pub neighbour : neighbour_of o owners r ≡ Some i
  pub below : i < o.members
  pub border : 0 < owned_border o owners r i

-- a gap has a neighbour by a lawful rule: a member that owns a region beside it
abbrev pub NeighbourLaw : (State : Type 0) → Type 0
NeighbourLaw State = (rule : Rule State) (state : State) (o : Overlay) (r : ℕ) → IsLiveOverlay o → IsLawful rule → IsGap o r
    → (i : ℕ) × IsNeighbour o (label_owner rule state o) r i

-- a region has one owner at most
abbrev pub OwnerLaw : (State : Type 0) → Type 0
OwnerLaw State = (rule : Rule State) (state : State) (o : Overlay) (w r : ℕ) (a b : Option ℕ)
    → IsOwner rule state o w r a → IsOwner rule state o w r b → a ≡ b

-- owners are members
abbrev pub OwnerBelowLaw : (State : Type 0) → Type 0
OwnerBelowLaw State = (rule : Rule State) (state : State) (o : Overlay) (w r i : ℕ) → IsOwner rule state o w r (Some i) → i < o.members

-- owners exist, where a test tells the gaps that are narrow
abbrev pub OwnersLaw : (State : Type 0) → Type 0
OwnersLaw State = (rule : Rule State) (state : State) (o : Overlay) (w : ℕ) (narrow : ℕ → Bool)
    → ((r : ℕ) → IsRegion o.edges r → IsTrue (narrow r) ↔ IsNarrowGap o r w) → (owners : ℕ → Option ℕ) × AreOwners rule state o w owners

-- at the width 0 no gap is narrow, so each region has the owner that its label gives
abbrev pub NoWidthLaw : (State : Type 0) → Type 0
NoWidthLaw State = (rule : Rule State) (state : State) (o : Overlay) → AreOwners rule state o 0 (label_owner rule state o)
