-- The laws on which a search for the clearance of a gap by blocks of grid points stands.
use Rattle.std.specs.Prelude.{ℕ, ◌+◌, ◌*◌, ◌≤◌, ◌<◌, ◌≡◌, ◌↔◌, ◌⊎◌, Bool, List, [], ◌∷◌, Contains, ℤ, pos, ◌+ℤ◌, ◌-ℤ◌, ◌*ℤ◌, ◌≤ℤ◌, ◌<ℤ◌}
use Rattle.cov_types.specs.declared.coord.Coord.{Coord}
use Rattle.cov_types.specs.declared.seg.Seg.{Seg}
use Rattle.plane.specs.Point.{Point, at_coord}
use Rattle.plane.specs.Region.{IsOuterRegion, IsRegionOf}
use Rattle.plane.specs.Segment.{upper, lower}
use Rattle.crossing_laws.specs.Crossing.{crossing_sum}
use Rattle.sector_laws.specs.Sector.{HalfEdge, AreDistinct, IsPlanar}
use Rattle.region_laws.specs.Weights.{weigh_sides}
use Rattle.region_owners.specs.Box.{IsEdgeOf}
use Rattle.clearance_laws.specs.Inside.{half_point, edges_beside, TellsSides, IsOffOwn}
use Rattle.clearance_laws.specs.Near.{IsNear, IsAsFar}
use Rattle.clearance_laws.specs.Block.{IsInBlock, centre, AtCorners}
use Rattle.clearance_laws.specs.Facing.{IsBeside, IsShallow, AreFacing, IsFront, IsLeastDepth}
use Rattle.distance_laws.specs.Room.{doubled, half_side, squared_length, HasHalfRoom}

-- where c has room r + s, each point within s of it has room r
abbrev pub LipschitzLaw : Type 0
LipschitzLaw = (c q : Coord) (r s : ℕ) (e : Seg) → IsNear c q s → HasHalfRoom c (r + s) e → HasHalfRoom q r e

-- so where c has no room r + 1, no point within s of it has more room than r + s
abbrev pub RoomBoundLaw : Type 0
RoomBoundLaw = (c q : Coord) (r s v : ℕ) (f : Seg) → IsNear c q s → ¬ HasHalfRoom c (r + 1) f → HasHalfRoom q v f → v ≤ r + s

-- an edge from which c has room r + 1 + 2·s, where it has no room r + 1 from another, is not needed for the points within s of c: what room they have from the other they have from it
abbrev pub HandingDownLaw : Type 0
HandingDownLaw = (c q : Coord) (r s w : ℕ) (e f : Seg) → IsNear c q s → ¬ HasHalfRoom c (r + 1) f → HasHalfRoom c (r + 1 + 2 * s) e → HasHalfRoom q w f → HasHalfRoom q w e

-- nor is it for whatever else is said of the points within s of c: that they are n/m far from an edge, by squares
abbrev pub HandingDownFarLaw : Type 0
HandingDownFarLaw = (c q : Coord) (r s : ℕ) (n m : ℤ) (e f : Seg) → IsNear c q s → ¬ HasHalfRoom c (r + 1) f → HasHalfRoom c (r + 1 + 2 * s) e → pos 0 <ℤ m → IsAsFar q n m f → IsAsFar q n m e

-- a grid point is in a region where the point that its doubled coordinates stand for is
abbrev pub HalfPointLaw : Type 0
HalfPointLaw = (edges : List Seg) (q : Coord) (r : ℕ) → IsRegionOf edges (at_coord q) r ↔ IsRegionOf edges (half_point (doubled q)) r

-- of two points within s of each other, one in the region and the other not, with room v and w from the region's own edges: v + w is at most s
abbrev pub OutsideRoomLaw : Type 0
OutsideRoomLaw = (edges : List Seg) → IsPlanar edges → AreDistinct edges → (r : ℕ) → ¬ IsOuterRegion edges r
    → (a b : Coord) (s v w : ℕ) → IsNear a b s → IsRegionOf edges (half_point a) r → ¬ IsRegionOf edges (half_point b) r
    → ((e : Seg) → IsEdgeOf edges r e → HasHalfRoom a v e) → ((e : Seg) → IsEdgeOf edges r e → HasHalfRoom b w e) → v + w ≤ s

-- so where a point of the region has more room than s from these, all points within s of it are in the region
abbrev pub StaysInsideLaw : Type 0
StaysInsideLaw = (edges : List Seg) → IsPlanar edges → AreDistinct edges → (r : ℕ) → ¬ IsOuterRegion edges r
    → (a b : Coord) (s v : ℕ) → IsNear a b s → IsRegionOf edges (half_point a) r → s < v → ((e : Seg) → IsEdgeOf edges r e → HasHalfRoom a v e) → IsRegionOf edges (half_point b) r

-- a point of a region with its foot inside an own edge from which it is no further than from the others is on a side of that edge where the region is
abbrev pub NearestSideLaw : Type 0
NearestSideLaw = (edges : List Seg) → IsPlanar edges → AreDistinct edges → (r : ℕ) → ¬ IsOuterRegion edges r
    → (c : Coord) (e : Seg) → IsRegionOf edges (half_point c) r → Contains edges e → IsBeside c e
    → ((f : Seg) → IsEdgeOf edges r f → IsAsFar c (half_side c e *ℤ half_side c e) (squared_length e) f)
    → (pos 0 <ℤ half_side c e → IsRegionOf edges (upper e) r) × (half_side c e <ℤ pos 0 → IsRegionOf edges (lower e) r)

-- all own edges are as far from q as those of a list
abbrev pub AreAsFarAs : List Seg → ℕ → Coord → List Seg → Type 0
AreAsFarAs edges r q few = (n m : ℤ) → pos 0 <ℤ m → ((f : Seg) → Contains few f → IsAsFar q n m f) → (g : Seg) → IsEdgeOf edges r g → IsAsFar q n m g

-- so where the own edge that is nearest to a grid point of the region is known, and no corner of a block is as deep from it as a grid point with room w is, the point has no room w in the block
abbrev pub AloneLaw : Type 0
AloneLaw = (edges : List Seg) → IsPlanar edges → AreDistinct edges → (r : ℕ) → ¬ IsOuterRegion edges r
    → (lo hi q : Coord) → IsInBlock lo hi (doubled q) → IsRegionOf edges (half_point (doubled q)) r → (w : ℕ) → 1 ≤ w → (k : ℤ) (e : Seg) (m : ℤ) → AtCorners lo hi (IsShallow k e m)
    → IsLeastDepth w e m → IsFront edges r k e → Contains edges e → AreAsFarAs edges r (doubled q) (e ∷ []) → ¬ HasHalfRoom (doubled q) w e

-- nor where it is one of two that face each other too closely there
abbrev pub FacingLaw : Type 0
FacingLaw = (edges : List Seg) → IsPlanar edges → AreDistinct edges → (r : ℕ) → ¬ IsOuterRegion edges r
    → (lo hi q : Coord) → IsInBlock lo hi (doubled q) → IsRegionOf edges (half_point (doubled q)) r → (w : ℕ) → 1 ≤ w → (k : ℤ) (e : Seg) (m l : ℤ) (f : Seg) (n : ℤ) → AtCorners lo hi (AreFacing k e m l f n)
    → IsLeastDepth w e m → IsLeastDepth w f n → IsFront edges r k e → IsFront edges r l f → Contains edges e → Contains edges f → AreAsFarAs edges r (doubled q) (e ∷ f ∷ [])
    → ¬ (HasHalfRoom (doubled q) w e × HasHalfRoom (doubled q) w f)

-- a point off the region's own edges is in it where these weigh 1 over it; an edge that has not the region on just one side weighs 0, so other edges do not count
abbrev pub InsideLaw : Type 0
InsideLaw = (edges : List Seg) → IsPlanar edges → AreDistinct edges → (r : ℕ) → ¬ IsOuterRegion edges r → (passes : HalfEdge → Bool) → TellsSides edges r passes
    → (p : Point) → IsOffOwn edges r p → IsRegionOf edges p r ↔ (crossing_sum (weigh_sides passes edges) p ≡ pos 1)

-- so the sum is one over the edges with the region on a side alone
abbrev pub BesideSumLaw : Type 0
BesideSumLaw = (passes : HalfEdge → Bool) (edges : List Seg) (p : Point) → crossing_sum (weigh_sides passes (edges_beside passes edges)) p ≡ crossing_sum (weigh_sides passes edges) p

-- a block is covered by what is up to m in it and what is past m: each grid point of it is in one of the two
abbrev pub AcrossLaw : Type 0
AcrossLaw = (lo hi q : Coord) (m : ℤ) → IsInBlock lo hi (doubled q) → IsInBlock lo (record { x = m; y = hi.y }) (doubled q) ⊎ IsInBlock (record { x = m +ℤ pos 1; y = lo.y }) hi (doubled q)

-- and so upwards
abbrev pub UpwardsLaw : Type 0
UpwardsLaw = (lo hi q : Coord) (m : ℤ) → IsInBlock lo hi (doubled q) → IsInBlock lo (record { x = hi.x; y = m }) (doubled q) ⊎ IsInBlock (record { x = lo.x; y = m +ℤ pos 1 }) hi (doubled q)

-- each point of the half grid that is in a part of a block is in the block
abbrev pub InWholeLaw : Type 0
InWholeLaw = (lo hi a b c : Coord) → lo.x ≤ℤ a.x → lo.y ≤ℤ a.y → b.x ≤ℤ hi.x → b.y ≤ℤ hi.y → IsInBlock a b c → IsInBlock lo hi c

-- each point of a block is within s of its centre, where s is half a diagonal or more
abbrev pub NearCentreLaw : Type 0
NearCentreLaw = (lo hi : Coord) (s : ℕ) (c : Coord) → (((hi.x -ℤ lo.x) *ℤ (hi.x -ℤ lo.x)) +ℤ ((hi.y -ℤ lo.y) *ℤ (hi.y -ℤ lo.y))) ≤ℤ pos (s * s) → IsInBlock lo hi c → IsNear (centre lo hi) c s
