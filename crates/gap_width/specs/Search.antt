-- What a search by blocks of grid points knows.
use Rattle.std.specs.Prelude.{◌≡◌, ℕ, cond, ◌+◌, ◌*◌, ◌^◌, ◌≤◌, ◌<◌, ◌⊎◌, List, filter, nat_lt, Option, Some, None, IsTrue, Contains, ℤ, pos, neg_ℤ, unsigned_abs, ◌-ℤ◌, ◌≤ℤ◌, ◌<ℤ◌}
use Rattle.cov_types.specs.declared.coord.Coord.{Coord}
use Rattle.cov_types.specs.declared.coord.TheConstants.{LIMIT}
use Rattle.cov_types.specs.declared.seg.Seg.{Seg}
use Rattle.plane.specs.Point.{at_coord}
use Rattle.plane.specs.Region.{IsRegionOf}
use Rattle.distance_laws.specs.Room.{HasRoom, HasHalfRoom, doubled, reach}
use Rattle.region_owners.specs.Box.{IsEdgeOf}
use Rattle.region_owners.specs.Gap.{HasRoomWithin}
use Rattle.clearance_laws.specs.Inside.{half_point}
use Rattle.clearance_laws.specs.Block.{IsInBlock, centre}
use Rattle.clearance_laws.specs.Near.{IsAsFar}
use Rattle.gap_width.specs.declared.own.OwnEdge.{OwnEdge}
use Rattle.gap_width.specs.declared.block.Block.{Block}
use Rattle.gap_width.specs.declared.near.Measured.{Measured}
use Rattle.gap_width.specs.Own.{edges_in}

-- the block has grid points, all of them in range
pub record IsBlock (b : Block) : Type 0 where
  pub left : (neg_ℤ LIMIT) ≤ℤ b.lo.x
  pub across : b.lo.x ≤ℤ b.hi.x
  pub right : b.hi.x ≤ℤ LIMIT
  pub bottom : (neg_ℤ LIMIT) ≤ℤ b.lo.y
  pub upwards : b.lo.y ≤ℤ b.hi.y
  pub top : b.hi.y ≤ℤ LIMIT

-- how far it is from its least corner to its greatest along the axes
abbrev pub size : Block → ℕ
size b = unsigned_abs (b.hi.x -ℤ b.lo.x) + unsigned_abs (b.hi.y -ℤ b.lo.y)

-- c is in the block
abbrev pub IsWithinBlock : Block → Coord → Type 0
IsWithinBlock b c = IsInBlock b.lo b.hi c

-- the grid point is in the block that there is
abbrev pub IsInSome : Option Block → Coord → Type 0
IsInSome None q = ⊥
IsInSome (Some b) q = IsWithinBlock b (doubled q)

-- a and b are smaller blocks in s, and each grid point of s is in one of them; as much is known of them
pub record AreHalves (s a b : Block) : Type 0 where
  pub first : (c : Coord) → IsWithinBlock a c → IsWithinBlock s c
  pub second : (c : Coord) → IsWithinBlock b c → IsWithinBlock s c
  pub cover : (q : Coord) → IsWithinBlock s (doubled q) → IsWithinBlock a (doubled q) ⊎ IsWithinBlock b (doubled q)
  pub first_inside : a.inside ≡ s.inside
  pub second_inside : b.inside ≡ s.inside
  pub first_less : size a < size s
  pub second_less : size b < size s

-- of the edges of own, near has all that can be nearest to a point of the block, and each with all that own has of its segment
pub record StandFor (own near : List OwnEdge) (s : Block) : Type 0 where
  pub among : (e : Seg) → Contains (edges_in near) e → Contains (edges_in own) e
  pub room : (c : Coord) (w : ℕ) → IsWithinBlock s c → ((e : Seg) → Contains (edges_in near) e → HasHalfRoom c w e) → (e : Seg) → Contains (edges_in own) e → HasHalfRoom c w e
  pub far : (c : Coord) (n m : ℤ) → pos 0 <ℤ m → IsWithinBlock s c → ((e : Seg) → Contains (edges_in near) e → IsAsFar c n m e) → (e : Seg) → Contains (edges_in own) e → IsAsFar c n m e
  pub twins : (o p : OwnEdge) → Contains own o → Contains near p → o.edge ≡ p.edge → Contains near o

-- where the block is known to be inside, its points are in the region
abbrev pub IsKnown : List Seg → ℕ → Block → Type 0
IsKnown edges r s = IsTrue s.inside → (c : Coord) → IsWithinBlock s c → IsRegionOf edges (half_point c) r

-- a point of the half grid has this room from these edges, rounded down
pub record IsRoom (near : List OwnEdge) (c : Coord) (room : ℕ) : Type 0 where
  pub each : (e : Seg) → Contains (edges_in near) e → HasHalfRoom c room e
  pub nearest : Seg
  pub among : Contains (edges_in near) nearest
  pub no_more : ¬ HasHalfRoom c (room + 1) nearest

-- the least reach of a point of the half grid from these edges
pub record IsLeastReach (near : List OwnEdge) (c : Coord) (least : ℕ) : Type 0 where
  pub each : (o : OwnEdge) → Contains near o → least ≤ reach c o.edge
  pub some : (o : OwnEdge) × (Contains near o × (reach c o.edge ≡ least))

-- a block with the room of its centre from these edges
pub record IsMeasured (near : List OwnEdge) (m : Measured) : Type 0 where
  pub block : IsBlock m.block
  pub room : IsRoom near (centre m.block.lo m.block.hi) m.room
  pub small : m.room ≤ 3 * 2 ^ 29

-- these are the edges, or those of them from which c has not this room
abbrev pub AreFewer : List OwnEdge → Coord → ℕ → List OwnEdge → Type 0
AreFewer near c room fewer = (fewer ≡ near) ⊎ (fewer ≡ filter (λ o. nat_lt (reach c o.edge) (room * room)) near)

-- the greater of best and the room of the grid points of the block in the region, or enough or more of that
pub record IsBest (edges : List Seg) (r enough : ℕ) (s : Block) (best found : ℕ) : Type 0 where
  pub no_less : best ≤ found
  pub reached : best < found → HasRoomWithin edges r found
  pub greatest : found < enough → (q : Coord) (w : ℕ) → IsWithinBlock s (doubled q) → IsRegionOf edges (at_coord q) r
      → ((e : Seg) → IsEdgeOf edges r e → HasRoom q w e) → w ≤ found

-- a search of all blocks is asked for the most, up to enough of it, and one that leaves fine blocks out for nothing
abbrev pub asked_for : ℕ → ℕ → ℕ
asked_for finest enough = cond (nat_lt 0 finest) 0 enough

-- the greater of best and the room of the region's grid points, or enough or more of that
pub record IsMost (edges : List Seg) (r enough best found : ℕ) : Type 0 where
  pub no_less : best ≤ found
  pub reached : best < found → HasRoomWithin edges r found
  pub greatest : found < enough → (w : ℕ) → HasRoomWithin edges r w → w ≤ found
