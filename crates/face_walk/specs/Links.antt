-- Links between boundary cycles and the place past the range, whose number is that after the cycles.
use Rattle.std.specs.Prelude.{◌≡◌, ◌⊎◌, ℕ, ◌*◌, ◌<◌, List, length, Contains, IsTrue, Option, Some, None, IfSome, slice_get, slice_index, slice_index_or}
use Rattle.cov_types.specs.declared.coord.Coord.{Coord}
use Rattle.cov_types.specs.declared.seg.Seg.{Seg}
use Rattle.cov_types.specs.Coord.{is_before}
use Rattle.components.specs.declared.link.Link.{Link}
use Rattle.sector_laws.specs.Sector.{HalfEdge, origin, IsHalfEdge, IsNextNumber}
use Rattle.region_laws.specs.Linked.{IsNumberOverRay, IsLinkDown, IsLinkOut, IsNumberFrom}
use Rattle.face_walk.specs.declared.cycle.Cycle.{Cycle}

-- ---- the sides that are linked down

-- the half-edge with the number leaves a vertex over the ray
abbrev pub IsOver : List Seg → ℕ → Type 0
IsOver edges n = (v : Coord) × IsNumberOverRay edges n v

-- the first half-edge of the cycle of n leaves an earlier vertex than v
pub record HasEarlierFirst (edges : List Seg) (of : List ℕ) (list : List Cycle) (n : ℕ) (v : Coord) : Type 0 where
  pub cycle : Cycle
  pub at_place : slice_get list (slice_index of n) ≡ Some cycle
  pub vertex : Coord
  pub from : IsNumberFrom edges cycle.first vertex
  pub earlier : IsTrue (is_before vertex v)

-- the answer is the side that follows h, where it leaves a vertex over the ray, unless the first of its cycle leaves an earlier one
pub record AnswersOverRay (edges : List Seg) (of : List ℕ) (list : List Cycle) (h : ℕ) (answer : Option ℕ) : Type 0 where
  pub sound : IfSome answer (IsOver edges)
  pub complete : (n : ℕ) (v : Coord) → IsNextNumber edges h n → IsNumberOverRay edges n v → HasEarlierFirst edges of list n v ⊎ (answer ≡ Some n)

-- the sides leave vertices over the ray, and all are there that do, unless the first of their cycle leaves an earlier one
pub record AreOverRay (edges : List Seg) (of : List ℕ) (list : List Cycle) (sides : List ℕ) : Type 0 where
  pub sound : (n : ℕ) → Contains sides n → IsOver edges n
  pub complete : (n : ℕ) (v : Coord) → IsNumberOverRay edges n v → HasEarlierFirst edges of list n v ⊎ Contains sides n

-- v is where the half-edge begins
abbrev pub BeginsAt : List Seg → ℕ → Coord → Type 0
BeginsAt edges h v = (g : HalfEdge) → IsHalfEdge edges h g → v ≡ origin g

-- the vertices are those where the half-edges begin
pub record AreVertices (edges : List Seg) (sides : List ℕ) (vertices : List Coord) : Type 0 where
  pub count : length vertices ≡ length sides
  pub each : (i n : ℕ) (v : Coord) → slice_get sides i ≡ Some n → slice_get vertices i ≡ Some v → BeginsAt edges n v

-- ---- where the links lead

-- a link leads from the side n down the ray to the place m: a side, or the place past the range, whose number is that after the sides
abbrev pub IsLinkBelow : List Seg → ℕ → ℕ → Type 0
IsLinkBelow edges n m = IsLinkDown edges n m ⊎ (IsLinkOut edges n × (m ≡ 2 * length edges))

-- the edge is one of the list, if there is one
abbrev pub IsPlaceWithin : List Seg → Option ℕ → Type 0
IsPlaceWithin edges edge = IfSome edge (λ k. k < length edges)

-- the upper side of the edge, or the place past the range
abbrev pub place_below : List Seg → Option ℕ → ℕ
place_below edges (Some k) = 2 * k
place_below edges None = 2 * length edges

-- the number of the cycle that has the place, or of the place past the range
abbrev pub node_of : List ℕ → List Cycle → ℕ → ℕ
node_of of list n = slice_index_or of n (length list)

-- the link from the cycle of the side to that of the upper side of the edge, or to the place past the range
abbrev pub link_of : List Seg → List ℕ → List Cycle → ℕ → Option ℕ → Link
link_of edges of list n edge = record { from = node_of of list n; to = node_of of list (place_below edges edge) }

-- for each side there is the link to the edge below it
pub record AreLinksOf (edges : List Seg) (of : List ℕ) (list : List Cycle) (sides : List ℕ) (below : List (Option ℕ)) (links : List Link) : Type 0 where
  pub count : length links ≡ length sides
  pub each : (i n : ℕ) (edge : Option ℕ) (link : Link) → slice_get sides i ≡ Some n → slice_get below i ≡ Some edge → slice_get links i ≡ Some link → link ≡ link_of edges of list n edge

-- the link leads from the cycle of a side to that of the place below it
pub record IsCycleLink (edges : List Seg) (of : List ℕ) (list : List Cycle) (link : Link) : Type 0 where
  pub side : ℕ
  pub place : ℕ
  pub below : IsLinkBelow edges side place
  pub from : link.from ≡ node_of of list side
  pub to : link.to ≡ node_of of list place

-- each link is such a one, and a side that leaves a vertex over the ray has its link down, unless the first of its cycle leaves an earlier vertex
pub record AreLinks (edges : List Seg) (of : List ℕ) (list : List Cycle) (links : List Link) : Type 0 where
  pub sound : (link : Link) → Contains links link → IsCycleLink edges of list link
  pub down : (n : ℕ) (v : Coord) → IsNumberOverRay edges n v
      → HasEarlierFirst edges of list n v ⊎ ((m : ℕ) → IsLinkBelow edges n m → Contains links (record { from = node_of of list n; to = node_of of list m }))
