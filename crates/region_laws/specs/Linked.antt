-- How sides of edges are linked: to the side that follows, and down the ray to the edge below.
use Rattle.std.specs.Prelude.{◌≡◌, ◌⊎◌, ℕ, Bool, true, false, IsTrue, List}
use Rattle.cov_types.specs.declared.coord.Coord.{Coord}
use Rattle.cov_types.specs.declared.seg.Seg.{Seg}
use Rattle.cov_types.specs.Coord.{is_before}
use Rattle.plane.specs.Point.{Point, at_coord}
use Rattle.plane.specs.Joined.{Joined}
use Rattle.plane.specs.Region.{IsSide}
use Rattle.sector_laws.specs.Sector.{HalfEdge, origin, twin, is_before_by_angle, IsHalfEdge, IsNext, IsNextNumber}
use Rattle.region_laws.specs.Below.{IsNearestBelow, HasNoneBelow}

-- g follows h, and the sector from g counter-clockwise to the twin of h has the way straight down the ray in it
pub record IsOverRay (edges : List Seg) (h g : HalfEdge) : Type 0 where
  pub follows : IsNext edges h g
  pub past_down : is_before_by_angle g (twin h) ≡ false

-- the sector on the left of g, where it leaves v, has the way straight down the ray in it
pub record LeavesOverRay (edges : List Seg) (v : Coord) (g : HalfEdge) : Type 0 where
  pub before : HalfEdge
  pub over : IsOverRay edges before g
  pub from : origin g ≡ v

-- the half-edge with the number n leaves v so
pub record IsNumberOverRay (edges : List Seg) (n : ℕ) (v : Coord) : Type 0 where
  pub half_edge : HalfEdge
  pub is : IsHalfEdge edges n half_edge
  pub leaves : LeavesOverRay edges v half_edge

-- from the side n a link leads down the ray to the side m: the upper side of the nearest edge below the vertex of n
pub record IsLinkDown (edges : List Seg) (n m : ℕ) : Type 0 where
  pub vertex : Coord
  pub from : IsNumberOverRay edges n vertex
  pub edge : Seg
  pub nearest : IsNearestBelow edges (at_coord vertex) edge
  pub to : IsHalfEdge edges m (record { edge = edge; forwards = true })

-- from the side n a link leads down the ray past the range
pub record IsLinkOut (edges : List Seg) (n : ℕ) : Type 0 where
  pub vertex : Coord
  pub from : IsNumberOverRay edges n vertex
  pub none : HasNoneBelow edges (at_coord vertex)

-- the sides follow one another, or a link leads from the first down to the second, or from both past the range
abbrev pub IsLinked : List Seg → ℕ → ℕ → Type 0
IsLinked edges n m = IsNextNumber edges n m ⊎ (IsLinkDown edges n m ⊎ (IsLinkOut edges n × IsLinkOut edges m))

-- the half-edge with the number n leaves v
pub record IsNumberFrom (edges : List Seg) (n : ℕ) (v : Coord) : Type 0 where
  pub half_edge : HalfEdge
  pub is : IsHalfEdge edges n half_edge
  pub from : origin half_edge ≡ v

-- a side that leaves an earlier vertex than v has the number of the side n, and a side point that is joined with that of n
pub record HasEarlier (edges : List Seg) (number : ℕ → ℕ) (n : ℕ) (v : Coord) : Type 0 where
  pub side : ℕ
  pub vertex : Coord
  pub from : IsNumberFrom edges side vertex
  pub earlier : IsTrue (is_before vertex v)
  pub same : number n ≡ number side
  pub joined : (p q : Point) → IsSide edges n p → IsSide edges side q → Joined edges p q

-- the side n, which leaves v over the ray, has the number of the side that a link down leads to, or that of the outer region where none is below v
pub record IsTiedDown (edges : List Seg) (number : ℕ → ℕ) (outer n : ℕ) (v : Coord) : Type 0 where
  pub down : (e : Seg) (m : ℕ) → IsNearestBelow edges (at_coord v) e → IsHalfEdge edges m (record { edge = e; forwards = true }) → number n ≡ number m
  pub out : HasNoneBelow edges (at_coord v) → number n ≡ outer

-- the numbers are the same along next, and each side that leaves a vertex over the ray is tied down, or has an earlier side
pub record IsWalk (edges : List Seg) (number : ℕ → ℕ) (outer : ℕ) : Type 0 where
  pub next : (n m : ℕ) → IsNextNumber edges n m → number n ≡ number m
  pub over : (n : ℕ) (v : Coord) → IsNumberOverRay edges n v → HasEarlier edges number n v ⊎ IsTiedDown edges number outer n v

-- the test is the same on the left of half-edges that follow one another, along each link down, and at all links past the range
pub record IsKept (edges : List Seg) (passes : HalfEdge → Bool) : Type 0 where
  pub next : (h g : HalfEdge) → IsNext edges h g → passes h ≡ passes g
  pub down : (v : Coord) (g : HalfEdge) → LeavesOverRay edges v g → (e : Seg) → IsNearestBelow edges (at_coord v) e → passes g ≡ passes (record { edge = e; forwards = true })
  pub out : (v w : Coord) (g h : HalfEdge) → LeavesOverRay edges v g → HasNoneBelow edges (at_coord v) → LeavesOverRay edges w h → HasNoneBelow edges (at_coord w) → passes g ≡ passes h
