-- The laws of parts and of the rings round them.
use Rattle.std.specs.Prelude.{◌≡◌, ◌↔◌, ℕ, Bool, true, not, List, ◌∷◌, map, reverse, flat_map, All, AllPairs, Contains, IsTrue, count_by}
use Rattle.cov_types.specs.declared.seg.Seg.{Seg}
use Rattle.cov_types.specs.Coord.{is_before}
use Rattle.plane.specs.Joined.{IsOff, Joined}
use Rattle.plane.specs.Parity.{holds}
use Rattle.plane.specs.Point.{Point}
use Rattle.plane.specs.Region.{IsOuterRegion, IsRegionOf}
use Rattle.crossing_laws.specs.Crossing.{HaveEvenEnds}
use Rattle.sector_laws.specs.Sector.{HalfEdge, origin, left, twin, is_before_by_angle, IsNext, AreDistinct, IsPlanar}
use Rattle.shell_laws.specs.Part.{IsPartTest, part_boundary, IsTurn, IsWayRound}
use Rattle.shell_laws.specs.Ring.{way_edges, IsRingRound, AreRings, ring_holds, is_within, last_of, IsInPart, IsWalkOutside}

-- of two half-edges that follow one another round a part, distinct edges of its boundary with even ends have both or neither
abbrev pub WholeLaw : Type 0
WholeLaw = (edges : List Seg) → IsPlanar edges → (passes : HalfEdge → Bool) → IsPartTest edges passes → (h g : HalfEdge) → passes h ≡ true → passes g ≡ true → IsTurn (part_boundary edges passes) h g
    → (some : List Seg) → AreDistinct some → ((e : Seg) → Contains some e → Contains (part_boundary edges passes) e) → HaveEvenEnds some → Contains some h.edge ↔ Contains some g.edge

-- so a way round a part passes no vertex twice
abbrev pub SimpleLaw : Type 0
SimpleLaw = (edges : List Seg) → IsPlanar edges → (passes : HalfEdge → Bool) → IsPartTest edges passes → (way : List HalfEdge) → IsWayRound edges passes way → AllPairs (λ h g. ¬ (origin h ≡ origin g)) way

-- sides that are joined round the boundary alone are both in the part or both out
abbrev pub OutsideLaw : Type 0
OutsideLaw = (edges : List Seg) → IsPlanar edges → AreDistinct edges → (passes : HalfEdge → Bool) → IsPartTest edges passes → (h g : HalfEdge) → Contains edges h.edge → Contains edges g.edge
    → Joined (part_boundary edges passes) (left h) (left g) → passes h ≡ passes g

-- the test tells the region
pub record TellsRegion (edges : List Seg) (r : ℕ) (passes : HalfEdge → Bool) : Type 0 where
  pub part : IsPartTest edges passes
  pub is : (h : HalfEdge) → Contains edges h.edge → (passes h ≡ true) ↔ IsRegionOf edges (left h) r

-- a region that is not outer is a part
abbrev pub RegionPartLaw : Type 0
RegionPartLaw = (edges : List Seg) → IsPlanar edges → AreDistinct edges → (r : ℕ) → ¬ IsOuterRegion edges r → (passes : HalfEdge → Bool) × TellsRegion edges r passes

-- round the boundary alone the next half-edge of one with the part on the right has it on the right
abbrev pub NextOutsideLaw : Type 0
NextOutsideLaw = (edges : List Seg) → IsPlanar edges → AreDistinct edges → (passes : HalfEdge → Bool) → IsPartTest edges passes → (f g : HalfEdge) → IsNext (part_boundary edges passes) f g
    → passes (twin f) ≡ true → passes (twin g) ≡ true

-- a walk round a part from outside, by next half-edges, is a ring round it when it is taken back
abbrev pub WalkOutsideLaw : Type 0
WalkOutsideLaw = (edges : List Seg) (passes : HalfEdge → Bool) (f : HalfEdge) (walk : List HalfEdge) → IsWalkOutside edges passes f walk → IsRingRound edges passes (reverse (map twin (f ∷ walk)))

-- a ring round a part holds all of the part or none of it
abbrev pub AllOrNoneLaw : Type 0
AllOrNoneLaw = (edges : List Seg) → IsPlanar edges → (passes : HalfEdge → Bool) → IsPartTest edges passes → (ring : List HalfEdge) → IsRingRound edges passes ring
    → (h g : HalfEdge) → Contains edges h.edge → Contains edges g.edge → passes h ≡ true → passes g ≡ true → ring_holds ring (left h) ≡ ring_holds ring (left g)

-- and exactly one of the rings of a part holds it
abbrev pub OneShellLaw : Type 0
OneShellLaw = (edges : List Seg) → IsPlanar edges → AreDistinct edges → (passes : HalfEdge → Bool) → IsPartTest edges passes → (rings : List (List HalfEdge)) → AreRings edges passes rings
    → (h : HalfEdge) → Contains edges h.edge → passes h ≡ true → count_by (λ ring. ring_holds ring (left h)) rings ≡ 1

-- a ring that begins at its least vertex is the shell exactly where the way back along its last half-edge does not come before its first half-edge by angle
abbrev pub LeastVertexLaw : Type 0
LeastVertexLaw = (edges : List Seg) → IsPlanar edges → (passes : HalfEdge → Bool) → IsPartTest edges passes → (h : HalfEdge) (way : List HalfEdge) → IsRingRound edges passes (h ∷ way)
    → All (λ k. IsTrue (is_before (origin h) (origin k))) way
    → (g : HalfEdge) → Contains edges g.edge → passes g ≡ true → ring_holds (h ∷ way) (left g) ≡ not (is_before_by_angle (twin (last_of h way)) h)

-- the first of the part's rings is its shell
pub record HasShellFirst (edges : List Seg) (passes : HalfEdge → Bool) (shell : List HalfEdge) (holes : List (List HalfEdge)) : Type 0 where
  pub rings : AreRings edges passes (shell ∷ holes)
  pub side : HalfEdge
  pub among : Contains edges side.edge
  pub inside : passes side ≡ true
  pub held : ring_holds shell (left side) ≡ true

-- off the edges a point is in the part exactly where it is in the shell and in no hole
abbrev pub InPartLaw : Type 0
InPartLaw = (edges : List Seg) → IsPlanar edges → AreDistinct edges → (passes : HalfEdge → Bool) → IsPartTest edges passes → (shell : List HalfEdge) (holes : List (List HalfEdge))
    → HasShellFirst edges passes shell holes → (p : Point) → IsOff edges p → IsInPart edges passes p ↔ (is_within shell holes p ≡ true)

-- and exactly where the edges of all its rings hold it
abbrev pub PartEvenOddLaw : Type 0
PartEvenOddLaw = (edges : List Seg) → IsPlanar edges → AreDistinct edges → (passes : HalfEdge → Bool) → IsPartTest edges passes → (shell : List HalfEdge) (holes : List (List HalfEdge))
    → HasShellFirst edges passes shell holes → (p : Point) → IsOff edges p → holds (flat_map way_edges (shell ∷ holes)) p ≡ is_within shell holes p
