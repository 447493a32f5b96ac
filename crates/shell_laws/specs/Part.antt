-- Parts of regions, as tests on half-edges, their boundaries, and what follows round them.
use Rattle.std.specs.Prelude.{◌≡◌, Bool, true, false, not, cond, List, [], ◌∷◌, filter, All, AllPairs, Contains, ⊤}
use Rattle.cov_types.specs.declared.seg.Seg.{Seg}
use Rattle.plane.specs.Joined.{Joined}
use Rattle.plane.specs.Region.{IsOuter}
use Rattle.sector_laws.specs.Sector.{HalfEdge, left, twin, IsNext}

-- the half-edges of the way lead from h to g: over joined side points, and across edges with the part on both sides
abbrev pub LeadsAcross : List Seg → (HalfEdge → Bool) → HalfEdge → List HalfEdge → HalfEdge → Type 0
LeadsAcross edges passes h [] g = Joined edges (left h) (left g)
LeadsAcross edges passes h (k ∷ way) g =
    Joined edges (left h) (left k) × Contains edges k.edge × (passes k ≡ true) × (passes (twin k) ≡ true) × LeadsAcross edges passes (twin k) way g

-- the test tells a part: whether it is on the left of a half-edge. It is the same at joined side points, false outside, and connected
pub record IsPartTest (edges : List Seg) (passes : HalfEdge → Bool) : Type 0 where
  pub same : (h g : HalfEdge) → Contains edges h.edge → Contains edges g.edge → Joined edges (left h) (left g) → passes h ≡ passes g
  pub outside : (h : HalfEdge) → Contains edges h.edge → IsOuter edges (left h) → passes h ≡ false
  pub connected : (h g : HalfEdge) → Contains edges h.edge → Contains edges g.edge → passes h ≡ true → passes g ≡ true
      → (way : List HalfEdge) × LeadsAcross edges passes h way g

-- the part is on exactly one side of the edge
abbrev pub is_part_border : (HalfEdge → Bool) → Seg → Bool
is_part_border passes e = cond (passes (record { edge = e; forwards = true })) (not (passes (record { edge = e; forwards = false }))) (passes (record { edge = e; forwards = false }))

-- the boundary of the part
abbrev pub part_boundary : List Seg → (HalfEdge → Bool) → List Seg
part_boundary edges passes = filter (is_part_border passes) edges

-- g follows h round the part on their left: no edge of the boundary leaves within the angle on their right
abbrev pub IsTurn : List Seg → HalfEdge → HalfEdge → Type 0
IsTurn boundary h g = IsNext boundary (twin g) (twin h)

-- each half-edge turns to the next
abbrev pub AreTurns : List Seg → List HalfEdge → Type 0
AreTurns boundary [] = ⊤
AreTurns boundary (h ∷ []) = ⊤
AreTurns boundary (h ∷ g ∷ way) = IsTurn boundary h g × AreTurns boundary (g ∷ way)

-- a way round the part: half-edges along its boundary with the part on the left, each turning to the next, and no edge twice
pub record IsWayRound (edges : List Seg) (passes : HalfEdge → Bool) (way : List HalfEdge) : Type 0 where
  pub border : All (λ h. Contains (part_boundary edges passes) h.edge) way
  pub inside : All (λ h. passes h ≡ true) way
  pub turns : AreTurns (part_boundary edges passes) way
  pub once : AllPairs (λ h g. ¬ (h.edge ≡ g.edge)) way
