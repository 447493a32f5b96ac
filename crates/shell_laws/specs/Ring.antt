-- Rings round parts: closed ways, and the rings of a part.
use Rattle.std.specs.Prelude.{◌≡◌, ⊤, Bool, true, Contains, AllPairs, ◌&&◌, not, List, [], ◌∷◌, ◌++◌, map, flat_map, All}
use Rattle.std.specs.List.{list_any}
use Rattle.std.specs.List.Sorted.{IsPermutation}
use Rattle.cov_types.specs.declared.seg.Seg.{Seg}
use Rattle.plane.specs.Joined.{Joined}
use Rattle.plane.specs.Parity.{holds}
use Rattle.plane.specs.Point.{Point}
use Rattle.sector_laws.specs.Sector.{HalfEdge, left, twin, IsNext}
use Rattle.shell_laws.specs.Part.{part_boundary, AreTurns, IsWayRound}

-- the edges of a way
abbrev pub way_edges : List HalfEdge → List Seg
way_edges way = map (λ h. h.edge) way

-- each half-edge turns to the next, and the last one to the first
abbrev pub IsClosed : List Seg → List HalfEdge → Type 0
IsClosed boundary [] = ⊥
IsClosed boundary (h ∷ way) = AreTurns boundary (h ∷ (way ++ h ∷ []))

-- a ring round the part: a closed way round it
pub record IsRingRound (edges : List Seg) (passes : HalfEdge → Bool) (ring : List HalfEdge) : Type 0 where
  pub way : IsWayRound edges passes ring
  pub closed : IsClosed (part_boundary edges passes) ring

-- the rings of the part: each edge of its boundary stands in one of them, once
pub record AreRings (edges : List Seg) (passes : HalfEdge → Bool) (rings : List (List HalfEdge)) : Type 0 where
  pub each : All (IsRingRound edges passes) rings
  pub cover : IsPermutation (flat_map way_edges rings) (part_boundary edges passes)

-- the ring holds the point
abbrev pub ring_holds : List HalfEdge → Point → Bool
ring_holds ring p = holds (way_edges ring) p

-- p is in the shell and in no hole
abbrev pub is_within : List HalfEdge → List (List HalfEdge) → Point → Bool
is_within shell holes p = ring_holds shell p && not (list_any (λ hole. ring_holds hole p) holes)

-- the last half-edge of a way that begins with h
abbrev pub last_of : HalfEdge → List HalfEdge → HalfEdge
last_of h [] = h
last_of h (k ∷ way) = last_of k way

-- p is in the part: joined with the left of a half-edge that passes
abbrev pub IsInPart : List Seg → (HalfEdge → Bool) → Point → Type 0
IsInPart edges passes p = (h : HalfEdge) × Contains edges h.edge × (passes h ≡ true) × Joined edges p (left h)

-- each half-edge of the walk has the following one as its next
abbrev pub AreNexts : List Seg → List HalfEdge → Type 0
AreNexts boundary [] = ⊤
AreNexts boundary (f ∷ []) = ⊤
AreNexts boundary (f ∷ g ∷ walk) = IsNext boundary f g × AreNexts boundary (g ∷ walk)

-- a walk round the part from outside, from f: along its boundary with the part on the right, the next of the last one is the first, and no edge twice
pub record IsWalkOutside (edges : List Seg) (passes : HalfEdge → Bool) (f : HalfEdge) (walk : List HalfEdge) : Type 0 where
  pub border : All (λ k. Contains (part_boundary edges passes) k.edge) (f ∷ walk)
  pub inside : All (λ k. passes (twin k) ≡ true) (f ∷ walk)
  pub nexts : AreNexts (part_boundary edges passes) (f ∷ (walk ++ f ∷ []))
  pub once : AllPairs (λ h g. ¬ (h.edge ≡ g.edge)) (f ∷ walk)
