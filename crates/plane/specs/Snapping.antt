-- Snap rounding after Hobby (1999): pixels, hot pixels, chains and noded edges.
use Rattle.std.specs.Prelude.{◌≡◌, ℕ, ◌<◌, ◌+◌, ◌%◌, ℤ, pos, ◌+ℤ◌, ◌-ℤ◌, ◌*ℤ◌, ◌≤ℤ◌, ◌<ℤ◌, ◌↔◌, ◌⊎◌, List, ◌∷◌, [], length, map, zip, drop, flat_map, option_to_list, Contains, AllPairs, Option, Some, slice_get}
use Rattle.cov_types.specs.Uses.{seg_between}
use Rattle.cov_types.specs.declared.coord.Coord.{Coord}
use Rattle.cov_types.specs.declared.seg.Seg.{Seg}
use Rattle.plane.specs.Point.{Point, at_coord, SamePoint, IsBetween}
use Rattle.plane.specs.Segment.{IsOn, IsEnd}
use Rattle.plane.specs.Contact.{IsOnlyCommon}

-- p is in the pixel of r: r - 1/2 ≤ p < r + 1/2, each way
pub record IsInPixel (p : Point) (r : Coord) : Type 0 where
  pub left : (((pos 2 *ℤ r.x) -ℤ pos 1) *ℤ pos p.d) ≤ℤ (pos 2 *ℤ p.x)
  pub right : (pos 2 *ℤ p.x) <ℤ (((pos 2 *ℤ r.x) +ℤ pos 1) *ℤ pos p.d)
  pub bottom : (((pos 2 *ℤ r.y) -ℤ pos 1) *ℤ pos p.d) ≤ℤ (pos 2 *ℤ p.y)
  pub top : (pos 2 *ℤ p.y) <ℤ (((pos 2 *ℤ r.y) +ℤ pos 1) *ℤ pos p.d)

-- p is an end of a segment of the list
abbrev pub IsEndOf : List Seg → Point → Type 0
IsEndOf segs p = (s : Seg) × (Contains segs s × IsEnd s p)

-- p lies inside two segments of the list and is their only common point
abbrev pub IsCrossingOf : List Seg → Point → Type 0
IsCrossingOf segs p = (s : Seg) × ((t : Seg) × (Contains segs s × Contains segs t × IsOnlyCommon s t p × ¬ IsEnd s p × ¬ IsEnd t p))

-- the pixel of r is hot: an end or a crossing is in it
abbrev pub IsHot : List Seg → Coord → Type 0
IsHot segs r = (p : Point) × (IsInPixel p r × (IsEndOf segs p ⊎ IsCrossingOf segs p))

-- the segment has a point in the pixel of r
abbrev pub MeetsPixel : Seg → Coord → Type 0
MeetsPixel s r = (p : Point) × (IsOn s p × IsInPixel p r)

-- from lo to hi, the segment passes p before q
abbrev pub IsBefore : Seg → Point → Point → Type 0
IsBefore s p q = IsBetween p (at_coord s.lo) q × ¬ SamePoint p q

-- from lo to hi, the segment passes the pixel of a before that of b
abbrev pub PassesFirst : Seg → Coord → Coord → Type 0
PassesFirst s a b = (p q : Point) → IsOn s p → IsInPixel p a → IsOn s q → IsInPixel q b → IsBefore s p q

-- the chain of a segment: the centres of all hot pixels that it meets, in the order from lo to hi
pub record IsChain (segs : List Seg) (s : Seg) (centres : List Coord) : Type 0 where
  pub members : (r : Coord) → Contains centres r ↔ (IsHot segs r × MeetsPixel s r)
  pub in_order : AllPairs (PassesFirst s) centres

-- the edges between neighbours of a chain
abbrev pub chain_edges : List Coord → List Seg
chain_edges centres = flat_map (λ pair. option_to_list (seg_between pair.0 pair.1)) (zip centres (drop 1 centres))
