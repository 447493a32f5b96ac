-- The laws of snap rounding, for lists of segments in range.
use Rattle.std.specs.Prelude.{◌≡◌, ◌-◌, ◌%◌, ◌<◌, ◌↔◌, Bool, List, [], ◌∷◌, length, slice_index_or, sum_by, All, AllPairs, Contains, ◌⊎◌}
use Rattle.cov_types.specs.declared.coord.Coord.{Coord}
use Rattle.cov_types.specs.declared.seg.Seg.{Seg}
use Rattle.cov_types.specs.Range.{IsInRange, IsSegInRange}
use Rattle.cov_types.specs.Uses.{ends_inside}
use Rattle.plane.specs.Point.{Point, at_coord}
use Rattle.plane.specs.Segment.{IsOn}
use Rattle.plane.specs.Snapping.{IsInPixel, IsHot, MeetsPixel, PassesFirst, IsChain, chain_edges}
use Rattle.rounding_laws.specs.Formulas.{ComesFirst, IsBeside}
use Rattle.plane.specs.Noded.{MeetInEnds, IsNodedFully, IsWithinHalf}

-- c is the chain of s, a segment of a list of segments in range
pub record IsChainInRange (segs : List Seg) (s : Seg) (c : List Coord) : Type 0 where
  pub in_range : All IsSegInRange segs
  pub listed : Contains segs s
  pub chain : IsChain segs s c

-- any two chain edges, of two segments or of one, are equal or have at most common ends in common
abbrev pub FullyNoded : Type 0
FullyNoded = (segs : List Seg) (s t : Seg) (c d : List Coord) → IsChainInRange segs s c → IsChainInRange segs t d
    → (e f : Seg) → Contains (chain_edges c) e → Contains (chain_edges d) f → MeetInEnds e f

-- e is a chain edge of a segment of the list
abbrev pub IsNodedEdge : List Seg → Seg → Type 0
IsNodedEdge segs e = (s : Seg) × ((c : List Coord) × (Contains segs s × IsChain segs s c × Contains (chain_edges c) e))

-- so a list of chain edges is fully noded
abbrev pub ListFullyNoded : Type 0
ListFullyNoded = (segs : List Seg) → All IsSegInRange segs → (edges : List Seg) → All (IsNodedEdge segs) edges → IsNodedFully edges

-- every point of a chain edge is within half a unit, in x and in y, of a point of its segment
abbrev pub HalfUnit : Type 0
HalfUnit = (segs : List Seg) (s : Seg) (c : List Coord) → IsChainInRange segs s c
    → (e : Seg) → Contains (chain_edges c) e → (p : Point) → IsOn e p → (q : Point) × (IsOn s q × IsWithinHalf p q)

-- no hot centre lies inside a chain edge
abbrev pub NoHotInside : Type 0
NoHotInside = (segs : List Seg) (s : Seg) (c : List Coord) → IsChainInRange segs s c
    → (e : Seg) → Contains (chain_edges c) e → (r : Coord) → IsHot segs r → IsOn e (at_coord r) → (r ≡ e.lo) ⊎ (r ≡ e.hi)

-- each point is in one pixel
abbrev pub OnePixel : Type 0
OnePixel = (p : Point) → (r : Coord) × (IsInPixel p r × ((q : Coord) → IsInPixel p q → q ≡ r))

-- a segment has one chain
abbrev pub OneChain : Type 0
OneChain = (segs : List Seg) (s : Seg) (c d : List Coord) → IsChainInRange segs s c → IsChainInRange segs s d → c ≡ d

-- a chain begins at lo and ends at hi
abbrev pub FromLoToHi : Type 0
FromLoToHi = (segs : List Seg) (s : Seg) (c : List Coord) → IsChainInRange segs s c
    → (0 < length c) × ((d : Coord) → (slice_index_or c 0 d ≡ s.lo) × (slice_index_or c (length c - 1) d ≡ s.hi))

-- its centres are in range
abbrev pub CentresInRange : Type 0
CentresInRange = (segs : List Seg) (s : Seg) (c : List Coord) → IsChainInRange segs s c → (r : Coord) → Contains c r → IsInRange r

-- a chain has a centre at most once
abbrev pub CentresDiffer : Type 0
CentresDiffer = (segs : List Seg) (s : Seg) (c : List Coord) → IsChainInRange segs s c → AllPairs (λ a b. ¬ (a ≡ b)) c

-- and an edge at most once
abbrev pub EdgesDiffer : Type 0
EdgesDiffer = (segs : List Seg) (s : Seg) (c : List Coord) → IsChainInRange segs s c → AllPairs (λ e f. ¬ (e ≡ f)) (chain_edges c)

-- a segment meets exactly the pixels whose centres are beside it
abbrev pub MeetsWhereBeside : Type 0
MeetsWhereBeside = (s : Seg) (r : Coord) → MeetsPixel s r ↔ IsBeside s r

-- and in range it passes two of them in the order of their centres
abbrev pub PassingOrder : Type 0
PassingOrder = (s : Seg) (a b : Coord) → IsSegInRange s → MeetsPixel s a → MeetsPixel s b → PassesFirst s a b ↔ ComesFirst s a b

-- the hot centres that a segment meets, in the order of centres, are its chain
abbrev pub ChainByCentres : Type 0
ChainByCentres = (segs : List Seg) (s : Seg) (c : List Coord) → IsSegInRange s → ((r : Coord) → Contains c r ↔ (IsHot segs r × IsBeside s r)) → AllPairs (ComesFirst s) c → IsChain segs s c

-- the chain of a segment alone is its two ends
abbrev pub LoneChain : Type 0
LoneChain = (s : Seg) → IsSegInRange s → IsChain (s ∷ []) s (s.lo ∷ s.hi ∷ [])

-- of any set of points, the edges of a chain have an even number of ends in it just where the segment has
abbrev pub EvenEnds : Type 0
EvenEnds = (segs : List Seg) (s : Seg) (c : List Coord) → IsChainInRange segs s c
    → (inside : Coord → Bool) → sum_by (ends_inside inside) (chain_edges c) % 2 ≡ ends_inside inside s % 2
