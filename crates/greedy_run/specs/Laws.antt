-- The laws that make the definitions of lines and of the run believable.
use Rattle.std.specs.Prelude.{◌≡◌, ℕ, ◌+◌, ◌<◌, ◌≤◌, ◌↔◌, Bool, true, false, List, [], length, All, Contains, Some, slice_get}
use Rattle.cov_types.specs.declared.coord.Coord.{Coord}
use Rattle.cov_types.specs.declared.edge_use.EdgeUse.{EdgeUse}
use Rattle.cov_types.specs.declared.seg.Seg.{Seg}
use Rattle.cov_types.specs.Coord.{is_before}
use Rattle.cov_types.specs.Coverage.{Members}
use Rattle.plane.specs.Joined.{IsOff}
use Rattle.plane.specs.Parity.{member_holds}
use Rattle.plane.specs.Point.{Point}
use Rattle.plane.specs.Snapping.{chain_edges}
use Rattle.plane.specs.Validity.{IsValid}
use Rattle.arrangement.specs.Noding.{IsAscending, segments}
use Rattle.greedy_run.specs.Lines.{degree, IsLeastOfLoop, IsNode, IsLine, PathsAscend, AreLines, IsTrail, IsLoop, IsWalked}
use Rattle.greedy_run.specs.Run.{IsLastBefore, IsFirstAfter, point_before, point_after, Simplification, Spot, IsRemovable, IsNextPoint, IsFinalState, IsSimplificationOf, IsSimplified, IsExhausted}
use Rattle.greedy_run.specs.Sides.{holder}

-- edges have one list of lines
abbrev pub LinesLaw : Type 0
LinesLaw = (edges : List Seg) (lines others : List (List Coord)) → AreLines edges lines → AreLines edges others → lines ≡ others

-- two lines with a common edge are one line
abbrev pub CommonEdgeLaw : Type 0
CommonEdgeLaw = (edges : List Seg) (points others : List Coord) → IsLine edges points → IsLine edges others → (e : Seg) → Contains (chain_edges points) e → Contains (chain_edges others) e
    → points ≡ others

-- each of the ascending lists is a line, and each edge is one of theirs
pub record AreCovering (edges : List Seg) (lines : List (List Coord)) : Type 0 where
  pub ascending : PathsAscend lines
  pub each : All (IsLine edges) lines
  pub every : (e : Seg) → Contains edges e → (points : List Coord) × (Contains lines points × Contains (chain_edges points) e)

-- so they are all lines
abbrev pub CoveringLaw : Type 0
CoveringLaw = (edges : List Seg) (lines : List (List Coord)) → AreCovering edges lines → AreLines edges lines

-- two places in lines are one
pub record IsOnePlace (points others : List Coord) (i j : ℕ) : Type 0 where
  pub line : points ≡ others
  pub place : i ≡ j

-- a vertex that is no node stands at one place of one line at most
abbrev pub PlaceLaw : Type 0
PlaceLaw = (edges : List Seg) (points others : List Coord) → IsLine edges points → IsLine edges others → (v : Coord) → ¬ IsNode edges v
    → (i j : ℕ) → slice_get points i ≡ Some v → slice_get others j ≡ Some v → IsOnePlace points others i j

-- the edge stands in this line and in no other
pub record IsOnlyLine (edges : List Seg) (e : Seg) (points : List Coord) : Type 0 where
  pub line : IsLine edges points
  pub among : Contains (chain_edges points) e
  pub only : (others : List Coord) → IsLine edges others → Contains (chain_edges others) e → points ≡ others

-- each edge stands in exactly one line
abbrev pub EdgeLineLaw : Type 0
EdgeLineLaw = (edges : List Seg) → IsAscending edges → (e : Seg) → Contains edges e → (points : List Coord) × IsOnlyLine edges e points

-- the vertex stands at this place of this line and nowhere else
pub record IsOnlyPlace (edges : List Seg) (v : Coord) (points : List Coord) (i : ℕ) : Type 0 where
  pub line : IsLine edges points
  pub at : slice_get points i ≡ Some v
  pub only : (others : List Coord) (j : ℕ) → IsLine edges others → slice_get others j ≡ Some v → IsOnePlace points others i j

-- each vertex that is no node stands at exactly one place of one line
abbrev pub VertexLineLaw : Type 0
VertexLineLaw = (edges : List Seg) → IsAscending edges → (v : Coord) → 1 ≤ degree edges v → ¬ IsNode edges v → (points : List Coord) × ((i : ℕ) × IsOnlyPlace edges v points i)

-- ---- walking along a line

-- a trail has at most as many steps as there are edges
abbrev pub TrailLaw : Type 0
TrailLaw = (edges : List Seg) (points : List Coord) → IsTrail edges points → length points ≤ length edges + 1

-- from any edge a walk goes on until other than two edges meet, or until it is back
abbrev pub WalkLaw : Type 0
WalkLaw = (edges : List Seg) → IsAscending edges → (e : Seg) → Contains edges e → (points : List Coord) × IsWalked edges e points

-- and where it is back, it has seen all points of the loop: the least of them is the node
abbrev pub LoopLaw : Type 0
LoopLaw = (edges : List Seg) (points : List Coord) → IsLoop edges points → (p : Coord) → Contains points p → IsLeastOfLoop edges p ↔ All (λ q. is_before q p ≡ false) points

-- the point before a place in what is left of a line is at the last place before it that is not removed
abbrev pub BeforeLaw : Type 0
BeforeLaw = (removed points : List Coord) (place : ℕ) (a : Coord) → (point_before removed points place ≡ Some a) ↔ ((k : ℕ) × IsLastBefore removed points place k a)

-- and the point after it at the first
abbrev pub AfterLaw : Type 0
AfterLaw = (removed points : List Coord) (place : ℕ) (c : Coord) → (point_after removed points place ≡ Some c) ↔ ((k : ℕ) × IsFirstAfter removed points place k c)

-- a point that can be removed is no node
abbrev pub NoNodeLaw : Type 0
NoNodeLaw = (s : Simplification) (removed : List Coord) (spot : Spot) (h : IsRemovable s removed spot) → ¬ IsNode s.edges h.t.b

-- a state has one next point at most
abbrev pub NextPointLaw : Type 0
NextPointLaw = (s : Simplification) (removed : List Coord) (b c : Coord) → IsNextPoint s removed b → IsNextPoint s removed c → b ≡ c

-- the run ends in one state at most
abbrev pub FinalStateLaw : Type 0
FinalStateLaw = (s : Simplification) (removed others : List Coord) → IsFinalState s removed → IsFinalState s others → removed ≡ others

-- so at most one coverage is a given one, simplified
abbrev pub SimplifiedLaw : Type 0
SimplifiedLaw = (members : Members) (tolerance : ℕ) (inner_only : Bool) (out other : Members) → IsSimplified members tolerance inner_only out → IsSimplified members tolerance inner_only other → out ≡ other

-- a coverage from which nothing is removable is its own simplification
abbrev pub ExhaustedLaw : Type 0
ExhaustedLaw = (members : Members) (tolerance : ℕ) (inner_only : Bool) → IsExhausted members tolerance inner_only → IsSimplified members tolerance inner_only members

-- and from its lines nothing is, however they are listed
abbrev pub NothingLeftLaw : Type 0
NothingLeftLaw = (members : Members) (tolerance : ℕ) (inner_only : Bool) → IsExhausted members tolerance inner_only
    → (s : Simplification) → IsSimplificationOf members tolerance inner_only s → (spot : Spot) → ¬ IsRemovable s [] spot

-- ---- sides

-- in a valid coverage a point off the segments has one holder, which is the member that holds it
abbrev pub HolderLaw : Type 0
HolderLaw = (uses : List EdgeUse) → IsValid uses → (members : ℕ) → All (λ u. u.member < members) uses → (p : Point) → IsOff (segments uses) p
    → (i : ℕ) → (holder uses members p ≡ Some i) ↔ (member_holds uses i p ≡ true)
