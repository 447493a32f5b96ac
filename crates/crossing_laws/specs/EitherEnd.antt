-- Which end of an edge counts where its sweep value is that of a point: the lesser, as in `is_over`, or the greater in its place.
use Rattle.std.specs.Prelude.{◌≡◌, ℕ, ◌%◌, Bool, ◌&&◌, ◌==◌, not, List, count_by, Contains, pos, int_lt}
use Rattle.cov_types.specs.declared.coord.Coord.{Coord}
use Rattle.cov_types.specs.declared.edge_use.EdgeUse.{EdgeUse}
use Rattle.cov_types.specs.declared.seg.Seg.{Seg}
use Rattle.cov_types.specs.Coverage.{AllInRange}
use Rattle.cov_types.specs.Uses.{uses_of}
use Rattle.plane.specs.Point.{Point, at_coord}
use Rattle.plane.specs.Segment.{side}
use Rattle.plane.specs.Ray.{sweep_below, Rises}
use Rattle.plane.specs.Parity.{holds, member_holds}
use Rattle.crossing_laws.specs.Crossing.{IsSwept, HaveEvenEnds, MemberHasEvenEnds}

-- the edge is over p where its greater end counts: lo is before p and hi is not, and p is strictly below the edge along the ray
abbrev pub is_over_to_hi : Seg → Point → Bool
is_over_to_hi e p = sweep_below (at_coord e.lo) p && not (sweep_below (at_coord e.hi) p) && int_lt (side e p) (pos 0)

-- a list of edges holds p, where the greater ends count
abbrev pub holds_to_hi : List Seg → Point → Bool
holds_to_hi edges p = count_by (λ e. is_over_to_hi e p) edges % 2 == 1

-- a member holds p, where the greater ends count
abbrev pub member_holds_to_hi : List EdgeUse → ℕ → Point → Bool
member_holds_to_hi uses member p = count_by (λ u. (u.member == member) && is_over_to_hi u.seg p) uses % 2 == 1

-- edges with even ends hold each point alike, whichever ends count
abbrev pub EitherEndLaw : Type 0
EitherEndLaw = (edges : List Seg) → IsSwept edges → HaveEvenEnds edges → (p : Point) → holds edges p ≡ holds_to_hi edges p

-- and so does a member whose uses have even ends
abbrev pub MemberEitherEndLaw : Type 0
MemberEitherEndLaw = (uses : List EdgeUse) (member : ℕ) → ((u : EdgeUse) → Contains uses u → Rises u.seg) → MemberHasEvenEnds uses member
    → (p : Point) → member_holds uses member p ≡ member_holds_to_hi uses member p

-- so each member of a coverage in range
abbrev pub CoverageEitherEndLaw : Type 0
CoverageEitherEndLaw = (members : List (List (List (List Coord)))) → AllInRange members
    → (member : ℕ) (p : Point) → member_holds (uses_of members) member p ≡ member_holds_to_hi (uses_of members) member p
