-- The laws of taking a point out of a border.
use Rattle.std.specs.Prelude.{◌≡◌, ◌≢◌, ℕ, Bool, true, ◌↔◌, List, [], ◌∷◌, Contains}
use Rattle.cov_types.specs.declared.coord.Coord.{Coord}
use Rattle.cov_types.specs.Coverage.{Members, AllInRange}
use Rattle.cov_types.specs.declared.edge_use.EdgeUse.{EdgeUse}
use Rattle.cov_types.specs.declared.seg.Seg.{Seg}
use Rattle.cov_types.specs.Range.{IsSegInRange}
use Rattle.cov_types.specs.Seg.{IsSegBetween}
use Rattle.cov_types.specs.Uses.{HasEvenEnds, uses_of}
use Rattle.plane.specs.Parity.{holds, member_holds}
use Rattle.plane.specs.Validity.{IsValid}
use Rattle.plane.specs.Joined.{IsClear}
use Rattle.plane.specs.Point.{Point}
use Rattle.plane.specs.Segment.{IsOn}
use Rattle.arrangement.specs.Noding.{segments}
use Rattle.greedy_run.specs.Run.{Triangle, Simplification, Spot, IsRemovable, current_edges, IsRunState, is_one_point, ring_without, coverage_without, IsSimplificationOf, IsSimplified}
use Rattle.removal_laws.specs.Exchange.{IsEar, IsExchange}
use Rattle.removal_laws.specs.Ear.{IsWithin, IsStrictlyWithin, AreSides, AreThreeSides, MeetsInEndsAlone, HasFreeEnds, IsFreeOf, IsOther, IsOuterEnd}

-- a segment that meets two sides in ends alone, is not the third, and has free ends, comes into the closed triangle at such an end alone, which is a or c
abbrev pub PaschLaw : Type 0
PaschLaw = (t : Triangle) (ab bc : Seg) → AreSides t ab bc → (s : Seg) → IsFreeOf t ab bc s → (r : Point) → IsWithin t r → IsOn s r → IsOuterEnd t s r

-- so it meets the third side in ends alone
abbrev pub EarLaw : Type 0
EarLaw = (t : Triangle) (ab bc ac : Seg) → AreSides t ab bc → IsSegBetween t.a t.c ac → (s : Seg) → IsFreeOf t ab bc s → MeetsInEndsAlone s ac

-- a point off the three sides over which an odd number of them is, is strictly in the triangle
abbrev pub OddLaw : Type 0
OddLaw = (t : Triangle) (ab bc ac : Seg) → AreThreeSides t ab bc ac → (p : Point) → ¬ IsOn ab p → ¬ IsOn bc p → ¬ IsOn ac p
    → holds (ab ∷ bc ∷ ac ∷ []) p ≡ true → IsStrictlyWithin t p

-- where each segment is ac or stays out of the triangle, nothing comes between two points of the triangle off ac
abbrev pub InnerLaw : Type 0
InnerLaw = (t : Triangle) (ab bc ac : Seg) → AreThreeSides t ab bc ac → MeetsInEndsAlone ab bc
    → (edges : List Seg) → ((e : Seg) → Contains edges e → IsOther t ab bc ac e)
    → (p q : Point) → IsWithin t p → ¬ IsOn ac p → IsWithin t q → ¬ IsOn ac q → IsClear edges p q

-- ---- the coverage

-- b is taken out of an ear of the old uses, which are in range; they and the new ones have even ends
pub record IsRemoval (t : Triangle) (ab bc ac : Seg) (old new : List EdgeUse) : Type 0 where
  pub is_ear : IsEar t ab bc ac old
  pub exchange : IsExchange ab bc ac old new
  pub in_range : (u : EdgeUse) → Contains old u → IsSegInRange u.seg
  pub even_before : HasEvenEnds old
  pub even_after : HasEvenEnds new

-- out of the triangle each member holds what it held
abbrev pub HoldersLaw : Type 0
HoldersLaw = (t : Triangle) (ab bc ac : Seg) (old new : List EdgeUse) → IsRemoval t ab bc ac old new → IsValid old
    → (p : Point) → ¬ IsWithin t p → (i : ℕ) → member_holds new i p ≡ member_holds old i p

-- and the coverage stays valid
abbrev pub ValidLaw : Type 0
ValidLaw = (t : Triangle) (ab bc ac : Seg) (old new : List EdgeUse) → IsRemoval t ab bc ac old new → IsValid old → IsValid new

-- in a valid coverage with an ear at b, taking b out of the rings exchanges the uses so
abbrev pub RingsLaw : Type 0
RingsLaw = (t : Triangle) (ab bc ac : Seg) (members : Members) → IsEar t ab bc ac (uses_of members) → IsValid (uses_of members)
    → IsExchange ab bc ac (uses_of members) (uses_of (coverage_without (t.b ∷ []) members))

-- so a coverage in range stays valid without b
abbrev pub StaysValidLaw : Type 0
StaysValidLaw = (t : Triangle) (ab bc ac : Seg) (members : Members) → AllInRange members → IsEar t ab bc ac (uses_of members) → IsValid (uses_of members)
    → IsValid (uses_of (coverage_without (t.b ∷ []) members))

-- ---- one point after the other

-- the points are a ring of the coverage
pub record IsRingOf (members : Members) (points : List Coord) : Type 0 where
  pub member : List (List (List Coord))
  pub in_members : Contains members member
  pub poly : List (List Coord)
  pub in_member : Contains member poly
  pub in_poly : Contains poly points

-- a ring of a valid coverage comes to be of one point only where it was so
abbrev pub KeepsLaw : Type 0
KeepsLaw = (t : Triangle) (ab bc ac : Seg) (members : Members) → IsEar t ab bc ac (uses_of members) → IsValid (uses_of members)
    → (points : List Coord) → IsRingOf members points → is_one_point (ring_without (t.b ∷ []) points) ≡ true → is_one_point points ≡ true

-- then a ring without a point and others is the ring without the others, without the point
abbrev pub OneMoreLaw : Type 0
OneMoreLaw = (b : Coord) (removed points : List Coord) → (is_one_point (ring_without removed points) ≡ true → is_one_point points ≡ true)
    → ring_without (b ∷ removed) points ≡ ring_without (b ∷ []) (ring_without removed points)

-- and so is the coverage
abbrev pub CoverageMoreLaw : Type 0
CoverageMoreLaw = (b : Coord) (removed : List Coord) (members : Members)
    → ((points : List Coord) → IsRingOf members points → is_one_point (ring_without removed points) ≡ true → is_one_point points ≡ true)
    → coverage_without (b ∷ removed) members ≡ coverage_without (b ∷ []) (coverage_without removed members)

-- of the coverage no ring with two different points comes to be of one point
abbrev pub KeepsRings : Members → List Coord → Type 0
KeepsRings members removed = (points : List Coord) → IsRingOf members points → is_one_point (ring_without removed points) ≡ true → is_one_point points ≡ true

-- where a state is valid and in range and has an ear at b, the state after b is valid, and no ring comes to be of one point
abbrev pub StepLaw : Type 0
StepLaw = (t : Triangle) (ab bc ac : Seg) (members : Members) (removed : List Coord) → KeepsRings members removed → AllInRange (coverage_without removed members)
    → IsEar t ab bc ac (uses_of (coverage_without removed members)) → IsValid (uses_of (coverage_without removed members))
    → IsValid (uses_of (coverage_without (t.b ∷ removed) members)) × KeepsRings members (t.b ∷ removed)

-- ---- the run

-- in a state of the run, each current segment that does not end at a removable point is not ac and has free ends
abbrev pub FreeEndsLaw : Type 0
FreeEndsLaw = (s : Simplification) (removed : List Coord) (spot : Spot) (h : IsRemovable s removed spot)
    → (e : Seg) → Contains (current_edges s.lines removed) e → e.lo ≢ h.t.b → e.hi ≢ h.t.b → HasFreeEnds h.t e

-- the coverage of a state is valid and in range, its segments are exactly the current ones, and no ring has come to be of one point
pub record IsSoundState (s : Simplification) (members : Members) (removed : List Coord) : Type 0 where
  pub valid : IsValid (uses_of (coverage_without removed members))
  pub in_range : AllInRange (coverage_without removed members)
  pub edges : (e : Seg) → Contains (current_edges s.lines removed) e ↔ Contains (segments (uses_of (coverage_without removed members))) e
  pub keeps : KeepsRings members removed

-- the triangle has three sides with which it is an ear of the uses
pub record HasEar (t : Triangle) (uses : List EdgeUse) : Type 0 where
  pub ab : Seg
  pub bc : Seg
  pub ac : Seg
  pub is_ear : IsEar t ab bc ac uses

-- in such a state the triangle of a removable point is an ear
abbrev pub RemovableEarLaw : Type 0
RemovableEarLaw = (s : Simplification) (members : Members) (removed : List Coord) → IsSoundState s members removed
    → (spot : Spot) (h : IsRemovable s removed spot) → HasEar h.t (uses_of (coverage_without removed members))

-- without points a coverage stays in range
abbrev pub StateRangeLaw : Type 0
StateRangeLaw = (members : Members) (removed : List Coord) → AllInRange members → AllInRange (coverage_without removed members)

-- the state after a removable point of a sound state is sound
abbrev pub NextStateLaw : Type 0
NextStateLaw = (s : Simplification) (members : Members) (removed : List Coord) → IsSoundState s members removed
    → (spot : Spot) (h : IsRemovable s removed spot) → IsSoundState s members (h.t.b ∷ removed)

-- of a valid coverage in range each state to which the run comes is sound
abbrev pub RunStateLaw : Type 0
RunStateLaw = (members : Members) (tolerance : ℕ) (inner_only : Bool) (s : Simplification) → IsSimplificationOf members tolerance inner_only s
    → AllInRange members → IsValid (uses_of members) → (removed : List Coord) → IsRunState s removed → IsSoundState s members removed

-- so a valid coverage in range, simplified, is valid and in range
abbrev pub SimplifiedValidLaw : Type 0
SimplifiedValidLaw = (members : Members) (tolerance : ℕ) (inner_only : Bool) (out : Members) → AllInRange members → IsValid (uses_of members)
    → IsSimplified members tolerance inner_only out → IsValid (uses_of out) × AllInRange out
