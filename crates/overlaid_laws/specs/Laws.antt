-- The laws of the overlay of two coverages.
use Rattle.std.specs.Prelude.{◌≡◌, ℕ, ◌+◌, ◌<◌, ◌^◌, List, ◌++◌, length, Option, Some, None}
use Rattle.cov_types.specs.declared.seg.Seg.{Seg}
use Rattle.cov_types.specs.Coverage.{Members, AllInRange}
use Rattle.cov_types.specs.Uses.{uses_of}
use Rattle.plane.specs.Region.{IsOuterRegion}
use Rattle.plane.specs.Validity.{IsValid}
use Rattle.arrangement.specs.declared.odd_use.OddUse.{OddUse}
use Rattle.arrangement.specs.Live.{IsLiveOverlay}
use Rattle.arrangement.specs.Noding.{IsNoded}
use Rattle.arrangement.specs.Overlay.{Overlay, IsSnappedOverlay}
use Rattle.cleaned_laws.specs.Owning.{AreMemberOwners}
use Rattle.overlaid_laws.specs.declared.pair.Pair.{Pair}
use Rattle.overlaid_laws.specs.Joint.{shifted}
use Rattle.overlaid_laws.specs.Overlaid.{AreJointPairs, AreOverlaidOwners, IsOverlaid, HoldsByPair}
use Rattle.overlaid_laws.specs.Pairs.{region_pair}

-- ---- the two as one coverage

-- the uses of both are those of the first, and then those of the second with members numbered after those of the first
abbrev pub JointUsesLaw : Type 0
JointUsesLaw = (a b : Members) → uses_of (a ++ b) ≡ uses_of a ++ shifted (length a) (uses_of b)

-- both are in range where each is, and they have fewer than 2 ^ 32 members together
abbrev pub JointRangeLaw : Type 0
JointRangeLaw = (a b : Members) → AllInRange a → AllInRange b → length a + length b < 2 ^ 32 → AllInRange (a ++ b)

-- ---- pairs

-- the members of a region's pair are members of the two
abbrev pub PairBelowLaw : Type 0
PairBelowLaw = (a b : Members) → AllInRange (a ++ b) → (o : Overlay) → IsSnappedOverlay (uses_of (a ++ b)) (length (a ++ b)) o
    → (r : ℕ) (pair : Pair) → region_pair (length a) o r ≡ Some pair → (pair.a < length a) × (pair.b < length b)

-- the outer region has no pair
abbrev pub OuterPairLaw : Type 0
OuterPairLaw = (o : Overlay) → IsLiveOverlay o → (n r : ℕ) → IsOuterRegion o.edges r → region_pair n o r ≡ None

-- two coverages have one list of pairs
abbrev pub OnePairsLaw : Type 0
OnePairsLaw = (a b : Members) → AllInRange (a ++ b) → (pairs others : List Pair) → AreJointPairs a b pairs → AreJointPairs a b others → pairs ≡ others

-- ---- the overlay

-- owners by pairs are owners that polygons can be built of
abbrev pub OverlaidOwnersLaw : Type 0
OverlaidOwnersLaw = (a b : Members) → AllInRange (a ++ b) → (o : Overlay) → IsSnappedOverlay (uses_of (a ++ b)) (length (a ++ b)) o
    → (pairs : List Pair) (owners : ℕ → Option ℕ) → AreOverlaidOwners (length a) o pairs owners → AreMemberOwners o owners (length pairs)

-- each point off the jointly noded edges is held by the pair of the least snapped members that hold it, one of each coverage
abbrev pub OverlaidHoldsLaw : Type 0
OverlaidHoldsLaw = (a b : Members) → AllInRange (a ++ b) → (pairs : List Pair) (out : Members) → IsOverlaid a b pairs out
    → (edges : List Seg) (odd : List OddUse) → (noded : IsNoded (uses_of (a ++ b)) edges odd) → HoldsByPair (length a) edges noded.snapped pairs out

-- and the coverage is valid
abbrev pub OverlaidValidLaw : Type 0
OverlaidValidLaw = (a b : Members) → AllInRange (a ++ b) → (pairs : List Pair) (out : Members) → IsOverlaid a b pairs out → IsValid (uses_of out)

-- two coverages have one overlay
abbrev pub OneOverlaidLaw : Type 0
OneOverlaidLaw = (a b : Members) → AllInRange (a ++ b) → (pairs others : List Pair) (out other : Members)
    → IsOverlaid a b pairs out → IsOverlaid a b others other → (pairs ≡ others) × (out ≡ other)
