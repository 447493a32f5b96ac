-- The overlay of two coverages: the pairs of members that meet, each with the polygons of its regions.
use Rattle.std.specs.Prelude.{◌≡◌, ◌↔◌, ℕ, ◌+◌, ◌<◌, ◌≤◌, Bool, true, List, ◌++◌, length, Contains, Option, Some, None, slice_get}
use Rattle.cov_types.specs.declared.edge_use.EdgeUse.{EdgeUse}
use Rattle.cov_types.specs.declared.seg.Seg.{Seg}
use Rattle.cov_types.specs.Coverage.{Members}
use Rattle.cov_types.specs.Uses.{uses_of}
use Rattle.plane.specs.Joined.{IsOff}
use Rattle.plane.specs.Parity.{member_holds}
use Rattle.plane.specs.Point.{Point}
use Rattle.arrangement.specs.Overlay.{Overlay, IsRegion, IsSnappedOverlay}
use Rattle.sound_polygons.specs.Cleaned.{IsBuilt}
use Rattle.overlaid_laws.specs.declared.pair.Pair.{Pair}
use Rattle.overlaid_laws.specs.Pairs.{region_pair, ArePairs}

-- ---- the overlay

-- the pairs of the regions of two coverages, noded together
pub record AreJointPairs (a b : Members) (pairs : List Pair) : Type 0 where
  pub overlay : Overlay
  pub is_overlay : IsSnappedOverlay (uses_of (a ++ b)) (length (a ++ b)) overlay
  pub are_pairs : ArePairs (length a) overlay pairs

-- the pair stands at a place, which is the owner
pub record IsOwnedAt (pairs : List Pair) (pair : Pair) (owner : Option ℕ) : Type 0 where
  pub place : ℕ
  pub listed : slice_get pairs place ≡ Some pair
  pub owned : owner ≡ Some place

-- a region with a pair is owned by the place of the pair, and a region without one by none
pub record AreOverlaidOwners (n : ℕ) (o : Overlay) (pairs : List Pair) (owners : ℕ → Option ℕ) : Type 0 where
  pub placed : (r : ℕ) (pair : Pair) → IsRegion o.edges r → region_pair n o r ≡ Some pair → IsOwnedAt pairs pair (owners r)
  pub free : (r : ℕ) → IsRegion o.edges r → region_pair n o r ≡ None → owners r ≡ None

-- the coverages a and b, overlaid: their pairs, and for each pair a member with the polygons of the regions that have it
pub record IsOverlaid (a b : Members) (pairs : List Pair) (out : Members) : Type 0 where
  pub overlay : Overlay
  pub is_overlay : IsSnappedOverlay (uses_of (a ++ b)) (length (a ++ b)) overlay
  pub are_pairs : ArePairs (length a) overlay pairs
  pub owners : ℕ → Option ℕ
  pub are_owners : AreOverlaidOwners (length a) overlay pairs owners
  pub built : IsBuilt overlay owners (length pairs) out

-- ---- what it holds

-- m is the least number that passes the test
pub record IsLeast (test : ℕ → Bool) (m : ℕ) : Type 0 where
  pub passes : test m ≡ true
  pub least : (k : ℕ) → test k ≡ true → m ≤ k

-- pair.a is the least number that passes and is below n, and pair.b the least that passes after n is added
pub record IsLeastPair (n : ℕ) (test : ℕ → Bool) (pair : Pair) : Type 0 where
  pub of_first : pair.a < n
  pub first : IsLeast test pair.a
  pub second : IsLeast (λ j. test (n + j)) pair.b

-- of the first coverage, which has n members, pair.a is the least member that holds p, and of the second pair.b
abbrev pub IsPairAt : ℕ → List EdgeUse → Pair → Point → Type 0
IsPairAt n uses pair p = IsLeastPair n (λ m. member_holds uses m p) pair

-- each point off the noded edges is held by the member of a pair exactly where this is the pair there, and by one member at most; no other pair is at a point, and no other member holds one
pub record HoldsByPair (n : ℕ) (noded : List Seg) (snapped : List EdgeUse) (pairs : List Pair) (out : Members) : Type 0 where
  pub exact : (p : Point) → IsOff noded p → (k : ℕ) (pair : Pair) → slice_get pairs k ≡ Some pair → (member_holds (uses_of out) k p ≡ true) ↔ IsPairAt n snapped pair p
  pub one : (p : Point) → IsOff noded p → (j k : ℕ) → member_holds (uses_of out) j p ≡ true → member_holds (uses_of out) k p ≡ true → j ≡ k
  pub listed : (p : Point) → IsOff noded p → (pair : Pair) → IsPairAt n snapped pair p → Contains pairs pair
  pub within : (p : Point) → IsOff noded p → (k : ℕ) → member_holds (uses_of out) k p ≡ true → k < length pairs
