-- A list of pairs in order has each pair at one place, and two coverages have one list of them.
use Rattle.std.proofs.Common.{◌≡◌, inl, inr, subst, ℕ, ◌<◌, List, ◌++◌, length, get_or, IsTrue, arith}
use Rattle.std.specs.Prelude.{AllPairs, Some, slice_get}
use Rattle.std.proofs.lemmas.Bool.{cases_order}
use Rattle.std.proofs.lemmas.Bool.Decides.{nat_tests}
use Rattle.std.proofs.lemmas.Option.{slice_get_within, get_or_from_slice_get}
use Rattle.cov_types.specs.Coverage.{Members, AllInRange}
use Rattle.cov_types.specs.Uses.{uses_of}
use Rattle.cov_types.proofs.AllUses.{uses-in_range}
use Rattle.arrangement.specs.Overlay.{Overlay, IsSnappedOverlay}
use Rattle.arrangement.proofs.OneNoding.{same_ordered}
use Rattle.arrangement.proofs.OneOverlay.{one_snapped_overlay}
use Rattle.overlaid_laws.specs.declared.pair.Pair.{Pair}
use Rattle.overlaid_laws.specs.Overlaid.{AreJointPairs}
use Rattle.overlaid_laws.specs.Pairs.{is_pair_before, ArePairs}

both_ways : (p q : Pair) → IsTrue (is_pair_before p q) → IsTrue (is_pair_before q p) → ⊥
both_ways p q h k = grind (arith, nat_tests)

-- a pair stands at one place
pub one_place : (pairs : List Pair) → AllPairs (λ p q. IsTrue (is_pair_before p q)) pairs → (j k : ℕ) (pair : Pair) → slice_get pairs j ≡ Some pair → slice_get pairs k ≡ Some pair → j ≡ k
one_place pairs up j k pair at_j at_k = elim (cases_order j k) [
  | inl same ↦ same
  | inr apart ↦ elim apart [
    | inl less ↦ absurd (not_before j k less at_j at_k)
    | inr more ↦ absurd (not_before k j more at_k at_j)
  ]
]
  where
    not_before : (i m : ℕ) → i < m → slice_get pairs i ≡ Some pair → slice_get pairs m ≡ Some pair → ⊥
    not_before i m less at_i at_m =
        let before = up i m pair less (slice_get_within pairs m pair at_m) in
        let itself = subst (λ q. IsTrue (is_pair_before pair q)) (get_or_from_slice_get pairs m pair pair at_m) (subst (λ p. IsTrue (is_pair_before p (get_or pairs m pair))) (get_or_from_slice_get pairs i pair pair at_i) before) in
        both_ways pair pair itself itself

pub one_pairs : (n : ℕ) (o : Overlay) (pairs others : List Pair) → ArePairs n o pairs → ArePairs n o others → pairs ≡ others
one_pairs n o pairs others h k =
    same_ordered (λ p q. IsTrue (is_pair_before p q)) both_ways pairs others h.ascending k.ascending
    (λ p. (λ has. (k.exact p).1 ((h.exact p).0 has), λ has. (h.exact p).1 ((k.exact p).0 has)))

-- two overlays of the two coverages are one
pub one_joint : (a b : Members) → AllInRange (a ++ b) → (o q : Overlay) → IsSnappedOverlay (uses_of (a ++ b)) (length (a ++ b)) o → IsSnappedOverlay (uses_of (a ++ b)) (length (a ++ b)) q → o ≡ q
one_joint a b in_range o q h k = one_snapped_overlay (uses_of (a ++ b)) (uses-in_range (a ++ b) in_range) (length (a ++ b)) o q h k

pub one_joint_pairs : (a b : Members) → AllInRange (a ++ b) → (pairs others : List Pair) → AreJointPairs a b pairs → AreJointPairs a b others → pairs ≡ others
one_joint_pairs a b in_range pairs others h k =
    let same = one_joint a b in_range k.overlay h.overlay k.is_overlay h.is_overlay in
    one_pairs (length a) h.overlay pairs others h.are_pairs (subst (λ o. ArePairs (length a) o others) same k.are_pairs)
