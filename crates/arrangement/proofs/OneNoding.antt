-- The noded edges of uses and their odd pairs are unique.
use mathlib.Core.List.{[], ◌∷◌}
use Rattle.std.proofs.Common.{◌≡◌, ◌⊎◌, inl, inr, refl, sym, ◌∙◌, ap, subst, true≢false, zero, suc, ◌↔◌, List, IsTrue, arith}
use Rattle.std.specs.Prelude.{All, AllPairs, Contains}
use Rattle.std.specs.List.{AllZip}
use Rattle.std.proofs.lemmas.Bool.Decides.{nat_tests}
use Rattle.std.proofs.lemmas.List.Elements.{All-contains}
use Rattle.cov_types.specs.declared.coord.Coord.{Coord}
use Rattle.cov_types.specs.declared.edge_use.EdgeUse.{EdgeUse}
use Rattle.cov_types.specs.declared.seg.Seg.{Seg}
use Rattle.cov_types.specs.Range.{IsSegInRange}
use Rattle.cov_types.specs.Seg.{is_seg_before}
use Rattle.cov_types.proofs.SegOrder.{is_seg_before-asymm}
use Rattle.plane.specs.Snapping.{IsChain}
use Rattle.plane.proofs.Sweeps.{rises-in_range}
use Rattle.rounding_laws.proofs.Unique.{chain_unique}
use Rattle.crossing_laws.proofs.Lists.{contains_here, contains_there}
use Rattle.arrangement.specs.declared.odd_use.OddUse.{OddUse}
use Rattle.arrangement.specs.Noding.{segments, is_odd_before, AreOddPairs, AreEdges, AreLiveEdges, snapped_uses, AreSnapped, IsNoded}

-- ---- two lists in order with the same elements are one

behind : {X : Type 0} (y x : X) (xs : List X) → Contains (y ∷ xs) x → (y ≡ x) ⊎ Contains xs x
behind y x xs (zero, within, is) = inl is
behind y x xs (suc k, within, is) = inr (k, omega arith, is)

module _ {X : Type 0} (Before : X → X → Type 0) (one_way : (a b : X) → Before a b → Before b a → ⊥) where
  before_rest : (x y : X) (xs : List X) → AllPairs Before (x ∷ xs) → Contains xs y → Before x y
  before_rest x y xs h has = All-contains (Before x) xs y (λ k d within. h zero (suc k) d (omega arith) (omega arith)) has

  rest_ordered : (x : X) (xs : List X) → AllPairs Before (x ∷ xs) → AllPairs Before xs
  rest_ordered x xs h i j d before within = h (suc i) (suc j) d (omega arith) (omega arith)

  same_first : (a b : X) (c d : List X) → AllPairs Before (a ∷ c) → AllPairs Before (b ∷ d) → Contains (b ∷ d) a → Contains (a ∷ c) b → a ≡ b
  same_first a b c d up down there back =
      elim (behind b a d there) [
        | inl same ↦ sym same
        | inr later ↦ elim (behind a b c back) [
          | inl same ↦ same
          | inr later_too ↦ absurd (one_way a b (before_rest a b c up later_too) (before_rest b a d down later))
        ]
      ]

  -- what is behind the first of one list is behind the first of the other
  rest_same : (a b r : X) (c d : List X) → a ≡ b → AllPairs Before (a ∷ c) → Contains (b ∷ d) r → Contains c r → Contains d r
  rest_same a b r c d same up there has =
      elim (behind b r d there) [
        | inl here ↦ (let before : Before a a = subst (λ v. Before a v) (sym (same ∙ here)) (before_rest a r c up has) in absurd (one_way a a before before))
        | inr later ↦ later
      ]

  pub same_ordered : (c d : List X) → AllPairs Before c → AllPairs Before d → ((x : X) → Contains c x ↔ Contains d x) → c ≡ d
  same_ordered [] [] up down same = refl
  same_ordered [] (b ∷ d) up down same = absurd (let (k, within, is) = (same b).1 (contains_here b d) in omega arith)
  same_ordered (a ∷ c) [] up down same = absurd (let (k, within, is) = (same a).0 (contains_here a c) in omega arith)
  same_ordered (a ∷ c) (b ∷ d) up down same =
      let first = same_first a b c d up down ((same a).0 (contains_here a c)) ((same b).1 (contains_here b d)) in
      let rest = same_ordered c d (rest_ordered a c up) (rest_ordered b d down) (λ x. (
        λ h. rest_same a b x c d first up ((same x).0 (contains_there a x c h)) h,
        λ h. rest_same b a x d c (sym first) down ((same x).1 (contains_there b x d h)) h,
      )) in
      λ i. first i ∷ rest i

-- ---- edges and their odd pairs

before_both_ways : (e f : Seg) → IsTrue (is_seg_before e f) → IsTrue (is_seg_before f e) → ⊥
before_both_ways e f h k = true≢false (sym k ∙ is_seg_before-asymm e f h)

odd_both_ways : (o p : OddUse) → IsTrue (is_odd_before o p) → IsTrue (is_odd_before p o) → ⊥
odd_both_ways o p h k = grind (arith, nat_tests)

module _ (uses : List EdgeUse) where
  pub same_edges : (edges others : List Seg) (odd odd_too : List OddUse) → AreEdges uses edges odd → AreEdges uses others odd_too → edges ≡ others
  same_edges edges others odd odd_too h k =
      same_ordered (λ e f. IsTrue (is_seg_before e f)) before_both_ways edges others h.ascending k.ascending
      (λ e. (λ i. (k.exact e).1 ((h.exact e).0 i), λ i. (h.exact e).1 ((k.exact e).0 i)))

  pub same_pairs : (edges : List Seg) (odd odd_too : List OddUse) → AreOddPairs uses edges odd → AreOddPairs uses edges odd_too → odd ≡ odd_too
  same_pairs edges odd odd_too h k =
      same_ordered (λ o p. IsTrue (is_odd_before o p)) odd_both_ways odd odd_too h.ascending k.ascending
      (λ o. (λ i. (k.exact o).1 ((h.exact o).0 i), λ i. (h.exact o).1 ((k.exact o).0 i)))

  pub same_live : (edges others : List Seg) (odd odd_too : List OddUse) → AreLiveEdges uses edges odd → AreLiveEdges uses others odd_too → edges ≡ others
  same_live edges others odd odd_too h k =
      same_ordered (λ e f. IsTrue (is_seg_before e f)) before_both_ways edges others h.ascending k.ascending
      (λ e. (λ i. (k.exact e).1 ((h.exact e).0 i), λ i. (h.exact e).1 ((k.exact e).0 i)))

-- ---- chains

same_chains : (segs : List Seg) (uses : List EdgeUse) (chains others : List (List Coord)) → All (λ u. IsSegInRange u.seg) uses
    → AllZip (λ u chain. IsChain segs u.seg chain) uses chains → AllZip (λ u chain. IsChain segs u.seg chain) uses others → chains ≡ others
same_chains segs [] [] [] in_range each each_too = refl
same_chains segs [] [] (d ∷ others) in_range each each_too = absurd each_too
same_chains segs [] (c ∷ chains) others in_range each each_too = absurd each
same_chains segs (u ∷ uses) [] others in_range each each_too = absurd each
same_chains segs (u ∷ uses) (c ∷ chains) [] in_range each each_too = absurd each_too
same_chains segs (u ∷ uses) (c ∷ chains) (d ∷ others) in_range each each_too =
    let first = chain_unique segs u.seg (rises-in_range u.seg (in_range zero u (omega arith))) c d each.0 each_too.0 in
    let rest = same_chains segs uses chains others (λ k e within. in_range (suc k) e (omega arith)) each.1 each_too.1 in
    λ i. first i ∷ rest i

pub same_snapped : (uses snapped others : List EdgeUse) → All (λ u. IsSegInRange u.seg) uses → AreSnapped uses snapped → AreSnapped uses others → snapped ≡ others
same_snapped uses snapped others in_range h k =
    h.made ∙ ap (snapped_uses uses) (same_chains (segments uses) uses h.chains k.chains in_range h.are_chains k.are_chains) ∙ sym k.made

-- ---- so the noding is one

pub one_noding : (uses : List EdgeUse) → All (λ u. IsSegInRange u.seg) uses → (edges others : List Seg) (odd odd_too : List OddUse) → IsNoded uses edges odd → IsNoded uses others odd_too
    → (edges ≡ others) × (odd ≡ odd_too)
one_noding uses in_range edges others odd odd_too h k =
    let snapped = same_snapped uses h.snapped k.snapped in_range h.are_snapped k.are_snapped in
    let are : AreEdges h.snapped others odd_too = subst (λ (us : List EdgeUse). AreEdges us others odd_too) (sym snapped) k.are_edges in
    let same = same_edges h.snapped edges others odd odd_too h.are_edges are in
    (same, same_pairs h.snapped edges odd odd_too h.are_edges.pairs (subst (λ (es : List Seg). AreOddPairs h.snapped es odd_too) (sym same) are.pairs))
