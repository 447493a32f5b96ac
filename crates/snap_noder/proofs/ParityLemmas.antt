-- Uses, the places of their edges, and which of them are odd.
use mathlib.Core.List.{[], ◌∷◌}
use Rattle.std.proofs.Common.{◌≡◌, inl, inr, refl, sym, ◌∙◌, ap, subst, ℕ, ◌+◌, ◌%◌, ◌↔◌, cond, List, get_or, Some, unwrap_or, Option, slice_get, IsPermutation, map, arith}
use Rattle.std.specs.Prelude.{All, Contains}
use Rattle.std.specs.List.{AllZip}
use Rattle.std.specs.Cmp.{both_ways}
use Rattle.std.proofs.lemmas.List.Elements.{All-contains, Contains-get_or}
use Rattle.std.proofs.lemmas.List.Sorted.{sum_by-IsPermutation, IsPermutation-sym, IsPermutation-map, Contains-permutation}
use Rattle.std.proofs.lemmas.List.Sums.{sum_by-cons}
use Rattle.std.proofs.lemmas.Option.{slice_get_within}
use Rattle.cov_types.specs.Range.{IsSegInRange}
use Rattle.cov_types.specs.declared.edge_use.EdgeUse.{EdgeUse}
use Rattle.cov_types.specs.declared.seg.Seg.{Seg}
use Rattle.cov_types.proofs.Equal.{same_uses}
use Rattle.plane.specs.Noded.{IsNodedFully}
use Rattle.crossing_laws.specs.Across.{member_times}
use Rattle.crossing_laws.proofs.Lists.{contains_here, contains_there}
use Rattle.arrangement.specs.declared.odd_use.OddUse.{OddUse}
use Rattle.arrangement.specs.Noding.{segments, IsAscending, IsOdd, AreEdges}
use Rattle.arrangement.proofs.OddUses.{is_same_use, Decides-same_use, one_place}
use Rattle.snap_noder.specs.Order.{AreOddAscending}
use Rattle.snap_noder.specs.Places.{HavePlaces, odd_times, HasEdgePlace, HaveEdgeNumbers}
use Rattle.snap_noder.proofs.OddOrder.{is_same_odd, Decides-same_odds, same_odds}
use Rattle.snap_noder.proofs.Times.{contains_cases, odd_has}

-- ---- what a list maps to

pub contains_mapped : {X Y : Type 0} (f : X → Y) (xs : List X) (y : Y) → Contains (map f xs) y → (x : X) × (Contains xs x × (f x ≡ y))
contains_mapped f [] y (k, within, is) = absurd (omega arith)
contains_mapped f (x ∷ xs) y h =
    elim (contains_cases (f x) y (map f xs) h) [
      | inl here ↦ (x, (contains_here x xs, here))
      | inr later ↦ (let rest = contains_mapped f xs y later in (rest.0, (contains_there x rest.0 xs rest.1.0, rest.1.1)))
    ]

some_is : {X : Type 0} (x y : X) → Some x ≡ Some y → x ≡ y
some_is {X} x y e = ap (λ (o : Option X). unwrap_or o x) e

-- ---- the pair of a use

-- the pairs are those of the uses, in some order
abbrev pub ArePlacesOf : List EdgeUse → List Seg → List OddUse → Type 0
ArePlacesOf uses edges pairs = (placed : List OddUse) × (AllZip (HasEdgePlace edges) uses placed × IsPermutation placed pairs)

-- in ascending edges a use has one pair
one_pair : (edges : List Seg) → IsAscending edges → (u v : EdgeUse) (o p : OddUse) → HasEdgePlace edges u o → HasEdgePlace edges v p → u ≡ v → o ≡ p
one_pair edges up u v o p at_o at_p same =
    same_odds o p (at_o.0 ∙ ap (λ (w : EdgeUse). w.member) same ∙ sym at_p.0)
    (one_place edges up o.edge p.edge v.seg (at_o.1 ∙ ap (λ (w : EdgeUse). Some w.seg) same) at_p.1)

-- and a pair has one use
one_use : (edges : List Seg) (u v : EdgeUse) (o p : OddUse) → HasEdgePlace edges u o → HasEdgePlace edges v p → o ≡ p → u ≡ v
one_use edges u v o p at_o at_p same =
    same_uses u v (sym at_o.0 ∙ ap (λ (q : OddUse). q.member) same ∙ at_p.0)
    (some_is u.seg v.seg (sym at_o.1 ∙ ap (λ (q : OddUse). slice_get edges q.edge) same ∙ at_p.1))

-- ---- how often

module _ (edges : List Seg) (up : IsAscending edges) where
  same_tests : (u v : EdgeUse) (o p : OddUse) → HasEdgePlace edges u o → HasEdgePlace edges v p → is_same_odd p o ≡ is_same_use v u
  same_tests u v o p at_o at_p =
      both_ways (is_same_odd p o) (is_same_use v u)
      (λ h. (Decides-same_use v u).1 (one_use edges v u p o at_p at_o ((Decides-same_odds p o).0 h)))
      (λ h. (Decides-same_odds p o).1 (one_pair edges up v u p o at_p at_o ((Decides-same_use v u).0 h)))

  -- a pair stands as often among the places as its use among the uses
  placed_times : (u : EdgeUse) (o : OddUse) → HasEdgePlace edges u o → (uses : List EdgeUse) (placed : List OddUse) → AllZip (HasEdgePlace edges) uses placed → odd_times o placed ≡ member_times u.seg uses u.member
  placed_times u o at_o [] [] each = refl
  placed_times u o at_o [] (p ∷ placed) each = absurd each
  placed_times u o at_o (v ∷ uses) [] each = absurd each
  placed_times u o at_o (v ∷ uses) (p ∷ placed) each =
      sum_by-cons (λ q. cond (is_same_odd q o) 1 0) p placed
      ∙ (λ i. cond (same_tests u v o p at_o each.0 i) 1 0 + placed_times u o at_o uses placed each.1 i)
      ∙ sym (sum_by-cons (λ w. cond (is_same_use w u) 1 0) v uses)

  pub pair_times : (u : EdgeUse) (o : OddUse) (uses : List EdgeUse) (pairs : List OddUse) → HasEdgePlace edges u o → ArePlacesOf uses edges pairs → odd_times o pairs ≡ member_times u.seg uses u.member
  pair_times u o uses pairs at_o (placed, (each, moved)) = sum_by-IsPermutation (λ q. cond (is_same_odd q o) 1 0) placed pairs moved ∙ placed_times u o at_o uses placed each

  -- each pair is that of a use
  placed_use : (uses : List EdgeUse) (placed : List OddUse) → AllZip (HasEdgePlace edges) uses placed → (o : OddUse) → Contains placed o → (u : EdgeUse) × HasEdgePlace edges u o
  placed_use [] [] each o (k, within, is) = absurd (omega arith)
  placed_use [] (p ∷ placed) each o h = absurd each
  placed_use (v ∷ uses) [] each o (k, within, is) = absurd (omega arith)
  placed_use (v ∷ uses) (p ∷ placed) each o h =
      elim (contains_cases p o placed h) [
        | inl here ↦ (v, subst (λ (q : OddUse). HasEdgePlace edges v q) here each.0)
        | inr later ↦ placed_use uses placed each.1 o later
      ]

  -- what the code ends with
  module _ (uses : List EdgeUse) (pairs odd : List OddUse) (places : ArePlacesOf uses edges pairs) (exact : (o : OddUse) → Contains odd o ↔ (odd_times o pairs % 2 ≡ 1)) where
    use_of : (o : OddUse) → Contains pairs o → (u : EdgeUse) × HasEdgePlace edges u o
    use_of o has = placed_use uses places.0 places.1.0 o (Contains-permutation pairs places.0 o (IsPermutation-sym places.0 pairs places.1.1) has)

    pub have_places : HavePlaces edges odd
    have_places k d within =
        let o = get_or odd k d in
        let has = odd_has is_same_odd Decides-same_odds o pairs ((exact o).0 (Contains-get_or odd k d within)) in
        let of = use_of o has in
        slice_get_within edges o.edge of.0.seg of.1.1

    pub edges_are : AreOddAscending odd → ((e : Seg) → Contains edges e ↔ Contains (segments uses) e) → AreEdges uses edges odd
    edges_are odd_up listed = record { ascending = up; exact = listed; pairs = record { ascending = odd_up; exact = λ o. (there o, back o) } }
      where
        there : (o : OddUse) → Contains odd o → (e : Seg) × ((slice_get edges o.edge ≡ Some e) × IsOdd uses o.member e)
        there o h =
            let is_odd = (exact o).0 h in
            let of = use_of o (odd_has is_same_odd Decides-same_odds o pairs is_odd) in
            let times : odd_times o pairs ≡ member_times of.0.seg uses of.0.member = pair_times of.0 o uses pairs of.1 places in
            (of.0.seg, (of.1.1, ap (λ n. n % 2) (ap (member_times of.0.seg uses) of.1.0 ∙ sym times) ∙ is_odd))

        back : (o : OddUse) → (e : Seg) × ((slice_get edges o.edge ≡ Some e) × IsOdd uses o.member e) → Contains odd o
        back o (e, (at, is_odd)) = (exact o).1 (ap (λ n. n % 2) (pair_times (record { member = o.member; seg = e }) o uses pairs (refl, at) places) ∙ is_odd)

-- ---- uses in another order

reordered : (uses sorted : List EdgeUse) (edges : List Seg) (odd : List OddUse) → IsPermutation uses sorted → AreEdges sorted edges odd → AreEdges uses edges odd
reordered uses sorted edges odd moved are = record {
  ascending = are.ascending;
  exact = λ e. (λ has. back e ((are.exact e).0 has), λ used. (are.exact e).1 (there e used));
  pairs = record {
    ascending = are.pairs.ascending;
    exact = λ o. (
      λ has. (let is = (are.pairs.exact o).0 has in (is.0, (is.1.0, ap (λ n. n % 2) (sym (times is.0 o.member)) ∙ is.1.1))),
      λ is. (are.pairs.exact o).1 (is.0, (is.1.0, ap (λ n. n % 2) (times is.0 o.member) ∙ is.1.1)),
    );
  };
}
  where
    moved_segments : IsPermutation (segments uses) (segments sorted)
    moved_segments = IsPermutation-map (λ (u : EdgeUse). u.seg) uses sorted moved

    there : (e : Seg) → Contains (segments uses) e → Contains (segments sorted) e
    there e has = Contains-permutation (segments uses) (segments sorted) e moved_segments has

    back : (e : Seg) → Contains (segments sorted) e → Contains (segments uses) e
    back e has = Contains-permutation (segments sorted) (segments uses) e (IsPermutation-sym (segments uses) (segments sorted) moved_segments) has

    times : (e : Seg) (member : ℕ) → member_times e sorted member ≡ member_times e uses member
    times e member = sum_by-IsPermutation (λ u. cond (is_same_use u (record { member = member; seg = e })) 1 0) uses sorted moved

-- what the code ends with: sorted uses are numbered, which it read through a slice, the pairs are sorted and cancelled
module _ (uses sorted read : List EdgeUse) (edges : List Seg) (numbered pairs shown odd : List OddUse) (moved : IsPermutation uses sorted) (same : read ≡ sorted) (are : HaveEdgeNumbers read edges numbered)
    (moved_pairs : IsPermutation numbered pairs) (same_pairs : shown ≡ pairs) (exact : (o : OddUse) → Contains odd o ↔ (odd_times o shown % 2 ≡ 1)) where
  at_sorted : HaveEdgeNumbers sorted edges numbered
  at_sorted = subst (λ (us : List EdgeUse). HaveEdgeNumbers us edges numbered) same are

  places : ArePlacesOf sorted edges pairs
  places = (numbered, (at_sorted.placed, moved_pairs))

  at_pairs : (o : OddUse) → Contains odd o ↔ (odd_times o pairs % 2 ≡ 1)
  at_pairs o = subst (λ (ps : List OddUse). Contains odd o ↔ (odd_times o ps % 2 ≡ 1)) same_pairs (exact o)

  pub found_ascending : IsAscending edges
  found_ascending = at_sorted.ascending

  pub found_places : HavePlaces edges odd
  found_places = have_places edges at_sorted.ascending sorted pairs odd places at_pairs

  pub found_edges : AreOddAscending odd → AreEdges uses edges odd
  found_edges odd_up = reordered uses sorted edges odd moved (edges_are edges at_sorted.ascending sorted pairs odd places at_pairs odd_up at_sorted.exact)

-- ---- what holds of the segments holds of the edges

pub edges_within : (uses : List EdgeUse) (edges : List Seg) → ((e : Seg) → Contains edges e ↔ Contains (segments uses) e) → All (λ u. IsSegInRange u.seg) uses → All IsSegInRange edges
edges_within uses edges listed in_range k d within =
    let u = contains_mapped (λ (v : EdgeUse). v.seg) uses (get_or edges k d) ((listed (get_or edges k d)).0 (Contains-get_or edges k d within)) in
    subst IsSegInRange u.1.1 (All-contains (λ (v : EdgeUse). IsSegInRange v.seg) uses u.0 in_range u.1.0)

pub edges_noded : (uses : List EdgeUse) (edges : List Seg) → ((e : Seg) → Contains edges e ↔ Contains (segments uses) e) → IsNodedFully (segments uses) → IsNodedFully edges
edges_noded uses edges listed noded e f has_e has_f = noded e f ((listed e).0 has_e) ((listed f).0 has_f)
