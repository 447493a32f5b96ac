-- The segments of the uses that do not cancel are the live edges of the uses as those of one member.
use mathlib.Core.List.{[], ◌∷◌}
use Rattle.std.proofs.Common.{◌≡◌, refl, sym, ◌∙◌, ap, subst, ℕ, ◌+◌, ◌<◌, ◌%◌, ◌==◌, ◌&&◌, ◌↔◌, cond, List, length, get_or, IsTrue, Some, slice_get, IsPermutation, arith}
use Rattle.std.specs.Prelude.{All, Contains}
use Rattle.std.proofs.lemmas.Bool.{lt-ltb}
use Rattle.std.proofs.lemmas.Bool.Decides.{Decides-eqb}
use Rattle.std.proofs.lemmas.List.Elements.{All-contains, Contains-get_or}
use Rattle.std.proofs.lemmas.List.Folds.{list_any-from_Any}
use Rattle.std.proofs.lemmas.List.Sorted.{sum_by-IsPermutation}
use Rattle.std.proofs.lemmas.List.Sums.{sum_by-cons}
use Rattle.std.proofs.lemmas.Option.{slice_get_within, get_or_from_slice_get}
use Rattle.cov_types.specs.Range.{IsSegInRange}
use Rattle.cov_types.specs.Uses.{ends_inside, HasEvenEnds}
use Rattle.cov_types.specs.declared.edge_use.EdgeUse.{EdgeUse}
use Rattle.cov_types.specs.declared.seg.Seg.{Seg}
use Rattle.plane.specs.Noded.{IsNodedFully}
use Rattle.crossing_laws.specs.Across.{is_same_seg, times, member_times}
use Rattle.sector_laws.specs.Sector.{IsPlanar}
use Rattle.arrangement.specs.declared.odd_use.OddUse.{OddUse}
use Rattle.arrangement.specs.Noding.{segments, IsAscending, IsOdd, is_odd_before, AreOddPairs, AreLiveEdges, odd_uses}
use Rattle.arrangement.proofs.Labels.{mapped}
use Rattle.arrangement.proofs.OddUses.{same_parity, odd_used}
use Rattle.half_edge.proofs.Tables.{some_at}
use Rattle.snap_noder.specs.Order.{AreOddAscending}
use Rattle.snap_noder.specs.Places.{HavePlaces, AreAllUsed}
use Rattle.cov_union.specs.Rim.{merged, AreFirstPairs}
use Rattle.cov_union.proofs.Merged.{times_merged, merged_segments}

-- member 0 uses a segment as often as it stands among the segments
member_0_times : (e : Seg) (uses : List EdgeUse) → member_times e (merged uses) 0 ≡ times e (segments uses)
member_0_times e [] = refl
member_0_times e (u ∷ uses) =
    let rest = member_0_times e uses in
    let a = sum_by-cons (λ (v : EdgeUse). cond ((v.member == 0) && is_same_seg e v.seg) 1 0) (record { member = 0; seg = u.seg }) (merged uses) in
    let b = sum_by-cons (λ (s : Seg). cond (is_same_seg e s) 1 0) u.seg (segments uses) in
    omega (arith, rest, a, b)

same_pair : (o : OddUse) (k : ℕ) → o.member ≡ 0 → o.edge ≡ k → record { member = 0; edge = k } ≡ o
same_pair o k no_member at = λ i. record { member = sym no_member i; edge = sym at i }

pair_before : (j k : ℕ) → j < k → IsTrue (is_odd_before (record { member = 0; edge = j }) (record { member = 0; edge = k }))
pair_before j k less = lt-ltb j k less

module _ (uses : List EdgeUse) (sorted edges : List Seg) (odd : List OddUse) (same : IsPermutation (segments uses) sorted) (exact : (e : Seg) → Contains edges e ↔ (times e sorted % 2 ≡ 1)) (ascending : IsAscending edges)
    (pairs : AreFirstPairs (length edges) odd) where
  sorted_times : (e : Seg) → times e sorted ≡ member_times e (merged uses) 0
  sorted_times e = sum_by-IsPermutation (λ (s : Seg). cond (is_same_seg e s) 1 0) (segments uses) sorted same ∙ sym (member_0_times e uses)

  is_odd : (e : Seg) → Contains edges e → IsOdd (merged uses) 0 e
  is_odd e has = ap (λ n. n % 2) (sym (sorted_times e)) ∙ (exact e).0 has

  listed : (m : ℕ) (e : Seg) → IsOdd (merged uses) m e → Contains edges e
  listed m e odd_here =
      let first : IsOdd (merged uses) 0 e = subst (λ n. IsOdd (merged uses) n e) (times_merged e uses m odd_here) odd_here in
      (exact e).1 (ap (λ n. n % 2) (sorted_times e) ∙ first)

  contained_at : (k : ℕ) (e : Seg) → slice_get edges k ≡ Some e → Contains edges e
  contained_at k e at = (k, slice_get_within edges k e at, get_or_from_slice_get edges k e e at)

  pub rim_odd_up : AreOddAscending odd
  rim_odd_up i j d before within =
      let count = pairs.count in
      subst (λ (o : OddUse). IsTrue (is_odd_before o (get_or odd j d))) (sym (pairs.each i d (omega (arith, count, before, within))))
      (subst (λ (o : OddUse). IsTrue (is_odd_before (record { member = 0; edge = i }) o)) (sym (pairs.each j d (omega (arith, count, within)))) (pair_before i j before))

  -- the pair of each place
  pair_at : (k : ℕ) (o : OddUse) → k < length edges → o.member ≡ 0 → o.edge ≡ k → Contains odd o
  pair_at k o within no_member at = (let count = pairs.count in (k, omega (arith, count, within), pairs.each k o within ∙ same_pair o k no_member at))

  pub rim_live : AreLiveEdges (merged uses) edges odd
  rim_live = record {
    ascending = ascending;
    exact = λ e. (λ has. (0, is_odd e has), λ (m, odd_here). listed m e odd_here);
    pairs = record { ascending = rim_odd_up; exact = λ o. (there o, back o) };
  }
    where
      there : (o : OddUse) → Contains odd o → (e : Seg) × ((slice_get edges o.edge ≡ Some e) × IsOdd (merged uses) o.member e)
      there o (k, within, is) =
          let count = pairs.count in
          let inside : k < length edges = omega (arith, count, within) in
          let e = some_at edges k inside in
          let pair : record { member = 0; edge = k } ≡ o = sym (pairs.each k o inside) ∙ is in
          subst (λ (p : OddUse). (f : Seg) × ((slice_get edges p.edge ≡ Some f) × IsOdd (merged uses) p.member f)) pair (e.0, (e.1, is_odd e.0 (contained_at k e.0 e.1)))

      back : (o : OddUse) → (e : Seg) × ((slice_get edges o.edge ≡ Some e) × IsOdd (merged uses) o.member e) → Contains odd o
      back o (e, (at, odd_here)) = pair_at o.edge o (slice_get_within edges o.edge e at) (times_merged e uses o.member odd_here) refl

  pub rim_places : HavePlaces edges odd
  rim_places k d within =
      let count = pairs.count in
      let inside : k < length edges = omega (arith, count, within) in
      subst (λ (o : OddUse). o.edge < length edges) (sym (pairs.each k d inside)) inside

  pub rim_used : AreAllUsed edges odd
  rim_used k within =
      let p : OddUse = record { member = 0; edge = k } in
      let pair = pair_at k p within refl refl in
      list_any-from_Any (λ (q : OddUse). q.edge == k) odd (pair.0, p, pair.1, pair.2, (Decides-eqb k k).1 refl)

  -- ---- the edges are segments

  of_segments : (e : Seg) → Contains edges e → Contains (segments uses) e
  of_segments e has = subst (λ (s : List Seg). Contains s e) (merged_segments uses) (odd_used (merged uses) 0 e (is_odd e has))

  pub rim_planar : All (λ u. IsSegInRange u.seg) uses → IsNodedFully (segments uses) → IsPlanar edges
  rim_planar in_range noded = record {
    in_range = λ k d within. mapped (λ (u : EdgeUse). u.seg) IsSegInRange uses (λ u has. All-contains (λ (v : EdgeUse). IsSegInRange v.seg) uses u in_range has) _ (of_segments _ (Contains-get_or edges k d within));
    noded = λ e f has_e has_f. noded e f (of_segments e has_e) (of_segments f has_f);
  }

  pub rim_even : HasEvenEnds (merged uses) → HasEvenEnds (odd_uses edges odd)
  rim_even even inside member =
      sym (same_parity (merged uses) edges odd ascending rim_live.pairs (λ m e odd_here. listed m e odd_here) (λ (u : EdgeUse). cond (u.member == member) (ends_inside inside u.seg) 0)) ∙ even inside member
