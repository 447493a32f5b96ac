-- Odd pairs whose edges are renumbered among the marked ones stand for the same uses.
use mathlib.Core.List.{[], ◌∷◌}
use Rattle.std.proofs.Common.{◌≡◌, inl, inr, refl, sym, ◌∙◌, ap, subst, ℕ, zero, suc, ◌+◌, ◌<◌, ◌==◌, ◌||◌, ◌&&◌, ◌↔◌, Bool, true, false, cond, List, ◌++◌, get_or, length, take, map, Some, slice_get, IsTrue, nat_lt, arith}
use Rattle.std.specs.Prelude.{All, AllPairs, Contains, option_to_list, slice_index, unwrap_or}
use Rattle.std.specs.List.{list_any}
use Rattle.std.proofs.lemmas.Bool.Decides.{Decides-eqb, nat_tests}
use Rattle.std.proofs.lemmas.List.{get_or-map, length-map}
use Rattle.std.proofs.lemmas.List.Elements.{All-contains, Contains-get_or}
use Rattle.std.proofs.lemmas.List.Folds.{list_any-from_Any, Any-from_list_any}
use Rattle.std.proofs.lemmas.List.Kept.{AllPairs-cons}
use Rattle.std.proofs.lemmas.List.Sums.{sum_by-cons}
use Rattle.std.proofs.lemmas.Option.{slice_get_within, get_or_from_slice_get}
use Rattle.cov_types.specs.Range.{IsSegInRange}
use Rattle.cov_types.specs.Seg.{is_seg_before}
use Rattle.cov_types.specs.Uses.{HasEvenEnds}
use Rattle.cov_types.specs.declared.edge_use.EdgeUse.{EdgeUse}
use Rattle.cov_types.specs.declared.seg.Seg.{Seg}
use Rattle.sector_laws.specs.Sector.{AreDistinct, IsPlanar}
use Rattle.crossing_laws.proofs.Lists.{contains_here, contains_there}
use Rattle.hot_pixel.proofs.Ascending.{all_pairs_head, all_pairs_tail}
use Rattle.arrangement.specs.declared.odd_use.OddUse.{OddUse}
use Rattle.arrangement.specs.Noding.{IsAscending, IsOdd, AreLiveEdges, odd_uses, is_odd_before}
use Rattle.arrangement.proofs.OddUses.{pair_of, has_use, one_place, odd_use_listed, distinct_uses}
use Rattle.snap_noder.specs.Marked.{AreUseMarks, marked, marked_before, ArePrefixCounts}
use Rattle.snap_noder.specs.Order.{AreOddAscending}
use Rattle.snap_noder.specs.Places.{HavePlaces, AreAllUsed}
use Rattle.snap_noder.proofs.LiveUses.{odd_in_distinct, ascending_distinct}
use Rattle.snap_noder.proofs.OddOrder.{same_odds}
use Rattle.snap_noder.proofs.ParityLemmas.{contains_mapped}
use Rattle.snap_noder.proofs.Places.{contained_at, get_or_at}
use Rattle.snap_noder.proofs.Times.{contains_cases}

-- ---- the marked edges

-- one more mark at the front
counted_first : (m : Bool) (marks : List Bool) (k : ℕ) → marked_before (m ∷ marks) (suc k) ≡ cond m 1 0 + marked_before marks k
counted_first m marks k = sum_by-cons (λ (t : Bool). cond t 1 0) m (take k marks)

-- a marked edge stands among the marked ones at the number of those before it
pub marked_at : (edges : List Seg) (marks : List Bool) (k : ℕ) (e : Seg) → slice_get edges k ≡ Some e → slice_get marks k ≡ Some true → slice_get (marked edges marks) (marked_before marks k) ≡ Some e
marked_at [] marks k e at mark = absurd (omega (arith, slice_get_within [] k e at))
marked_at (x ∷ edges) [] k e at mark = absurd (omega (arith, slice_get_within [] k true mark))
marked_at (x ∷ edges) (true ∷ marks) zero e at mark = at
marked_at (x ∷ edges) (false ∷ marks) zero e at mark = cc
marked_at (x ∷ edges) (true ∷ marks) (suc k) e at mark =
    let next : marked_before (true ∷ marks) (suc k) ≡ suc (marked_before marks k) = counted_first true marks k ∙ omega arith in
    ap (slice_get (x ∷ marked edges marks)) next ∙ marked_at edges marks k e at mark
marked_at (x ∷ edges) (false ∷ marks) (suc k) e at mark =
    let next : marked_before (false ∷ marks) (suc k) ≡ marked_before marks k = counted_first false marks k ∙ omega arith in
    ap (slice_get (marked edges marks)) next ∙ marked_at edges marks k e at mark

-- and each of them is a marked edge
pub marked_from : (edges : List Seg) (marks : List Bool) (e : Seg) → Contains (marked edges marks) e → (k : ℕ) × ((slice_get edges k ≡ Some e) × (slice_get marks k ≡ Some true))
marked_from [] marks e (k, within, is) = absurd (omega arith)
marked_from (x ∷ edges) [] e (k, within, is) = absurd (omega arith)
marked_from (x ∷ edges) (true ∷ marks) e has =
    elim (contains_cases x e (marked edges marks) has) [
      | inl here ↦ (0, (ap Some here, refl))
      | inr later ↦ (let rest = marked_from edges marks e later in (suc rest.0, rest.1))
    ]
marked_from (x ∷ edges) (false ∷ marks) e has = let rest = marked_from edges marks e has in (suc rest.0, rest.1)

-- they are in the order of the edges
pub marked_in_order : (R : Seg → Seg → Type 0) (edges : List Seg) (marks : List Bool) → AllPairs R edges → AllPairs R (marked edges marks)
marked_in_order R [] marks up = λ i j d before within. absurd (omega arith)
marked_in_order R (x ∷ edges) [] up = λ i j d before within. absurd (omega arith)
marked_in_order R (x ∷ edges) (true ∷ marks) up =
    AllPairs-cons R x (marked edges marks)
    (λ k d within. (
    let from = marked_from edges marks (get_or (marked edges marks) k d) (Contains-get_or (marked edges marks) k d within) in
    All-contains (R x) edges (get_or (marked edges marks) k d) (all_pairs_head R x edges up) (contained_at edges from.0 (get_or (marked edges marks) k d) from.1.0)))
    (marked_in_order R edges marks (all_pairs_tail R x edges up))
marked_in_order R (x ∷ edges) (false ∷ marks) up = marked_in_order R edges marks (all_pairs_tail R x edges up)

-- past a marked one there are more
pub counted_less : (marks : List Bool) (i j : ℕ) → slice_get marks i ≡ Some true → i < j → marked_before marks i < marked_before marks j
counted_less [] i j mark less = absurd (omega (arith, slice_get_within [] i true mark))
counted_less (m ∷ marks) i zero mark less = absurd (omega arith)
counted_less (true ∷ marks) zero (suc j) mark less = omega (arith, counted_first true marks j)
counted_less (false ∷ marks) zero (suc j) mark less = cc
counted_less (m ∷ marks) (suc i) (suc j) mark less = omega (arith, counted_first m marks i, counted_first m marks j, counted_less marks i j mark (omega arith))

-- pairs stay in order where the numbers of one member's edges rise
rises : (m n a b x y : ℕ) → IsTrue (nat_lt m n || ((m == n) && nat_lt a b)) → (a < b → x < y) → IsTrue (nat_lt m n || ((m == n) && nat_lt x y))
rises m n a b x y before step = grind (arith, nat_tests)

-- ---- live edges: those that are marked, and the pairs with their numbers

-- the pair with the number of its edge
abbrev number : List ℕ → OddUse → OddUse
number counts o = record { member = o.member; edge = slice_index counts o.edge }

-- what the code makes
pub record AreRenumbered (edges : List Seg) (odd : List OddUse) (live : List Seg) (live_odd : List OddUse) : Type 0 where
  pub marks : List Bool
  pub counts : List ℕ
  pub are_marks : AreUseMarks edges odd marks
  pub are_counts : ArePrefixCounts marks counts
  pub kept : live ≡ marked edges marks
  pub numbered : live_odd ≡ map (λ o. record { member = o.member; edge = slice_index counts o.edge }) odd

-- what the code makes, which it read through slices
pub renumbered_by : (edges seen live : List Seg) (odd pairs live_odd : List OddUse) (marks marks_seen marks_read : List Bool) (counts counts_read : List ℕ) → AreUseMarks edges odd marks → seen ≡ edges → marks_seen ≡ marks → marks_read ≡ marks
    → pairs ≡ odd → counts_read ≡ counts → live ≡ marked seen marks_seen → ArePrefixCounts marks_read counts
    → live_odd ≡ map (λ o. record { member = o.member; edge = slice_index counts_read o.edge }) pairs → AreRenumbered edges odd live live_odd
renumbered_by edges seen live odd pairs live_odd marks marks_seen marks_read counts counts_read are same same_marks read same_pairs same_counts kept counted made = record {
  marks = marks;
  counts = counts;
  are_marks = are;
  are_counts = subst (λ (ms : List Bool). ArePrefixCounts ms counts) read counted;
  kept = kept ∙ (λ i. marked (same i) (same_marks i));
  numbered = made ∙ (λ i. map (λ o. record { member = o.member; edge = slice_index (same_counts i) o.edge }) (same_pairs i));
}

-- each number is in place among the counts
pub counts_in_place : (edges : List Seg) (odd pairs : List OddUse) (marks marks_read : List Bool) (counts counts_read : List ℕ) → HavePlaces edges odd → AreUseMarks edges odd marks → marks_read ≡ marks → ArePrefixCounts marks_read counts → pairs ≡ odd
    → counts_read ≡ counts → All (λ o. o.edge < length counts_read) pairs
counts_in_place edges odd pairs marks marks_read counts counts_read places are read counted same_pairs same_counts k d within =
    let place = places k d (omega (arith, ap length same_pairs)) in
    let edge = ap (λ (ps : List OddUse). (get_or ps k d).edge) same_pairs in
    omega (arith, ap length same_counts, counted.long, ap length read, are.long)

module _ (edges : List Seg) (odd : List OddUse) (up : IsAscending edges) (odd_up : AreOddAscending odd) (places : HavePlaces edges odd) (live : List Seg) (live_odd : List OddUse) (are : AreRenumbered edges odd live live_odd) where
  -- the edge of a pair
  edge_of : (o : OddUse) → Contains odd o → (e : Seg) × (slice_get edges o.edge ≡ Some e)
  edge_of o has = get_or_at edges o.edge (All-contains (λ (p : OddUse). p.edge < length edges) odd o places has)

  is_marked : (o : OddUse) → Contains odd o → slice_get are.marks o.edge ≡ Some true
  is_marked o has =
      are.are_marks.each o.edge (All-contains (λ (p : OddUse). p.edge < length edges) odd o places has)
      ∙ ap Some (list_any-from_Any (λ (p : OddUse). p.edge == o.edge) odd (has.0, o, has.1, has.2, (Decides-eqb o.edge o.edge).1 refl))

  number_is : (o : OddUse) → Contains odd o → slice_index are.counts o.edge ≡ marked_before are.marks o.edge
  number_is o has =
      get_or_from_slice_get are.counts o.edge (marked_before are.marks o.edge) 0
      (are.are_counts.each o.edge (omega (arith, are.are_marks.long, All-contains (λ (p : OddUse). p.edge < length edges) odd o places has)))

  stands_at : (o : OddUse) → Contains odd o → (e : Seg) → slice_get edges o.edge ≡ Some e → slice_get live (slice_index are.counts o.edge) ≡ Some e
  stands_at o has e at =
      (λ i. slice_get (are.kept i) (number_is o has i)) ∙ marked_at edges are.marks o.edge e at (is_marked o has)

  -- the pairs stand for the same uses
  uses_along : (os : List OddUse) → ((o : OddUse) → Contains os o → Contains odd o) → odd_uses live (map (λ o. record { member = o.member; edge = slice_index are.counts o.edge }) os) ≡ odd_uses edges os
  uses_along [] among = refl
  uses_along (o ∷ os) among =
      let has = among o (contains_here o os) in
      let e = edge_of o has in
      let name : Seg → EdgeUse = λ s. record { member = o.member; seg = s } in
      λ i. map name (option_to_list ((stands_at o has e.0 e.1 ∙ sym e.1) i)) ++ uses_along os (λ p h. among p (contains_there o p os h)) i

  pub same_uses : odd_uses live live_odd ≡ odd_uses edges odd
  same_uses = ap (odd_uses live) are.numbered ∙ uses_along odd (λ o h. h)

  -- a pair of a live edge is the new pair of a pair
  old_pair : (p : OddUse) → Contains live_odd p → (o : OddUse) × (Contains odd o × (number are.counts o ≡ p))
  old_pair p has = contains_mapped (number are.counts) odd p (subst (λ (ps : List OddUse). Contains ps p) are.numbered has)

  -- ---- the clauses

  pub live_up : IsAscending live
  live_up = subst IsAscending (sym are.kept) (marked_in_order (λ e f. IsTrue (is_seg_before e f)) edges are.marks up)

  pub live_fewer : (e : Seg) → Contains live e → Contains edges e
  live_fewer e has =
      let from = marked_from edges are.marks e (subst (λ (es : List Seg). Contains es e) are.kept has) in
      contained_at edges from.0 e from.1.0

  pub live_places : HavePlaces live live_odd
  live_places k d within =
      let p = get_or live_odd k d in
      let o = old_pair p (Contains-get_or live_odd k d within) in
      let e = edge_of o.0 o.1.0 in
      subst (λ (q : OddUse). q.edge < length live) o.1.1 (slice_get_within live (slice_index are.counts o.0.edge) e.0 (stands_at o.0 o.1.0 e.0 e.1))

  -- of two pairs in order, the new ones are in order
  numbers_rise : (o p : OddUse) → Contains odd o → Contains odd p → IsTrue (is_odd_before o p) → IsTrue (is_odd_before (number are.counts o) (number are.counts p))
  numbers_rise o p has_o has_p before =
      rises o.member p.member o.edge p.edge (slice_index are.counts o.edge) (slice_index are.counts p.edge) before
      (λ less. omega (arith, number_is o has_o, number_is p has_p, counted_less are.marks o.edge p.edge (is_marked o has_o) less))

  pub live_odd_up : AreOddAscending live_odd
  live_odd_up = subst AreOddAscending (sym are.numbered) risen
    where
      risen : AreOddAscending (map (number are.counts) odd)
      risen i j d before within =
          let inside : j < length odd = omega (arith, length-map odd (number are.counts)) in
          let first = get_or-map (number are.counts) odd i d d (omega arith) in
          let second = get_or-map (number are.counts) odd j d d inside in
          subst (λ (q : OddUse). IsTrue (is_odd_before (get_or (map (number are.counts) odd) i d) q)) (sym second)
          (subst (λ (q : OddUse). IsTrue (is_odd_before q (number are.counts (get_or odd j d)))) (sym first)
          (numbers_rise (get_or odd i d) (get_or odd j d) (Contains-get_or odd i d (omega arith)) (Contains-get_or odd j d inside) (odd_up i j d before inside)))

  -- a use is odd for its member just where it is listed
  odd_where_listed : (u : EdgeUse) → IsOdd (odd_uses edges odd) u.member u.seg ↔ Contains (odd_uses edges odd) u
  odd_where_listed u = odd_in_distinct u (odd_uses edges odd) (distinct_uses edges up odd odd_up)

  use_is_odd : (o : OddUse) → Contains odd o → (e : Seg) → slice_get edges o.edge ≡ Some e → IsOdd (odd_uses edges odd) o.member e
  use_is_odd o has e at =
      (odd_where_listed (record { member = o.member; seg = e })).1 (has_use edges odd o (record { member = o.member; seg = e }) has (record { member = refl; edge = at }))

  pub are_live : AreLiveEdges (odd_uses edges odd) live live_odd
  are_live = record {
    ascending = live_up;
    exact = λ e. (there e, back e);
    pairs = record { ascending = live_odd_up; exact = λ p. (pair_there p, pair_back p) };
  }
    where
      there : (e : Seg) → Contains live e → (member : ℕ) × IsOdd (odd_uses edges odd) member e
      there e has =
          let from = marked_from edges are.marks e (subst (λ (es : List Seg). Contains es e) are.kept has) in
          let within = slice_get_within edges from.0 e from.1.0 in
          let any : list_any (λ (o : OddUse). o.edge == from.0) odd ≡ true = ap (λ t. unwrap_or t true) (sym (are.are_marks.each from.0 within) ∙ from.1.1) in
          let o = Any-from_list_any (λ (p : OddUse). p.edge == from.0) odd any in
          let at : slice_get edges o.1.edge ≡ Some e = ap (slice_get edges) ((Decides-eqb o.1.edge from.0).0 o.4) ∙ from.1.0 in
          (o.1.member, use_is_odd o.1 (o.0, o.2, o.3) e at)

      back : (e : Seg) → (member : ℕ) × IsOdd (odd_uses edges odd) member e → Contains live e
      back e (member, is_odd) =
          let u : EdgeUse = record { member = member; seg = e } in
          odd_use_listed live live_odd u (subst (λ (us : List EdgeUse). Contains us u) (sym same_uses) ((odd_where_listed u).0 is_odd))

      pair_there : (p : OddUse) → Contains live_odd p → (e : Seg) × ((slice_get live p.edge ≡ Some e) × IsOdd (odd_uses edges odd) p.member e)
      pair_there p has =
          let o = old_pair p has in
          let e = edge_of o.0 o.1.0 in
          subst (λ (q : OddUse). (f : Seg) × ((slice_get live q.edge ≡ Some f) × IsOdd (odd_uses edges odd) q.member f)) o.1.1 (e.0, (stands_at o.0 o.1.0 e.0 e.1, use_is_odd o.0 o.1.0 e.0 e.1))

      pair_back : (p : OddUse) → (e : Seg) × ((slice_get live p.edge ≡ Some e) × IsOdd (odd_uses edges odd) p.member e) → Contains live_odd p
      pair_back p (e, (at, is_odd)) =
          let u : EdgeUse = record { member = p.member; seg = e } in
          let q = pair_of live live_odd u (subst (λ (us : List EdgeUse). Contains us u) (sym same_uses) ((odd_where_listed u).0 is_odd)) in
          subst (λ (r : OddUse). Contains live_odd r) (same_odds q.0 p q.1.1.member (one_place live live_up q.0.edge p.edge e q.1.1.edge at)) q.1.0

  -- each live edge is that of some pair
  pub live_used : AreAllUsed live live_odd
  live_used k within =
      let e = get_or_at live k within in
      let is_odd = (are_live.exact e.0).0 (contained_at live k e.0 e.1) in
      let p : OddUse = record { member = is_odd.0; edge = k } in
      let pair = (are_live.pairs.exact p).1 (e.0, (e.1, is_odd.1)) in
      list_any-from_Any (λ q. q.edge == k) live_odd (pair.0, p, pair.1, pair.2, (Decides-eqb k k).1 refl)

  -- the odd uses stay
  pub live_odd_are : (u : EdgeUse) → Contains (odd_uses live live_odd) u ↔ Contains (odd_uses edges odd) u
  live_odd_are u = (λ h. subst (λ (us : List EdgeUse). Contains us u) same_uses h, λ h. subst (λ (us : List EdgeUse). Contains us u) (sym same_uses) h)

  pub live_even : HasEvenEnds (odd_uses edges odd) → HasEvenEnds (odd_uses live live_odd)
  live_even even = subst HasEvenEnds (sym same_uses) even

  pub live_planar : IsPlanar edges → IsPlanar live
  live_planar planar = record {
    in_range = λ k d within. All-contains IsSegInRange edges (get_or live k d) planar.in_range (live_fewer (get_or live k d) (Contains-get_or live k d within));
    noded = λ e f has_e has_f. planar.noded e f (live_fewer e has_e) (live_fewer f has_f);
  }

  pub live_distinct : AreDistinct live
  live_distinct = ascending_distinct live live_up
