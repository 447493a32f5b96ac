-- Across an edge exactly the members change that are odd for it.
use mathlib.Core.List.{[], ◌∷◌}
use Rattle.std.proofs.Common.{◌≡◌, refl, sym, ◌∙◌, ap, subst, ℕ, zero, suc, ◌+◌, ◌%◌, ◌≤◌, ◌<◌, ◌==◌, ◌↔◌, Bool, true, false, not, ◌&&◌, cond, List, ◌++◌, map, get_or, length, filter, count_by, Contains, IsTrue, Some, slice_get, inl, inr, zero-add, arith}
use Rattle.std.specs.Prelude.{All, AllPairs, option_to_list}
use Rattle.std.proofs.lemmas.Bool.{cases_Bool, both_ways, or_cases, false_from_ne_true, eqb-true, eqb-false, and_right}
use Rattle.std.proofs.lemmas.Bool.Decides.{nat_tests}
use Rattle.std.proofs.lemmas.List.Elements.{All-contains, All-head, All-tail}
use Rattle.std.proofs.lemmas.List.Sums.{sum_by-cons}
use Rattle.std.proofs.lemmas.Option.{slice_get-get_or, get_or_from_slice_get, slice_get_within, same_Some}
use Rattle.cov_types.specs.declared.edge_use.EdgeUse.{EdgeUse}
use Rattle.cov_types.specs.declared.seg.Seg.{Seg}
use Rattle.cov_types.specs.Range.{IsSegInRange}
use Rattle.cov_types.proofs.Equal.{Decides-same_segs}
use Rattle.plane.specs.Noded.{MeetInEnds}
use Rattle.plane.specs.Parity.{member_holds}
use Rattle.plane.specs.Segment.{upper, lower}
use Rattle.crossing_laws.specs.Across.{AllMeetInEnds, is_same_seg, member_times}
use Rattle.crossing_laws.proofs.Changes.{member_holds-across}
use Rattle.crossing_laws.proofs.Lists.{contains_here, contains_there}
use Rattle.sector_laws.specs.Sector.{HalfEdge, left, twin, IsPlanar, AreDistinct}
use Rattle.arrangement.specs.declared.odd_use.OddUse.{OddUse}
use Rattle.arrangement.specs.Noding.{is_odd_before, odd_uses}
use Rattle.arrangement.proofs.OddUses.{odd_use_listed}
use Rattle.owner_label.specs.Members.{has, IsFrom, differs, members_of}
use Rattle.owner_label.proofs.Ascending.{count_from}
use Rattle.owner_label.proofs.Sides.{one_place}

-- ---- the members that are odd for an edge ascend

abbrev pub AreOddAscending : List OddUse → Type 0
AreOddAscending odd = AllPairs (λ o p. IsTrue (is_odd_before o p)) odd

ascending_rest : (o : OddUse) (odd : List OddUse) → AreOddAscending (o ∷ odd) → AreOddAscending odd
ascending_rest o odd h = λ i j d less within. h (suc i) (suc j) d (omega arith) (omega arith)

first_before : (o : OddUse) (odd : List OddUse) → AreOddAscending (o ∷ odd) → (p : OddUse) → Contains odd p → IsTrue (is_odd_before o p)
first_before o odd h p (k, within, is) = subst (λ q. IsTrue (is_odd_before o q)) is (h 0 (suc k) p (omega arith) (omega arith))

same_edge : (o p : OddUse) → IsTrue (is_odd_before o p) → o.edge ≡ p.edge → o.member < p.member
same_edge o p before e = grind (arith, nat_tests)

pub members_chosen : (o : OddUse) (odd : List OddUse) (k : ℕ) → (o.edge == k) ≡ true → members_of (o ∷ odd) k ≡ o.member ∷ members_of odd k
members_chosen o odd k h = ap (λ b. map (λ (p : OddUse). p.member) (cond b (o ∷ filter (λ (p : OddUse). p.edge == k) odd) (filter (λ (p : OddUse). p.edge == k) odd))) h

pub members_skipped : (o : OddUse) (odd : List OddUse) (k : ℕ) → (o.edge == k) ≡ false → members_of (o ∷ odd) k ≡ members_of odd k
members_skipped o odd k h = ap (λ b. map (λ (p : OddUse). p.member) (cond b (o ∷ filter (λ (p : OddUse). p.edge == k) odd) (filter (λ (p : OddUse). p.edge == k) odd))) h

members_from : (n k : ℕ) (odd : List OddUse) → AreOddAscending odd → ((o : OddUse) → Contains odd o → o.edge ≡ k → n ≤ o.member) → IsFrom n (members_of odd k)
members_from n k [] ascending least = tt
members_from n k (o ∷ odd) ascending least =
    elim (cases_Bool (o.edge == k)) [
      | inl here ↦ (
          let edge = eqb-true o.edge k here in
          subst (λ xs. IsFrom n xs) (sym (members_chosen o odd k here)) (
            least o (contains_here o odd) edge,
            members_from (suc o.member) k odd (ascending_rest o odd ascending) (λ p c e. same_edge o p (first_before o odd ascending p c) (edge ∙ sym e)),
          )
          )
      | inr other ↦
          subst (λ xs. IsFrom n xs) (sym (members_skipped o odd k other))
          (members_from n k odd (ascending_rest o odd ascending) (λ p c. least p (contains_there o p odd c)))
    ]

pub members_ascend : (odd : List OddUse) (k : ℕ) → AreOddAscending odd → IsFrom 0 (members_of odd k)
members_ascend odd k ascending = members_from 0 k odd ascending (λ o c e. omega arith)

-- a member that is odd for an edge is named
pub named : (odd : List OddUse) (k m count : ℕ) → All (λ o. o.member < count) odd → has (members_of odd k) m ≡ true → m < count
named [] k m count below h = absurd (both_ways false refl h)
named (o ∷ odd) k m count below h =
    elim (cases_Bool (o.edge == k)) [
      | inl is ↦ elim (or_cases (o.member == m) (has (members_of odd k) m) (ap (λ xs. has xs m) (sym (members_chosen o odd k is)) ∙ h)) [
        | inl first ↦ (let same = eqb-true o.member m first in let low = All-head (λ (q : OddUse). q.member < count) o odd below in omega arith)
        | inr later ↦ named odd k m count (All-tail (λ (q : OddUse). q.member < count) o odd below) later
      ]
      | inr other ↦ named odd k m count (All-tail (λ (q : OddUse). q.member < count) o odd below) (ap (λ xs. has xs m) (sym (members_skipped o odd k other)) ∙ h)
    ]

-- ---- how often a member uses an edge

-- one use more
pub odd_uses-cons : (edges : List Seg) (o : OddUse) (odd : List OddUse) (f : Seg) → slice_get edges o.edge ≡ Some f
    → odd_uses edges (o ∷ odd) ≡ record { member = o.member; seg = f } ∷ odd_uses edges odd
odd_uses-cons edges o odd f at = ap (λ found. map (λ e. record { member = o.member; seg = e }) (option_to_list found) ++ odd_uses edges odd) at

pub edge_at : (edges : List Seg) (odd : List OddUse) (o : OddUse) → All (λ p. p.edge < length edges) (o ∷ odd) → (e : Seg) → slice_get edges o.edge ≡ Some (get_or edges o.edge e)
edge_at edges odd o places e = slice_get-get_or edges o.edge e (All-head (λ (p : OddUse). p.edge < length edges) o odd places)

module _ (edges : List Seg) (distinct : AreDistinct edges) (k : ℕ) (e : Seg) (at : slice_get edges k ≡ Some e) (m : ℕ) where
  abbrev uses_it : EdgeUse → Bool
  uses_it u = (u.member == m) && is_same_seg e u.seg

  and_true : (a b : Bool) → b ≡ true → (a && b) ≡ a
  and_true true b h = h
  and_true false b h = refl

  one_use : (o : OddUse) (odd : List OddUse) (f : Seg) → slice_get edges o.edge ≡ Some f → (rest : count_by uses_it (odd_uses edges odd) ≡ count_by (λ x. x == m) (members_of odd k))
      → count_by uses_it (odd_uses edges (o ∷ odd)) ≡ count_by (λ x. x == m) (members_of (o ∷ odd) k)
  one_use o odd f here rest =
      let u : EdgeUse = record { member = o.member; seg = f } in
      ap (λ us. count_by uses_it us) (odd_uses-cons edges o odd f here) ∙ sum_by-cons (λ v. cond (uses_it v) 1 0) u (odd_uses edges odd)
      ∙ elim (cases_Bool (o.edge == k)) [
        | inl is ↦ (
            let same : e ≡ f = same_Some e f (sym at ∙ ap (λ i. slice_get edges i) (sym (eqb-true o.edge k is)) ∙ here) in
            (λ i. cond (and_true (o.member == m) (is_same_seg e f) ((Decides-same_segs e f).1 same) i) 1 0 + rest i)
            ∙ sym (ap (λ xs. count_by (λ x. x == m) xs) (members_chosen o odd k is) ∙ sum_by-cons (λ x. cond (x == m) 1 0) o.member (members_of odd k))
            )
        | inr other ↦ (
            let apart : is_same_seg e f ≡ false = false_from_ne_true (is_same_seg e f) (λ t. eqb-false o.edge k other (one_place edges distinct o.edge k e (here ∙ ap (λ g. Some g) (sym ((Decides-same_segs e f).0 t))) at)) in
            (λ i. cond (and_right (o.member == m) (is_same_seg e f) apart i) 1 0 + rest i) ∙ zero-add (count_by (λ x. x == m) (members_of odd k))
            ∙ sym (ap (λ xs. count_by (λ x. x == m) xs) (members_skipped o odd k other))
            )
      ]

  times_is : (odd : List OddUse) → All (λ o. o.edge < length edges) odd → count_by uses_it (odd_uses edges odd) ≡ count_by (λ x. x == m) (members_of odd k)
  times_is [] places = refl
  times_is (o ∷ odd) places =
      one_use o odd (get_or edges o.edge e) (edge_at edges odd o places e) (times_is odd (All-tail (λ (p : OddUse). p.edge < length edges) o odd places))

-- ---- across the edge

-- an element of a mapped list is that of some element
pub mapped : {X Y : Type 0} (f : X → Y) (P : Y → Type 0) (xs : List X) → ((x : X) → Contains xs x → P (f x)) → (y : Y) → Contains (map f xs) y → P y
mapped f P [] each y (k, inside, is) = absurd (omega arith)
mapped f P (x ∷ xs) each y (zero, inside, is) = subst P is (each x (contains_here x xs))
mapped f P (x ∷ xs) each y (suc k, inside, is) = mapped f P xs (λ z i. each z (contains_there x z xs i)) y (k, omega arith, is)

not_same : (a b : Bool) → (a ≡ b → ⊥) → a ≡ not b
not_same true true h = absurd (h refl)
not_same true false h = refl
not_same false true h = refl
not_same false false h = absurd (h refl)

changed : (a b h : Bool) (t : ℕ) → ((a ≡ b) ↔ (t % 2 ≡ 0)) → t ≡ cond h 1 0 → a ≡ differs h b
changed a b true t same is = not_same a b (λ e. absurd (omega (arith, same.0 e, is)))
changed a b false t same is = same.1 (omega (arith, is))

module _ (edges : List Seg) (odd : List OddUse) (planar : IsPlanar edges) (distinct : AreDistinct edges) (ascending : AreOddAscending odd) (places : All (λ o. o.edge < length edges) odd) where
  in_range : (e : Seg) → Contains edges e → IsSegInRange e
  in_range e c = All-contains IsSegInRange edges e planar.in_range c

  -- the lower side is held as the upper one is, but by the members that are odd for the edge
  pub member_below : (k : ℕ) (e : Seg) → slice_get edges k ≡ Some e → (m : ℕ)
      → member_holds (odd_uses edges odd) m (lower e) ≡ differs (has (members_of odd k) m) (member_holds (odd_uses edges odd) m (upper e))
  member_below k e at m =
      let c : Contains edges e = (k, slice_get_within edges k e at, get_or_from_slice_get edges k e e at) in
      let meets : AllMeetInEnds e (map (λ (u : EdgeUse). u.seg) (odd_uses edges odd)) =
      mapped (λ (u : EdgeUse). u.seg) (λ f. IsSegInRange f × MeetInEnds e f) (odd_uses edges odd)
      (λ u i. (let listed = odd_use_listed edges odd u i in (in_range u.seg listed, planar.noded e u.seg c listed))) in
      changed (member_holds (odd_uses edges odd) m (lower e)) (member_holds (odd_uses edges odd) m (upper e)) (has (members_of odd k) m) (member_times e (odd_uses edges odd) m)
      (member_holds-across e (odd_uses edges odd) m (in_range e c) meets)
      (times_is edges distinct k e at m odd places ∙ count_from 0 m (members_of odd k) (members_ascend odd k ascending))

  twice : (a b h : Bool) → a ≡ differs h b → b ≡ differs h a
  twice a true true e = ap not (sym e)
  twice a false true e = ap not (sym e)
  twice a b false e = sym e

  -- on the left of the twin of a half-edge the members hold that hold on its left, but for those that are odd for the edge
  pub member_turned : (k : ℕ) (h : HalfEdge) → slice_get edges k ≡ Some h.edge → (m : ℕ)
      → member_holds (odd_uses edges odd) m (left (twin h)) ≡ differs (has (members_of odd k) m) (member_holds (odd_uses edges odd) m (left h))
  member_turned k h at m = by_direction h.forwards
    where
      by_direction : (b : Bool) → member_holds (odd_uses edges odd) m (left (twin (record { edge = h.edge; forwards = b })))
          ≡ differs (has (members_of odd k) m) (member_holds (odd_uses edges odd) m (left (record { edge = h.edge; forwards = b })))
      by_direction true = member_below k h.edge at m
      by_direction false = twice _ _ (has (members_of odd k) m) (member_below k h.edge at m)
