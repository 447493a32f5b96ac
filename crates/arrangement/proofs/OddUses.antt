-- The odd uses are held by each member where all uses are.
use mathlib.Core.List.{[], ◌∷◌}
use Rattle.std.proofs.Common.{◌≡◌, inl, inr, refl, sym, ◌∙◌, ap, subst, ℕ, zero, suc, ◌+◌, ◌<◌, ◌%◌, ◌==◌, ◌&&◌, ◌↔◌, Bool, true, false, cond, List, get_or, ◌++◌, map, IsTrue, Decides, arith}
use Rattle.std.specs.Prelude.{Contains, AllPairs, sum_by, count_by, Option, Some, None, slice_get, option_to_list, unwrap_or}
use Rattle.std.proofs.lemmas.Bool.{cases_order, and_parts, and_from, false≢true}
use Rattle.std.proofs.lemmas.Bool.Decides.{Decides-eqb, nat_tests}
use Rattle.std.proofs.lemmas.List.{get_or_default}
use Rattle.std.proofs.lemmas.List.Elements.{Contains-append_cases, Contains-append_left, Contains-append_right}
use Rattle.std.proofs.lemmas.List.Sums.{sum_by-cons}
use Rattle.std.proofs.lemmas.Option.{slice_get_within, slice_get-get_or, get_or_from_slice_get}
use Rattle.cov_types.specs.declared.edge_use.EdgeUse.{EdgeUse}
use Rattle.cov_types.specs.declared.seg.Seg.{Seg}
use Rattle.cov_types.specs.Seg.{is_seg_before}
use Rattle.cov_types.proofs.Equal.{Decides-same_segs, same_uses}
use Rattle.cov_types.proofs.SegOrder.{is_seg_before-irrefl}
use Rattle.plane.specs.Parity.{member_holds}
use Rattle.plane.specs.Point.{Point}
use Rattle.plane.specs.Ray.{is_over}
use Rattle.crossing_laws.proofs.Lists.{contains_here, contains_there, contains-map}
use Rattle.crossing_laws.specs.Across.{is_same_seg, member_times}
use Rattle.rounding_laws.proofs.Odd.{odd_sum}
use Rattle.arrangement.specs.declared.odd_use.OddUse.{OddUse}
use Rattle.arrangement.specs.Noding.{segments, IsAscending, IsOdd, is_odd_before, AreOddPairs, AreEdges, AreLiveEdges, odd_uses}

-- ---- whether two uses are one

abbrev pub is_same_use : EdgeUse → EdgeUse → Bool
is_same_use x e = (x.member == e.member) && is_same_seg e.seg x.seg

pub Decides-same_use : (x e : EdgeUse) → Decides (is_same_use x e) (x ≡ e)
Decides-same_use x e = (there, back)
  where
    there : is_same_use x e ≡ true → x ≡ e
    there h = let parts = and_parts _ _ h in same_uses x e ((Decides-eqb x.member e.member).0 parts.0) (sym ((Decides-same_segs e.seg x.seg).0 parts.1))

    back : x ≡ e → is_same_use x e ≡ true
    back h = and_from _ _ ((Decides-eqb x.member e.member).1 (ap (λ (u : EdgeUse). u.member) h)) ((Decides-same_segs e.seg x.seg).1 (sym (ap (λ (u : EdgeUse). u.seg) h)))

-- ---- a list in which an odd number of elements pass has one that does

passes_later : (c n : ℕ) → c ≡ 0 → (c + n) % 2 ≡ 1 → n % 2 ≡ 1
passes_later c n none odd = omega arith

pub some_passes : {X : Type 0} (p : X → Bool) (xs : List X) → count_by p xs % 2 ≡ 1 → (x : X) × (Contains xs x × (p x ≡ true))
some_passes p [] h = absurd (omega arith)
some_passes {X} p (x ∷ xs) h = by (λ rest. some_passes p xs rest) (p x) refl
  where
    counted : count_by p (x ∷ xs) ≡ cond (p x) 1 0 + count_by p xs
    counted = sum_by-cons (λ y. cond (p y) 1 0) x xs

    by : (count_by p xs % 2 ≡ 1 → (y : X) × (Contains xs y × (p y ≡ true))) → (b : Bool) → p x ≡ b → (y : X) × (Contains (x ∷ xs) y × (p y ≡ true))
    by later true e = (x, (contains_here x xs, e))
    by later false e =
        let none : cond (p x) 1 0 ≡ 0 = ap (λ b. cond b 1 0) e in
        let rest = later (passes_later (cond (p x) 1 0) (count_by p xs) none (ap (λ n. n % 2) (sym counted) ∙ h)) in
        (rest.0, (contains_there x rest.0 xs rest.1.0, rest.1.1))

-- ---- places in an ascending list

-- an edge stands at one place
pub one_place : (edges : List Seg) → IsAscending edges → (a b : ℕ) (e : Seg) → slice_get edges a ≡ Some e → slice_get edges b ≡ Some e → a ≡ b
one_place edges ascending a b e at_a at_b =
    elim (cases_order a b) [
      | inl same ↦ same
      | inr apart ↦ elim apart [
        | inl below ↦ absurd (not_before a b below at_a at_b)
        | inr above ↦ absurd (not_before b a above at_b at_a)
      ]
    ]
  where
    not_before : (i j : ℕ) → i < j → slice_get edges i ≡ Some e → slice_get edges j ≡ Some e → ⊥
    not_before i j less at_i at_j =
        let within = slice_get_within edges j e at_j in
        let before = ascending i j e less within in
        let here = subst (λ s. IsTrue (is_seg_before s (get_or edges j e))) (get_or_from_slice_get edges i e e at_i) before in
        let itself = subst (λ s. IsTrue (is_seg_before e s)) (get_or_from_slice_get edges j e e at_j) here in
        false≢true (sym (is_seg_before-irrefl e) ∙ itself)

-- ---- the uses of odd pairs

module _ (edges : List Seg) where
  -- the use that a pair stands for
  abbrev uses_of_pair : OddUse → List EdgeUse
  uses_of_pair o = map (λ e. record { member = o.member; seg = e }) (option_to_list (slice_get edges o.edge))

  -- the pair stands for the use
  pub record StandsFor (o : OddUse) (u : EdgeUse) : Type 0 where
    pub member : o.member ≡ u.member
    pub edge : slice_get edges o.edge ≡ Some u.seg

  in_option : (m : ℕ) (found : Option Seg) (u : EdgeUse) → Contains (map (λ e. record { member = m; seg = e }) (option_to_list found)) u → (m ≡ u.member) × (found ≡ Some u.seg)
  in_option m None u (k, inside, is) = absurd (omega arith)
  in_option m (Some e) u (zero, inside, is) = (ap (λ (v : EdgeUse). v.member) is, ap (λ (v : EdgeUse). Some v.seg) is)
  in_option m (Some e) u (suc k, inside, is) = absurd (omega arith)

  pub pair_of : (odd : List OddUse) (u : EdgeUse) → Contains (odd_uses edges odd) u → (o : OddUse) × (Contains odd o × StandsFor o u)
  pair_of [] u (k, inside, is) = absurd (omega arith)
  pair_of (o ∷ odd) u h =
      elim (Contains-append_cases (uses_of_pair o) (odd_uses edges odd) u h) [
        | inl here ↦ (let is = in_option o.member (slice_get edges o.edge) u here in (o, ((0, omega arith, refl), record { member = is.0; edge = is.1 })))
        | inr later ↦ (let found = pair_of odd u later in (found.0, (contains_there o found.0 odd found.1.0, found.1.1)))
      ]

  pub has_use : (odd : List OddUse) (o : OddUse) (u : EdgeUse) → Contains odd o → StandsFor o u → Contains (odd_uses edges odd) u
  has_use [] o u (k, inside, is) stands = absurd (omega arith)
  has_use (q ∷ odd) o u (zero, inside, is) stands = Contains-append_left (uses_of_pair q) (odd_uses edges odd) u (in_its_own q (subst (λ r. StandsFor r u) (sym is) stands))
    where
      in_its_own : (r : OddUse) → StandsFor r u → Contains (uses_of_pair r) u
      in_its_own r h = subst (λ found. Contains (map (λ e. record { member = r.member; seg = e }) (option_to_list found)) u) (sym h.edge) (0, omega arith, ap (λ m. record { member = m; seg = u.seg }) h.member)
  has_use (q ∷ odd) o u (suc k, inside, is) stands = Contains-append_right (uses_of_pair q) (odd_uses edges odd) u (has_use odd o u (k, omega arith, is) stands)

  -- ---- no use is there twice

  abbrev AreDistinct : List EdgeUse → Type 0
  AreDistinct uses = AllPairs (λ u v. ¬ (u ≡ v)) uses

  front_distinct : (x : EdgeUse) (uses : List EdgeUse) → AreDistinct uses → ¬ Contains uses x → AreDistinct (x ∷ uses)
  front_distinct x uses distinct new i zero d before within = absurd (omega arith)
  front_distinct x uses distinct new zero (suc j) d before within = λ same. new (j, omega arith, get_or_default uses j x d (omega arith) ∙ sym same)
  front_distinct x uses distinct new (suc i) (suc j) d before within = distinct i j d (omega arith) (omega arith)

  in_front : (m : ℕ) (found : Option Seg) (uses : List EdgeUse) → AreDistinct uses → ((e : Seg) → found ≡ Some e → ¬ Contains uses (record { member = m; seg = e }))
      → AreDistinct (map (λ e. record { member = m; seg = e }) (option_to_list found) ++ uses)
  in_front m None uses distinct new = distinct
  in_front m (Some e) uses distinct new = front_distinct (record { member = m; seg = e }) uses distinct (new e refl)

  -- of two pairs of one member in order, the edges are in order
  same_member : (o q : OddUse) → IsTrue (is_odd_before o q) → o.member ≡ q.member → o.edge ≡ q.edge → ⊥
  same_member o q before m e = grind (arith, nat_tests)

  pub distinct_uses : IsAscending edges → (odd : List OddUse) → AllPairs (λ o q. IsTrue (is_odd_before o q)) odd → AreDistinct (odd_uses edges odd)
  distinct_uses ascending [] before = λ i j d less within. absurd (omega arith)
  distinct_uses ascending (o ∷ odd) before =
      in_front o.member (slice_get edges o.edge) (odd_uses edges odd) (distinct_uses ascending odd (λ i j d less within. before (suc i) (suc j) d (omega arith) (omega arith)))
      (λ e at has. (
      let found = pair_of odd (record { member = o.member; seg = e }) has in
      let q = found.0 in
      let stands = found.1.1 in
      let place = found.1.0 in
      let ordered : IsTrue (is_odd_before o q) = subst (λ r. IsTrue (is_odd_before o r)) place.2 (before 0 (suc place.0) q (omega arith) (omega arith)) in
      same_member o q ordered (sym stands.member) (one_place edges ascending o.edge q.edge e at stands.edge)))

-- ---- they are those that all uses have an odd number of times

-- each edge that is odd for a member is in the list
abbrev pub HasOddEdges : List EdgeUse → List Seg → Type 0
HasOddEdges uses edges = (member : ℕ) (e : Seg) → IsOdd uses member e → Contains edges e

module _ (uses : List EdgeUse) (edges : List Seg) (odd : List OddUse) (ascending : IsAscending edges) (pairs : AreOddPairs uses edges odd) (has : HasOddEdges uses edges) where
  some_is : (s t : Seg) → Some s ≡ Some t → s ≡ t
  some_is s t h = ap (λ o. unwrap_or o s) h

  pub are_odd : (u : EdgeUse) → Contains (odd_uses edges odd) u ↔ (member_times u.seg uses u.member % 2 ≡ 1)
  are_odd u = (there, back)
    where
      there : Contains (odd_uses edges odd) u → IsOdd uses u.member u.seg
      there h =
          let found = pair_of edges odd u h in
          let o = found.0 in
          let stands = found.1.1 in
          let is = (pairs.exact o).0 found.1.0 in
          let same : is.0 ≡ u.seg = some_is is.0 u.seg (sym is.1.0 ∙ stands.edge) in
          subst (λ m. IsOdd uses m u.seg) stands.member (subst (λ e. IsOdd uses o.member e) same is.1.1)

      back : IsOdd uses u.member u.seg → Contains (odd_uses edges odd) u
      back h =
          let at = has u.member u.seg h in
          let here : slice_get edges at.0 ≡ Some u.seg = slice_get-get_or edges at.0 u.seg at.1 ∙ ap (λ e. Some e) at.2 in
          let o : OddUse = record { member = u.member; edge = at.0 } in
          has_use edges odd o u ((pairs.exact o).1 (u.seg, (here, h))) (record { member = refl; edge = here })

  -- so a sum over all uses and over the odd ones has one parity
  pub same_parity : (f : EdgeUse → ℕ) → sum_by f uses % 2 ≡ sum_by f (odd_uses edges odd) % 2
  same_parity f = odd_sum is_same_use Decides-same_use f uses (odd_uses edges odd) (distinct_uses edges ascending odd pairs.ascending) are_odd

  odd_uses_hold : (member : ℕ) (p : Point) → member_holds (odd_uses edges odd) member p ≡ member_holds uses member p
  odd_uses_hold member p = ap (λ n. n == 1) (sym (same_parity (λ u. cond ((u.member == member) && is_over u.seg p) 1 0)))

  odd_again : (member : ℕ) (e : Seg) → member_times e uses member % 2 ≡ member_times e (odd_uses edges odd) member % 2
  odd_again member e = same_parity (λ u. cond ((u.member == member) && is_same_seg e u.seg) 1 0)

-- an odd edge is used
pub odd_used : (uses : List EdgeUse) (member : ℕ) (e : Seg) → IsOdd uses member e → Contains (segments uses) e
odd_used uses member e h =
    let found = some_passes (λ u. (u.member == member) && is_same_seg e u.seg) uses h in
    let same = (Decides-same_segs e (found.0).seg).0 (and_parts _ _ found.1.1).1 in
    subst (λ s. Contains (segments uses) s) (sym same) (contains-map (λ (u : EdgeUse). u.seg) uses found.0 found.1.0)

pub odd_uses_law : (uses : List EdgeUse) (edges : List Seg) (odd : List OddUse) → AreEdges uses edges odd
    → (member : ℕ) (p : Point) → member_holds (odd_uses edges odd) member p ≡ member_holds uses member p
odd_uses_law uses edges odd h = odd_uses_hold uses edges odd h.ascending h.pairs (λ m e is_odd. (h.exact e).1 (odd_used uses m e is_odd))

pub live_uses_law : (uses : List EdgeUse) (edges : List Seg) (odd : List OddUse) → AreLiveEdges uses edges odd
    → (member : ℕ) (p : Point) → member_holds (odd_uses edges odd) member p ≡ member_holds uses member p
live_uses_law uses edges odd h = odd_uses_hold uses edges odd h.ascending h.pairs (λ m e is_odd. (h.exact e).1 (m, is_odd))

-- an odd edge is one of the odd uses an odd number of times
pub live_odd_again : (uses : List EdgeUse) (edges : List Seg) (odd : List OddUse) → AreLiveEdges uses edges odd → (member : ℕ) (e : Seg) → IsOdd uses member e → IsOdd (odd_uses edges odd) member e
live_odd_again uses edges odd h member e i = sym (odd_again uses edges odd h.ascending h.pairs (λ m e is_odd. (h.exact e).1 (m, is_odd)) member e) ∙ i

-- each odd use is of an edge of the list
pub odd_use_listed : (edges : List Seg) (odd : List OddUse) (u : EdgeUse) → Contains (odd_uses edges odd) u → Contains edges u.seg
odd_use_listed edges odd u h =
    let found = pair_of edges odd u h in
    let at = found.1.1.edge in
    (found.0.edge, slice_get_within edges found.0.edge u.seg at, get_or_from_slice_get edges found.0.edge u.seg u.seg at)

pub live_again_law : (uses : List EdgeUse) (edges : List Seg) (odd : List OddUse) → AreEdges uses edges odd
    → (live : List Seg) (live_odd : List OddUse) → AreLiveEdges (odd_uses edges odd) live live_odd → AreLiveEdges uses live live_odd
live_again_law uses edges odd h live live_odd k = record {
  ascending = k.ascending;
  exact = λ e. (
    (λ i. (let m = (k.exact e).0 i in (m.0, to m.0 e m.1))),
    (λ m. (k.exact e).1 (m.0, from m.0 e m.1)),
  );
  pairs = record {
    ascending = k.pairs.ascending;
    exact = λ o. (
      (λ i. (let is = (k.pairs.exact o).0 i in (is.0, (is.1.0, to o.member is.0 is.1.1)))),
      (λ is. (k.pairs.exact o).1 (is.0, (is.1.0, from o.member is.0 is.1.1))),
    );
  };
}
  where
    again : (m : ℕ) (e : Seg) → member_times e uses m % 2 ≡ member_times e (odd_uses edges odd) m % 2
    again = odd_again uses edges odd h.ascending h.pairs (λ m e is_odd. (h.exact e).1 (odd_used uses m e is_odd))

    to : (m : ℕ) (e : Seg) → IsOdd (odd_uses edges odd) m e → IsOdd uses m e
    to m e i = again m e ∙ i

    from : (m : ℕ) (e : Seg) → IsOdd uses m e → IsOdd (odd_uses edges odd) m e
    from m e i = sym (again m e) ∙ i
