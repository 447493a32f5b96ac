-- In a valid coverage each segment is live: the member that has it has it once.
use mathlib.Core.List.{[], ◌∷◌}
use Rattle.std.proofs.Common.{◌≡◌, refl, sym, ◌∙◌, ap, subst, ℕ, zero, suc, ◌+◌, ◌<◌, ◌≤◌, ◌%◌, ◌==◌, ◌&&◌, Bool, true, false, cond, List, inl, inr, arith}
use Rattle.std.specs.Prelude.{Contains, count_by, Some, slice_get}
use Rattle.std.proofs.lemmas.Bool.{and_parts, and_from, cases_lt}
use Rattle.std.proofs.lemmas.Bool.Decides.{Decides-eqb}
use Rattle.std.proofs.lemmas.List.Sums.{sum_by-cons}
use Rattle.cov_types.specs.declared.edge_use.EdgeUse.{EdgeUse}
use Rattle.cov_types.specs.declared.seg.Seg.{Seg}
use Rattle.cov_types.proofs.Equal.{Decides-same_segs, same_uses}
use Rattle.plane.specs.Region.{AreRegions}
use Rattle.plane.specs.Validity.{IsRepeated, IsValid}
use Rattle.crossing_laws.proofs.Lists.{contains_here, contains_there}
use Rattle.crossing_laws.specs.Across.{is_same_seg, member_times}
use Rattle.arrangement.specs.declared.odd_use.OddUse.{OddUse}
use Rattle.arrangement.specs.Noding.{segments, IsOdd, AreEdges, AreLiveEdges, odd_uses}
use Rattle.arrangement.specs.Overlay.{IsOverlayOf}
use Rattle.arrangement.proofs.OddUses.{odd_used}

-- ---- two that pass

record PassesAt {X : Type 0} (p : X → Bool) (xs : List X) : Type 0 where
  k : ℕ
  x : X
  at : slice_get xs k ≡ Some x
  passes : p x ≡ true

some_passes_at : {X : Type 0} (p : X → Bool) (xs : List X) → 1 ≤ count_by p xs → PassesAt p xs
some_passes_at p [] h = absurd (omega arith)
some_passes_at p (x ∷ xs) h = by (some_passes_at p xs) (p x) refl
  where
    counted : count_by p (x ∷ xs) ≡ cond (p x) 1 0 + count_by p xs
    counted = sum_by-cons (λ y. cond (p y) 1 0) x xs

    by : (1 ≤ count_by p xs → PassesAt p xs) → (b : Bool) → p x ≡ b → PassesAt p (x ∷ xs)
    by later true e = record { k = 0; x = x; at = refl; passes = e }
    by later false e =
        let none : cond {A = ℕ} (p x) 1 0 ≡ 0 = ap (λ b. cond {A = ℕ} b 1 0) e in
        let rest = later (omega (arith, counted, none, h)) in
        record { k = suc rest.k; x = rest.x; at = rest.at; passes = rest.passes }

record PassTwice {X : Type 0} (p : X → Bool) (xs : List X) : Type 0 where
  i : ℕ
  j : ℕ
  apart : i < j
  x : X
  y : X
  at_x : slice_get xs i ≡ Some x
  at_y : slice_get xs j ≡ Some y
  x_passes : p x ≡ true
  y_passes : p y ≡ true

two_pass : {X : Type 0} (p : X → Bool) (xs : List X) → 2 ≤ count_by p xs → PassTwice p xs
two_pass p [] h = absurd (omega arith)
two_pass p (x ∷ xs) h = by (two_pass p xs) (p x) refl
  where
    counted : count_by p (x ∷ xs) ≡ cond (p x) 1 0 + count_by p xs
    counted = sum_by-cons (λ y. cond (p y) 1 0) x xs

    by : (2 ≤ count_by p xs → PassTwice p xs) → (b : Bool) → p x ≡ b → PassTwice p (x ∷ xs)
    by later true e =
        let one : cond {A = ℕ} (p x) 1 0 ≡ 1 = ap (λ b. cond {A = ℕ} b 1 0) e in
        let rest = some_passes_at p xs (omega (arith, counted, one, h)) in
        record { i = 0; j = suc rest.k; apart = omega arith; x = x; y = rest.x; at_x = refl; at_y = rest.at; x_passes = e; y_passes = rest.passes }
    by later false e =
        let none : cond {A = ℕ} (p x) 1 0 ≡ 0 = ap (λ b. cond {A = ℕ} b 1 0) e in
        let rest = later (omega (arith, counted, none, h)) in
        record { i = suc rest.i; j = suc rest.j; apart = (let less = rest.apart in omega arith); x = rest.x; y = rest.y; at_x = rest.at_x; at_y = rest.at_y; x_passes = rest.x_passes; y_passes = rest.y_passes }

-- ---- a segment of a member is its once

module _ (uses : List EdgeUse) (once : (u : EdgeUse) → ¬ IsRepeated uses u) where
  abbrev is_of : ℕ → Seg → EdgeUse → Bool
  is_of m e u = (u.member == m) && is_same_seg e u.seg

  use_is : (m : ℕ) (e : Seg) (u : EdgeUse) → is_of m e u ≡ true → u ≡ record { member = m; seg = e }
  use_is m e u h = let parts = and_parts _ _ h in same_uses u (record { member = m; seg = e }) ((Decides-eqb u.member m).0 parts.0) (sym ((Decides-same_segs e u.seg).0 parts.1))

  not_twice : (m : ℕ) (e : Seg) → 2 ≤ member_times e uses m → ⊥
  not_twice m e h =
      let two = two_pass (is_of m e) uses h in
      once (record { member = m; seg = e }) (record {
        first = two.i;
        second = two.j;
        apart = two.apart;
        at_first = two.at_x ∙ ap (λ (u : EdgeUse). Some u) (use_is m e two.x two.x_passes);
        at_second = two.at_y ∙ ap (λ (u : EdgeUse). Some u) (use_is m e two.y two.y_passes);
      })

  counted_once : (xs : List EdgeUse) (u : EdgeUse) → Contains xs u → 1 ≤ member_times u.seg xs u.member
  counted_once [] u (k, inside, is) = absurd (omega arith)
  counted_once (v ∷ xs) u (zero, inside, is) =
      let itself : is_of u.member u.seg v ≡ true = and_from _ _ ((Decides-eqb v.member u.member).1 (ap (λ (w : EdgeUse). w.member) is)) ((Decides-same_segs u.seg v.seg).1 (sym (ap (λ (w : EdgeUse). w.seg) is))) in
      let one : cond {A = ℕ} (is_of u.member u.seg v) 1 0 ≡ 1 = ap (λ b. cond {A = ℕ} b 1 0) itself in
      omega (arith, sum_by-cons (λ w. cond (is_of u.member u.seg w) 1 0) v xs, one)
  counted_once (v ∷ xs) u (suc k, inside, is) =
      let rest = counted_once xs u (k, omega arith, is) in
      omega (arith, sum_by-cons (λ w. cond (is_of u.member u.seg w) 1 0) v xs, rest)

  used_odd : (u : EdgeUse) → Contains uses u → IsOdd uses u.member u.seg
  used_odd u has =
      let some = counted_once uses u has in
      elim (cases_lt 1 (member_times u.seg uses u.member)) [
        | inl more ↦ absurd (not_twice u.member u.seg more)
        | inr less ↦ (let one : member_times u.seg uses u.member ≡ 1 = omega arith in ap (λ n. n % 2) one)
      ]

  of_segment : (xs : List EdgeUse) (e : Seg) → Contains (segments xs) e → (u : EdgeUse) × (Contains xs u × (u.seg ≡ e))
  of_segment [] e (k, inside, is) = absurd (omega arith)
  of_segment (u ∷ xs) e (zero, inside, is) = (u, (contains_here u xs, is))
  of_segment (u ∷ xs) e (suc k, inside, is) = let rest = of_segment xs e (k, omega arith, is) in (rest.0, (contains_there u rest.0 xs rest.1.0, rest.1.1))

  live : (edges : List Seg) (odd : List OddUse) → AreEdges uses edges odd → AreLiveEdges uses edges odd
  live edges odd h = record {
    ascending = h.ascending;
    exact = λ e. (
      (λ has. (let u = of_segment uses e ((h.exact e).0 has) in ((u.0).member, subst (IsOdd uses (u.0).member) u.1.1 (used_odd u.0 u.1.0)))),
      (λ odd. (h.exact e).1 (odd_used uses odd.0 e odd.1)),
    );
    pairs = h.pairs;
  }

pub valid_live : (uses : List EdgeUse) → IsValid uses → (edges : List Seg) (odd : List OddUse) → AreEdges uses edges odd → AreLiveEdges uses edges odd
valid_live uses valid edges odd h = live uses valid.once edges odd h

pub valid_overlay : (uses : List EdgeUse) → IsValid uses → (edges : List Seg) (odd : List OddUse) → AreEdges uses edges odd → (members : ℕ) (numbers : List ℕ) → AreRegions edges numbers
    → IsOverlayOf uses members (record { edges = edges; uses = odd_uses edges odd; members = members; numbers = numbers })
valid_overlay uses valid edges odd h members numbers regions = record { odd = odd; live = valid_live uses valid edges odd h; by_odd = refl; count = refl; numbered = regions }
