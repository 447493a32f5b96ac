-- The doubled area of a member, odd pair by odd pair.
use mir.Syntax.{w128}
use mathlib.Core.Bool.{beq}
use mathlib.Core.List.{[], ◌∷◌}
use Rattle.std.proofs.Common.{◌≡◌, refl, sym, ◌∙◌, ap, subst, ℕ, zero, suc, ◌+◌, ◌*◌, ◌<◌, ◌==◌, Bool, true, false, not, cond, List, ◌++◌, map, filter, length, get_or, take, Option, Some, None, slice_get, ℤ, pos, ◌+ℤ◌, ◌-ℤ◌, unsigned_abs, to_z, of_z, ◌≤◌, ◌^◌, add-one, arith}
use Rattle.std.specs.Prelude.{All, option_to_list}
use Rattle.std.proofs.Math.Seq.{take-suc}
use Rattle.std.proofs.lemmas.Bool.{both_ways, eq-eqb, eqb-true}
use Rattle.std.proofs.lemmas.List.Elements.{All-filter, filter_passes}
use Rattle.std.proofs.lemmas.Option.{slice_get-get_or, same_Some}
use Rattle.std.proofs.lemmas.Int.{ints}
use Rattle.integer_laws.proofs.Ring.{lin}
use Rattle.cov_types.specs.declared.edge_use.EdgeUse.{EdgeUse}
use Rattle.cov_types.specs.declared.seg.Seg.{Seg}
use Rattle.plane.specs.Point.{Point}
use Rattle.plane.specs.Region.{IsSide}
use Rattle.plane.specs.Parity.{member_holds}
use Rattle.plane.specs.Segment.{upper, lower}
use Rattle.crossing_laws.specs.Crossing.{int_sum_by}
use Rattle.arrangement.specs.declared.odd_use.OddUse.{OddUse}
use Rattle.arrangement.specs.Measure.{trapezoid, area_gain, member_area2}
use Rattle.arrangement.proofs.Numberings.{upper_side, lower_side}
use Rattle.arrangement.specs.Noding.{odd_uses}
use Rattle.owner_label.specs.Labelled.{Labelled}
use Rattle.owner_label.specs.Sides.{pair_gain}
use Rattle.owner_label.proofs.Sums.{int_sum-append}
use Rattle.owner_label.proofs.Toggles.{odd_uses-cons}

-- the use that an odd pair stands for
abbrev use_of_pair : List Seg → OddUse → List EdgeUse
use_of_pair edges o = map (λ e. record { member = o.member; seg = e }) (option_to_list (slice_get edges o.edge))

-- what a use adds to the doubled area of the member
abbrev pub gain_in : Labelled → ℕ → EdgeUse → ℤ
gain_in s member u = pair_gain (odd_uses s.edges s.odd) member u.member u.seg

-- what the uses of these odd pairs add
abbrev pub gains_of : Labelled → ℕ → List OddUse → ℤ
gains_of s member odd = int_sum_by (gain_in s member) (odd_uses s.edges odd)

gains_of-cons : (s : Labelled) (member : ℕ) (o : OddUse) (odd : List OddUse) → gains_of s member (o ∷ odd) ≡ int_sum_by (gain_in s member) (use_of_pair s.edges o) +ℤ gains_of s member odd
gains_of-cons s member o odd = int_sum-append (gain_in s member) (use_of_pair s.edges o) (odd_uses s.edges odd)

gains_of-push : (s : Labelled) (member : ℕ) (odd : List OddUse) (o : OddUse) (e : Seg) → slice_get s.edges o.edge ≡ Some e
    → gains_of s member (odd ++ o ∷ []) ≡ gains_of s member odd +ℤ pair_gain (odd_uses s.edges s.odd) member o.member e
gains_of-push s member [] o e at = ap (λ us. int_sum_by (gain_in s member) us) (odd_uses-cons s.edges o [] e at) ∙ omega (arith, lin)
gains_of-push s member (p ∷ odd) o e at =
    let rest = gains_of-push s member odd o e at in
    let whole = gains_of-cons s member p (odd ++ o ∷ []) in
    let part = gains_of-cons s member p odd in
    omega (arith, lin)

-- the pairs of a member are pairs of the edges
pub gains_place : (s : Labelled) → All (λ o. o.edge < length s.edges) s.odd → (member : ℕ) (odd : List OddUse) → odd ≡ filter (λ o. o.member == member) s.odd → (i : ℕ) (d : OddUse) → i < length odd → (get_or odd i d).edge < length s.edges
gains_place s places member odd same i d within =
    subst (λ xs. All (λ (p : OddUse). p.edge < length s.edges) xs) (sym same) (All-filter (λ (p : OddUse). p.member == member) (λ p. p.edge < length s.edges) s.odd places) i d within

member_same : (s : Labelled) (member : ℕ) (odd : List OddUse) → odd ≡ filter (λ o. o.member == member) s.odd → (i : ℕ) (d : OddUse) → i < length odd → (get_or odd i d).member ≡ member
member_same s member odd same i d within =
    eqb-true (get_or odd i d).member member (subst (λ xs. All (λ (p : OddUse). (p.member == member) ≡ true) xs) (sym same) (filter_passes (λ (p : OddUse). p.member == member) s.odd) i d within)

-- the pairs of other members add nothing
gains_other : (s : Labelled) (member : ℕ) (odd : List OddUse) → gains_of s member (filter (λ o. o.member == member) odd) ≡ gains_of s member odd
gains_other s member [] = refl
gains_other s member (o ∷ odd) = by (o.member == member) refl (gains_other s member odd)
  where
    nothing : (found : Option Seg) → (o.member == member) ≡ false → int_sum_by (gain_in s member) (map (λ e. record { member = o.member; seg = e }) (option_to_list found)) ≡ pos 0
    nothing None h = refl
    nothing (Some e) h = ap (λ b. cond b (area_gain (member_holds (odd_uses s.edges s.odd) member (lower e)) (member_holds (odd_uses s.edges s.odd) member (upper e)) e) (pos 0) +ℤ pos 0) h

    by : (b : Bool) → (o.member == member) ≡ b → gains_of s member (filter (λ p. p.member == member) odd) ≡ gains_of s member odd
        → gains_of s member (cond b (o ∷ filter (λ p. p.member == member) odd) (filter (λ p. p.member == member) odd)) ≡ gains_of s member (o ∷ odd)
    by true h rest = gains_of-cons s member o (filter (λ p. p.member == member) odd) ∙ ap (λ t. int_sum_by (gain_in s member) (use_of_pair s.edges o) +ℤ t) rest ∙ sym (gains_of-cons s member o odd)
    by false h rest =
        let first = nothing (slice_get s.edges o.edge) h in
        let whole = gains_of-cons s member o odd in
        omega (arith, lin)

-- what the pairs of the member add is its doubled area
pub gains_whole : (s : Labelled) (member : ℕ) (odd : List OddUse) (i : ℕ) (area : ℤ) → odd ≡ filter (λ o. o.member == member) s.odd → length odd ≤ i → area ≡ gains_of s member (take i odd) → area ≡ member_area2 (odd_uses s.edges s.odd) member
gains_whole s member odd i area same past so_far = so_far ∙ ap (λ xs. gains_of s member xs) (take_all odd i past ∙ same) ∙ gains_other s member s.odd
  where
    take_all : (xs : List OddUse) (i : ℕ) → length xs ≤ i → take i xs ≡ xs
    take_all [] zero h = refl
    take_all [] (suc i) h = refl
    take_all (x ∷ xs) zero h = absurd (omega arith)
    take_all (x ∷ xs) (suc i) h = ap (λ ys. x ∷ ys) (take_all xs i (omega arith))

pub gains_more : (s : Labelled) (member : ℕ) (odd : List OddUse) → odd ≡ filter (λ o. o.member == member) s.odd → (i : ℕ) (d : OddUse) → i < length odd → (get_or odd i d).edge < length s.edges → (area gain : ℤ)
    → area ≡ gains_of s member (take i odd) → ((e : Seg) → slice_get s.edges (get_or odd i d).edge ≡ Some e → gain ≡ pair_gain (odd_uses s.edges s.odd) (get_or odd i d).member (get_or odd i d).member e)
    → area +ℤ gain ≡ gains_of s member (take (i + 1) odd)
gains_more s member odd same i d inside within area gain so_far is =
    let its = member_same s member odd same i d inside in
    let found = some_edge s.edges (get_or odd i d).edge within in
    rw (add-one, take-suc odd i d inside) ((λ t. so_far t +ℤ (is found.0 found.1 ∙ ap (λ k. pair_gain (odd_uses s.edges s.odd) k (get_or odd i d).member found.0) its) t) ∙ sym (gains_of-push s member (take i odd) (get_or odd i d) found.0 found.1))
  where
    some_edge : (edges : List Seg) (k : ℕ) → k < length edges → (e : Seg) × (slice_get edges k ≡ Some e)
    some_edge [] k h = absurd (omega arith)
    some_edge (e ∷ es) k h = (get_or (e ∷ es) k e, slice_get-get_or (e ∷ es) k e h)

-- ---- what an odd pair adds

alike : (a b : Bool) → beq a b ≡ true → a ≡ b
alike true true h = refl
alike false false h = refl
alike true false h = absurd (both_ways false refl h)
alike false true h = absurd (both_ways false refl h)

apart : (a b : Bool) → beq a b ≡ false → a ≡ not b
apart true true h = absurd (both_ways true h refl)
apart false false h = absurd (both_ways true h refl)
apart true false h = refl
apart false true h = refl

module _ (s : Labelled) (member : ℕ) (o : OddUse) (same : o.member ≡ member) (below above : Bool) (e edge : Seg) (here : slice_get s.edges o.edge ≡ Some edge) (at : slice_get s.edges o.edge ≡ Some e)
    (is_below : (p : Point) → IsSide s.edges (2 * o.edge + 1) p → below ≡ member_holds (odd_uses s.edges s.odd) member p) (is_above : (p : Point) → IsSide s.edges (2 * o.edge) p → above ≡ member_holds (odd_uses s.edges s.odd) member p) where
  gain_is : pair_gain (odd_uses s.edges s.odd) member o.member e ≡ area_gain below above e
  gain_is =
      ap (λ b. cond b (area_gain (member_holds (odd_uses s.edges s.odd) member (lower e)) (member_holds (odd_uses s.edges s.odd) member (upper e)) e) (pos 0)) (eq-eqb o.member member same)
      ∙ (λ i. area_gain (sym (is_below (lower e) (lower_side s.edges o.edge e at)) i) (sym (is_above (upper e) (upper_side s.edges o.edge e at)) i) e)

  same_edge : edge ≡ e
  same_edge = same_Some edge e (sym here ∙ at)

  nothing : (b : Bool) → area_gain b b e ≡ pos 0
  nothing true = omega (arith, lin)
  nothing false = omega (arith, lin)

  pub gain-alike : beq below above ≡ true → pos 0 ≡ pair_gain (odd_uses s.edges s.odd) member o.member e
  gain-alike h = sym (gain_is ∙ ap (λ b. area_gain b above e) (alike below above h) ∙ nothing above)

  from_below : (b a : Bool) → b ≡ true → b ≡ not a → area_gain b a e ≡ trapezoid e
  from_below b true t h = absurd (both_ways b h t)
  from_below b false t h = ap (λ c. area_gain c false e) t ∙ omega (arith, lin)

  from_above : (b a : Bool) → b ≡ false → b ≡ not a → area_gain b a e ≡ pos 0 -ℤ trapezoid e
  from_above b true t h = ap (λ c. area_gain c true e) t ∙ omega (arith, lin)
  from_above b false t h = absurd (both_ways b t h)

  pub gain-below : below ≡ true → beq below above ≡ false → (area : ℤ) → area ≡ trapezoid edge → area ≡ pair_gain (odd_uses s.edges s.odd) member o.member e
  gain-below h other area is = is ∙ ap trapezoid same_edge ∙ sym (gain_is ∙ from_below below above h (apart below above other))

  pub gain-above : below ≡ false → beq below above ≡ false → (area : ℤ) → area ≡ trapezoid edge → pos 0 -ℤ area ≡ pair_gain (odd_uses s.edges s.odd) member o.member e
  gain-above h other area is = ap (λ t. pos 0 -ℤ t) (is ∙ ap trapezoid same_edge) ∙ sym (gain_is ∙ from_above below above h (apart below above other))

-- ---- sums in 128 bits

module _ (a v : ℤ) (i : ℕ) (a_small : unsigned_abs a ≤ i * 2 ^ 60) (v_small : unsigned_abs v ≤ 2 ^ 60) (below : i < 2 ^ 64) where
  pub sum_is : to_z w128 (of_z w128 (a +ℤ to_z w128 (of_z w128 v))) ≡ a +ℤ v
  sum_is = omega (arith, ints)

  pub sum_small : unsigned_abs (to_z w128 (of_z w128 (a +ℤ to_z w128 (of_z w128 v)))) ≤ (i + 1) * 2 ^ 60
  sum_small = rw sum_is (omega (arith, ints))

pub int_sum_more : (f : ℕ → ℤ) (xs : List ℕ) (i : ℕ) (a v : ℤ) → i < length xs → a ≡ int_sum_by f (take i xs) → v ≡ f (get_or xs i 0) → a +ℤ v ≡ int_sum_by f (take (i + 1) xs)
int_sum_more f xs i a v within so_far is =
    rw (add-one, take-suc xs i 0 within) ((λ t. so_far t +ℤ is t) ∙ last ∙ sym (int_sum-append f (take i xs) (get_or xs i 0 ∷ [])))
  where
    last : int_sum_by f (take i xs) +ℤ f (get_or xs i 0) ≡ int_sum_by f (take i xs) +ℤ int_sum_by f (get_or xs i 0 ∷ [])
    last = omega (arith, lin)
