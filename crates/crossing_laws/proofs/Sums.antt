-- The law of crossing sums, and its parity form.
use Rattle.std.proofs.Common.{◌≡◌, refl, sym, ap, ℕ, ◌+◌, ◌%◌, ◌==◌, Bool, true, false, ◌&&◌, cond, List, sum_by, count_by, filter, Contains, ℤ, pos, ◌+ℤ◌, ◌*ℤ◌, ◌≤ℤ◌, inl, inr, arith}
use Rattle.cov_types.specs.declared.coord.Coord.{Coord}
use Rattle.cov_types.specs.declared.edge_use.EdgeUse.{EdgeUse}
use Rattle.cov_types.specs.declared.seg.Seg.{Seg}
use Rattle.cov_types.specs.Uses.{ends_inside, HasEvenEnds}
use Rattle.integer_laws.proofs.Ring.{lin}
use Rattle.integer_laws.proofs.Compare.{le_of_lt, lt_or_ge}
use Rattle.plane.specs.Point.{Point}
use Rattle.plane.specs.Ray.{sweep, is_over}
use Rattle.plane.specs.Parity.{holds, member_holds}
use Rattle.plane.specs.Label.{label_at, numbers_below}
use Rattle.plane.specs.Joined.{IsClear, Joined}
use Rattle.crossing_laws.specs.Crossing.{WeightedEdge, edges_of, crossing_sum, IsBalanced, IsSwept, HaveEvenEnds, MemberHasEvenEnds}
use Rattle.crossing_laws.proofs.Lists.{contains-map, sums_agree, sum_splits, int_sums_agree}
use Rattle.crossing_laws.proofs.OneEdge.{passes, one_edge}
use Rattle.crossing_laws.proofs.Tests.{IsSamePair}
use Rattle.crossing_laws.proofs.Ways.{clear-sym, clear_misses, joined_keep}

-- ---- with whole weights

pair_weighs : (a b c d : Bool) (w : ℤ) → IsSamePair a b c d → cond a w (pos 0) +ℤ cond b w (pos 0) ≡ cond c w (pos 0) +ℤ cond d w (pos 0)
pair_weighs a b c d w h =
    let weigh : Bool → ℤ = λ t. cond t w (pos 0) in
    elim h [
      | inl same ↦ (let e = ap weigh same.0 in let f = ap weigh same.1 in omega (arith, lin))
      | inr turned ↦ (let e = ap weigh turned.0 in let f = ap weigh turned.1 in omega (arith, lin))
    ]

-- along a clear step that does not fall in the sweep
rising_step : (weighted : List WeightedEdge) → IsSwept (edges_of weighted) → IsBalanced weighted → (p q : Point) → IsClear (edges_of weighted) p q
    → (sweep p *ℤ pos q.d) ≤ℤ (sweep q *ℤ pos p.d) → crossing_sum weighted p ≡ crossing_sum weighted q
rising_step weighted swept balanced p q clear h =
    let all = int_sums_agree (λ w. cond (is_over w.edge q) w.weight (pos 0)) (λ w. cond (passes p q w.edge.hi) w.weight (pos 0))
    (λ w. cond (is_over w.edge p) w.weight (pos 0)) (λ w. cond (passes p q w.edge.lo) w.weight (pos 0)) weighted
    (λ w i.
    let c = contains-map (λ v. v.edge) weighted w i in
    pair_weighs (is_over w.edge q) (passes p q w.edge.hi) (is_over w.edge p) (passes p q w.edge.lo) w.weight
    (one_edge w.edge p q (clear_misses (edges_of weighted) p q clear w.edge c) (swept w.edge c) h)) in
    let even = balanced (passes p q) in
    omega (arith, lin)

clear_step : (weighted : List WeightedEdge) → IsSwept (edges_of weighted) → IsBalanced weighted → (p q : Point) → IsClear (edges_of weighted) p q
    → crossing_sum weighted p ≡ crossing_sum weighted q
clear_step weighted swept balanced p q clear =
    elim (lt_or_ge (sweep q *ℤ pos p.d) (sweep p *ℤ pos q.d)) [
      | inl down ↦ sym (rising_step weighted swept balanced q p (clear-sym (edges_of weighted) p q clear) (le_of_lt down))
      | inr up ↦ rising_step weighted swept balanced p q clear up
    ]

-- the law of crossing sums
pub crossing_sum-joined : (weighted : List WeightedEdge) → IsSwept (edges_of weighted) → IsBalanced weighted → (p q : Point) → Joined (edges_of weighted) p q
    → crossing_sum weighted p ≡ crossing_sum weighted q
crossing_sum-joined weighted swept balanced p q j = joined_keep (edges_of weighted) (crossing_sum weighted) (clear_step weighted swept balanced) p q j

-- ---- with parity: of the items of a list, some of which are chosen, each with a segment

pair_counts : (m a b c d : Bool) → IsSamePair a b c d → cond (m && a) 1 0 + cond (m && b) 1 0 ≡ cond (m && c) 1 0 + cond (m && d) 1 0
pair_counts m a b c d h =
    let count : Bool → ℕ = λ t. cond (m && t) 1 0 in
    elim h [
      | inl same ↦ (let e = ap count same.0 in let f = ap count same.1 in omega arith)
      | inr turned ↦ (let e = ap count turned.0 in let f = ap count turned.1 in omega arith)
    ]

ends_count : (m a b : Bool) → cond m (cond a 1 0 + cond b 1 0) 0 ≡ cond (m && a) 1 0 + cond (m && b) 1 0
ends_count true a b = refl
ends_count false a b = refl

module _ {X : Type 0} (seg : X → Seg) (chosen : X → Bool) (items : List X) where
  -- how many of the chosen segments are over p
  abbrev over_count : Point → ℕ
  over_count p = count_by (λ x. chosen x && is_over (seg x) p) items

  -- of any set of points the chosen segments have an even number of ends in it
  abbrev pub ChosenHaveEvenEnds : Type 0
  ChosenHaveEvenEnds = (inside : Coord → Bool) → sum_by (λ x. cond (chosen x) (ends_inside inside (seg x)) 0) items % 2 ≡ 0

  rising_parity : (p q : Point) → ((x : X) → Contains items x → IsSamePair (is_over (seg x) q) (passes p q (seg x).hi) (is_over (seg x) p) (passes p q (seg x).lo))
      → ChosenHaveEvenEnds → over_count p % 2 ≡ over_count q % 2
  rising_parity p q same even =
      let all = sums_agree (λ x. cond (chosen x && is_over (seg x) q) 1 0) (λ x. cond (chosen x && passes p q (seg x).hi) 1 0)
      (λ x. cond (chosen x && is_over (seg x) p) 1 0) (λ x. cond (chosen x && passes p q (seg x).lo) 1 0) items
      (λ x i. pair_counts (chosen x) (is_over (seg x) q) (passes p q (seg x).hi) (is_over (seg x) p) (passes p q (seg x).lo) (same x i)) in
      let ends = sum_splits (λ x. cond (chosen x) (ends_inside (passes p q) (seg x)) 0)
      (λ x. cond (chosen x && passes p q (seg x).lo) 1 0) (λ x. cond (chosen x && passes p q (seg x).hi) 1 0) items
      (λ x i. ends_count (chosen x) (passes p q (seg x).lo) (passes p q (seg x).hi)) in
      let none = even (passes p q) in
      omega arith

  clear_parity : (edges : List Seg) → ((x : X) → Contains items x → Contains edges (seg x)) → IsSwept edges → ChosenHaveEvenEnds
      → (p q : Point) → IsClear edges p q → over_count p % 2 ≡ over_count q % 2
  clear_parity edges among swept even p q clear =
      elim (lt_or_ge (sweep q *ℤ pos p.d) (sweep p *ℤ pos q.d)) [
        | inl down ↦
            sym (rising_parity q p
            (λ x i. one_edge (seg x) q p (clear_misses edges q p (clear-sym edges p q clear) (seg x) (among x i)) (swept (seg x) (among x i)) (le_of_lt down)) even)
        | inr up ↦ rising_parity p q (λ x i. one_edge (seg x) p q (clear_misses edges p q clear (seg x) (among x i)) (swept (seg x) (among x i)) up) even
      ]

  -- the parity of how many are over a point is the same at joined points
  pub parity-joined : (edges : List Seg) → ((x : X) → Contains items x → Contains edges (seg x)) → IsSwept edges → ChosenHaveEvenEnds
      → (p q : Point) → Joined edges p q
      → count_by (λ x. chosen x && is_over (seg x) p) items % 2 ≡ count_by (λ x. chosen x && is_over (seg x) q) items % 2
  parity-joined edges among swept even p q j = joined_keep edges (λ r. over_count r % 2) (clear_parity edges among swept even) p q j

-- joined points are held alike by edges with even ends
pub holds-joined : (edges : List Seg) → IsSwept edges → HaveEvenEnds edges → (p q : Point) → Joined edges p q → holds edges p ≡ holds edges q
holds-joined edges swept even p q j = ap (λ n. n == 1) (parity-joined (λ e. e) (λ e. true) edges edges (λ e i. i) swept even p q j)

-- and by the uses of a member with even ends
pub member_holds-joined : (uses : List EdgeUse) (member : ℕ) (edges : List Seg) → ((u : EdgeUse) → Contains uses u → Contains edges u.seg) → IsSwept edges
    → MemberHasEvenEnds uses member → (p q : Point) → Joined edges p q → member_holds uses member p ≡ member_holds uses member q
member_holds-joined uses member edges among swept even p q j =
    ap (λ n. n == 1) (parity-joined (λ u. u.seg) (λ u. u.member == member) uses edges among swept even p q j)

-- so joined points have one label where all members have even ends
pub label-joined : (uses : List EdgeUse) (members : ℕ) (edges : List Seg) → ((u : EdgeUse) → Contains uses u → Contains edges u.seg) → IsSwept edges
    → HasEvenEnds uses → (p q : Point) → Joined edges p q → label_at uses members p ≡ label_at uses members q
label-joined uses members edges among swept even p q j =
    λ i. filter (λ m. member_holds-joined uses m edges among swept (λ inside. even inside m) p q j i) (numbers_below members)
