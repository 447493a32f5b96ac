-- What next half-edges and links hand up from earlier vertices holds of all half-edges; so from some side a link leads past the range, and a test that crossings keep is the same on all sides.
use mathlib.Core.List.{List, [], ◌∷◌}
use Rattle.std.proofs.Common.{◌≡◌, refl, sym, ◌∙◌, ap, subst, ℕ, zero, suc, ◌≤◌, ◌<◌, ◌^◌, Bool, true, false, not, ◌&&◌, cond, true≢false, int_eq, count_by, Contains, IsTrue, pos, ◌+ℤ◌, ◌<ℤ◌, inl, inr, arith}
use Rattle.std.proofs.lemmas.List.Elements.{All-contains}
use Rattle.std.proofs.lemmas.List.Sums.{sum_by-cons}
use Rattle.std.proofs.lemmas.Bool.{and_parts, and_from}
use Rattle.cov_types.specs.declared.coord.Coord.{Coord}
use Rattle.cov_types.specs.declared.seg.Seg.{Seg}
use Rattle.cov_types.specs.Coord.{is_before}
use Rattle.cov_types.specs.Range.{IsInRange, IsSegInRange}
use Rattle.cov_types.proofs.Equal.{Decides-same_coords}
use Rattle.integer_laws.proofs.Ring.{lin, mul_one, pos_times}
use Rattle.integer_laws.proofs.Compare.{trichotomy}
use Rattle.plane.specs.Point.{at_coord}
use Rattle.plane.specs.Segment.{side}
use Rattle.plane.specs.Ray.{sweep}
use Rattle.plane.specs.Region.{far_point}
use Rattle.plane.proofs.Sides.{side-lo}
use Rattle.plane.proofs.Sweeps.{sweep-before, before-sweep, sweep-one_to_one}
use Rattle.crossing_laws.proofs.Lists.{contains_here, contains_there}
use Rattle.crossing_laws.proofs.Ways.{joined-trans, joined-sym}
use Rattle.sector_laws.specs.Sector.{HalfEdge, origin, target, left, twin, half_edges, is_before_by_angle, Leaves, IsNext, IsPlanar}
use Rattle.sector_laws.proofs.Order.{before-trans}
use Rattle.sector_laws.proofs.Sectors.{next_joined}
use Rattle.sector_laws.proofs.Exists.{some_next, before-irrefl}
use Rattle.sector_laws.proofs.Angles.{true_or_false}
use Rattle.region_laws.specs.Below.{IsNearestBelow, HasNoneBelow}
use Rattle.region_laws.specs.Linked.{LeavesOverRay}
use Rattle.region_laws.specs.Crossed.{IsCrossed}
use Rattle.region_laws.proofs.Edge.{under-is}
use Rattle.region_laws.proofs.Links.{link_down, link_out}
use Rattle.region_laws.proofs.Nearest.{nearest_or_none}
use Rattle.region_laws.proofs.Balance.{first_or_later, half_edges_contain, half_edge_edge}

-- ---- a test that passes less

count_at_most : {X : Type 0} (f g : X → Bool) (xs : List X) → ((x : X) → Contains xs x → f x ≡ true → g x ≡ true) → count_by f xs ≤ count_by g xs
count_at_most f g [] h = omega arith
count_at_most f g (x ∷ xs) h =
    let rest = count_at_most f g xs (λ y i. h y (contains_there x y xs i)) in
    let first = one_at_most (f x) (g x) (h x (contains_here x xs)) in
    omega (arith, sum_by-cons (λ y. cond (f y) 1 0) x xs, sum_by-cons (λ y. cond (g y) 1 0) x xs)
  where
    one_at_most : (a b : Bool) → (a ≡ true → b ≡ true) → cond a 1 0 ≤ cond b 1 0
    one_at_most true true h = omega arith
    one_at_most true false h = absurd (true≢false (sym (h refl)))
    one_at_most false b h = omega arith

counts_nothing : (a : Bool) → a ≡ false → cond {A = ℕ} a 1 0 ≡ 0
counts_nothing true h = absurd (true≢false h)
counts_nothing false h = refl

counts_one : (a : Bool) → a ≡ true → cond {A = ℕ} a 1 0 ≡ 1
counts_one true h = refl
counts_one false h = absurd (true≢false (sym h))

count_less : {X : Type 0} (f g : X → Bool) (xs : List X) → ((x : X) → Contains xs x → f x ≡ true → g x ≡ true) → (y : X) → Contains xs y → f y ≡ false → g y ≡ true → count_by f xs < count_by g xs
count_less f g [] h y c none some = absurd (omega (arith, c.1))
count_less f g (x ∷ xs) h y c none some =
    elim (first_or_later x xs y c) [
      | inl here ↦ (
          let rest = count_at_most f g xs (λ z i. h z (contains_there x z xs i)) in
          omega (arith, rest, counts_nothing (f x) (ap f here ∙ none), counts_one (g x) (ap g here ∙ some), sum_by-cons (λ z. cond (f z) 1 0) x xs, sum_by-cons (λ z. cond (g z) 1 0) x xs)
          )
      | inr later ↦ (
          let rest = count_less f g xs (λ z i. h z (contains_there x z xs i)) y later none some in
          let first = count_at_most f g (x ∷ []) (λ z i. elim (first_or_later x [] z i) [
            | inl one ↦ subst (λ t. f t ≡ true → g t ≡ true) one (h x (contains_here x xs))
            | inr more ↦ absurd (omega (arith, more.1))
          ]) in
          omega (arith, sum_by-cons (λ z. cond (f z) 1 0) x xs, sum_by-cons (λ z. cond (g z) 1 0) x xs, sum_by-cons (λ z. cond (f z) 1 0) x [], sum_by-cons (λ z. cond (g z) 1 0) x [])
          )
    ]

-- ---- facts that come up from earlier vertices

-- the fact holds of each half-edge where it holds of the next one after its twin, and of one over the ray where it holds of all that leave earlier vertices
pub record ComesUp (edges : List Seg) (Holds : HalfEdge → Type 0) : Type 0 where
  pub turn : (h g : HalfEdge) → IsNext edges (twin h) g → Holds g → Holds h
  pub over : (v : Coord) (g : HalfEdge) → LeavesOverRay edges v g → ((k : HalfEdge) → Contains edges k.edge → IsTrue (is_before (origin k) v) → Holds k) → Holds g

-- from the side on the left of the half-edge a link leads past the range
pub record HasWayOut (edges : List Seg) : Type 0 where
  pub vertex : Coord
  pub half_edge : HalfEdge
  pub leaves : LeavesOverRay edges vertex half_edge
  pub none : HasNoneBelow edges (at_coord vertex)

pub leaves_at : (edges : List Seg) (v : Coord) (g : HalfEdge) → LeavesOverRay edges v g → Leaves edges v g
leaves_at edges v g over = record { among = over.over.follows.leaves.among; from = over.from }

module _ (edges : List Seg) (planar : IsPlanar edges) where
  in_range : (e : Seg) → Contains edges e → IsSegInRange e
  in_range e c = All-contains IsSegInRange edges e planar.in_range c

  vertex_in_range : (h : HalfEdge) → Contains edges h.edge → IsInRange (origin h)
  vertex_in_range h c = by_direction h.forwards
    where
      by_direction : (b : Bool) → IsInRange (origin (record { edge = h.edge; forwards = b }))
      by_direction true = (in_range h.edge c).lo
      by_direction false = (in_range h.edge c).hi

  -- the nearest edge below a vertex begins at an earlier one
  pub below_earlier : (v : Coord) (g : HalfEdge) → Leaves edges v g → (e : Seg) → IsNearestBelow edges (at_coord v) e → IsTrue (is_before e.lo v)
  below_earlier v g at e nearest =
      let hv = subst (λ c. IsInRange c) at.from (vertex_in_range g at.among) in
      let he = (in_range e nearest.below.among).lo in
      let under = (under-is e (at_coord v)).0 nearest.below.under in
      let one = mul_one (sweep (at_coord e.lo)) in
      let from = under.from in
      before-sweep e.lo v he hv (elim (trichotomy (sweep (at_coord e.lo)) (sweep (at_coord v))) [
        | inl less ↦ less
        | inr rest ↦ elim rest [
          | inl even ↦ absurd (
              let same = sweep-one_to_one e.lo v he hv even in
              let zero = subst (λ c. side e (at_coord c) ≡ pos 0) same (side-lo e) in
              let above = under.above in
              omega (arith, lin)
              )
          | inr more ↦ absurd (omega (arith, lin))
        ]
      ])

  -- ---- how many half-edges leave before h

  abbrev leaves_before : Coord → HalfEdge → HalfEdge → Bool
  leaves_before v h k = (int_eq (origin k).x v.x && int_eq (origin k).y v.y) && is_before_by_angle k h

  abbrev rank : Coord → HalfEdge → ℕ
  rank v h = count_by (leaves_before v h) (half_edges edges)

  rank_less : (v : Coord) (g h : HalfEdge) → Leaves edges v g → Leaves edges v h → is_before_by_angle g h ≡ true → rank v g < rank v h
  rank_less v g h at_g at_h before =
      count_less (leaves_before v g) (leaves_before v h) (half_edges edges)
      (λ k i t. (
      let parts = and_parts _ _ t in
      let at_k : Leaves edges v k = record { among = half_edge_edge edges k i; from = (Decides-same_coords (origin k) v).0 parts.0 } in
      and_from _ _ parts.0 (before-trans edges planar v k g h at_k at_g at_h parts.1 before)
      ))
      g (half_edges_contain edges g at_g.among)
      (λ i. second_false (int_eq (origin g).x v.x && int_eq (origin g).y v.y) (is_before_by_angle g g) (before-irrefl edges planar v g at_g) i)
      (and_from _ _ ((Decides-same_coords (origin g) v).1 at_g.from) before)
    where
      second_false : (a b : Bool) → b ≡ false → (a && b) ≡ false
      second_false true b h = h
      second_false false b h = refl

  -- ---- the induction

  not_so_low : (v : Coord) → IsInRange v → (sweep (at_coord v) +ℤ pos (2 ^ 60)) <ℤ pos 0 → ⊥
  unfolding sweep
  not_so_low v h low = omega (arith, lin, pos_times (2 ^ 30) v.x, h.left, h.bottom)

  height : (v : Coord) → IsInRange v → (sweep (at_coord v) +ℤ pos (2 ^ 60)) <ℤ pos (2 ^ 61)
  unfolding sweep
  height v h = omega (arith, lin, pos_times (2 ^ 30) v.x, h.right, h.top)

  twin_twin : (h : HalfEdge) → twin (twin h) ≡ h
  twin_twin h = ap (λ b. record { edge = h.edge; forwards = b }) (not_not h.forwards)
    where
      not_not : (b : Bool) → not (not b) ≡ b
      not_not true = refl
      not_not false = refl

  twin_target : (h : HalfEdge) → target (twin h) ≡ origin h
  twin_target h = by_direction h.forwards
    where
      by_direction : (b : Bool) → target (twin (record { edge = h.edge; forwards = b })) ≡ origin (record { edge = h.edge; forwards = b })
      by_direction true = refl
      by_direction false = refl

  module _ (Holds : HalfEdge → Type 0) (up : ComesUp edges Holds) where
    -- by the height m of the vertex, and there by the rank r
    by_height : (m r : ℕ) (v : Coord) (h : HalfEdge) → Leaves edges v h → (sweep (at_coord v) +ℤ pos (2 ^ 60)) <ℤ pos m → rank v h < r → Holds h
    by_height zero r v h at low less = absurd (not_so_low v (subst (λ c. IsInRange c) at.from (vertex_in_range h at.among)) low)
    by_height (suc m) zero v h at low less = absurd (omega arith)
    by_height (suc m) (suc r) v h at low less =
        let (g, next) = some_next edges planar (twin h) at.among in
        let from_v : origin g ≡ v = next.leaves.from ∙ twin_target h ∙ at.from in
        let at_g : Leaves edges v g = record { among = next.leaves.among; from = from_v } in
        up.turn h g next (elim (true_or_false (is_before_by_angle g h)) [
          | inl before ↦ by_height (suc m) r v g at_g low (omega (arith, rank_less v g h at_g at before))
          | inr last ↦ up.over v g
              (record {
                before = twin h;
                over = record { follows = next; past_down = ap (λ k. is_before_by_angle g k) (twin_twin h) ∙ last };
                from = from_v;
              })
              (λ k c earlier. (
              let hv = subst (λ c. IsInRange c) at.from (vertex_in_range h at.among) in
              let lower = sweep-before (origin k) v (vertex_in_range k c) hv earlier in
              by_height m (suc (rank (origin k) k)) (origin k) k (record { among = c; from = refl }) (omega (arith, lin)) (omega arith)
              ))
        ])

    pub of_all : (h : HalfEdge) → Contains edges h.edge → Holds h
    of_all h c =
        by_height (2 ^ 61) (suc (rank (origin h) h)) (origin h) h (record { among = c; from = refl }) (height (origin h) (vertex_in_range h c)) (omega arith)

  -- ---- some link leads past the range

  out_comes_up : ComesUp edges (λ _. HasWayOut edges)
  out_comes_up = record {
    turn = λ _ _ _ out. out;
    over = λ v g over earlier. elim (nearest_or_none edges planar (at_coord v)) [
      | inl found ↦ earlier (record { edge = found.0; forwards = true }) found.1.below.among (below_earlier v g (leaves_at edges v g over) found.0 found.1)
      | inr none ↦ record { vertex = v; half_edge = g; leaves = over; none = none }
    ];
  }

  pub some_out : (h : HalfEdge) → Contains edges h.edge → HasWayOut edges
  some_out h c = of_all (λ _. HasWayOut edges) out_comes_up h c

-- ---- a test that twins and joined points keep

module _ (edges : List Seg) (planar : IsPlanar edges) (passes : HalfEdge → Bool) (crossed : IsCrossed edges passes) where
  passes_out : (out : HasWayOut edges) → ComesUp edges (λ h. passes h ≡ passes out.half_edge)
  passes_out out = record {
    turn = λ h g next same. crossed.across h next.among ∙ crossed.joined (twin h) g next.among next.leaves.among (next_joined edges planar (twin h) g next) ∙ same;
    over = λ v g over earlier. elim (nearest_or_none edges planar (at_coord v)) [
      | inl found ↦ (
          let e = found.0 in
          let below : HalfEdge = record { edge = e; forwards = true } in
          let at = leaves_at edges v g over in
          crossed.joined g below at.among found.1.below.among (link_down edges planar v g over e found.1) ∙ earlier below found.1.below.among (below_earlier edges planar v g at e found.1)
          )
      | inr none ↦ (
          let here = link_out edges planar v g over none in
          let there = link_out edges planar out.vertex out.half_edge out.leaves out.none in
          crossed.joined g out.half_edge over.over.follows.leaves.among out.leaves.over.follows.leaves.among
          (joined-trans edges (left g) far_point (left out.half_edge) here (joined-sym edges (left out.half_edge) far_point there))
          )
    ];
  }

  -- so it is the same on all half-edges
  pub crossed_same : (h g : HalfEdge) → Contains edges h.edge → Contains edges g.edge → passes h ≡ passes g
  crossed_same h g in_h in_g =
      let out = some_out edges planar h in_h in
      let on_all = of_all edges planar (λ k. passes k ≡ passes out.half_edge) (passes_out out) in
      on_all h in_h ∙ sym (on_all g in_g)
