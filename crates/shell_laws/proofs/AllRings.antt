-- All rings of a part together wind once round each point of the part, and round no other: so one ring holds the part, and the others hold none of it.
use mathlib.Core.List.{[], ◌∷◌}
use Rattle.std.proofs.Common.{◌≡◌, refl, sym, ◌∙◌, ap, ℕ, Bool, true, false, not, cond, List, flat_map, sum_by, count_by, ℤ, pos, negsuc, ◌+ℤ◌, ◌-ℤ◌, arith}
use Rattle.std.specs.Prelude.{Contains, All}
use Rattle.std.proofs.lemmas.Bool.{false≢true}
use Rattle.std.proofs.lemmas.List.Elements.{All-head, All-tail}
use Rattle.std.proofs.lemmas.List.Sorted.{sum_by-IsPermutation}
use Rattle.std.proofs.lemmas.List.Sums.{sum_by-cons, sum_by-append}
use Rattle.cov_types.specs.declared.seg.Seg.{Seg}
use Rattle.integer_laws.proofs.Ring.{lin}
use Rattle.plane.specs.Point.{Point}
use Rattle.plane.specs.Ray.{is_over}
use Rattle.crossing_laws.specs.Crossing.{crossing_sum, int_sum_by}
use Rattle.sector_laws.specs.Sector.{HalfEdge, left, AreDistinct, IsPlanar}
use Rattle.region_laws.specs.Weights.{side_weight, weigh_sides}
use Rattle.region_owners.proofs.OwnEdges.{IsSideTest, own_sum, jump}
use Rattle.arrangement.proofs.LiveOverlays.{kept_is}
use Rattle.shell_laws.specs.Part.{IsPartTest, is_part_border, part_boundary}
use Rattle.shell_laws.specs.Ring.{way_edges, IsRingRound, AreRings, ring_holds}
use Rattle.shell_laws.proofs.Simple.{by_direction}
use Rattle.shell_laws.proofs.Winding.{sign, winds}
use Rattle.shell_laws.proofs.OneRing.{holds_count}

-- ---- what edges over a point weigh, by their lower and their upper sides

module _ (passes : HalfEdge → Bool) (p : Point) where
  abbrev below : Seg → ℕ
  below e = cond (is_over e p) (cond (passes (record { edge = e; forwards = false })) 1 0) 0

  abbrev above : Seg → ℕ
  above e = cond (is_over e p) (cond (passes (record { edge = e; forwards = true })) 1 0) 0

  one_weight : (over up down : Bool) → cond over (pos (cond down 1 0) -ℤ pos (cond up 1 0)) (pos 0) +ℤ pos (cond over (cond up 1 0) 0) ≡ pos (cond over (cond down 1 0) 0)
  one_weight true true true = refl
  one_weight true true false = refl
  one_weight true false true = refl
  one_weight true false false = refl
  one_weight false up down = refl

  all_weights : (es : List Seg) → crossing_sum (weigh_sides passes es) p +ℤ pos (sum_by above es) ≡ pos (sum_by below es)
  all_weights [] = refl
  all_weights (e ∷ es) =
      let first = one_weight (is_over e p) (passes (record { edge = e; forwards = true })) (passes (record { edge = e; forwards = false })) in
      let rest = all_weights es in
      omega (arith, lin, sum_by-cons above e es, sum_by-cons below e es)

  -- edges that are not of the boundary weigh nothing
  border_weights : (edges : List Seg) → crossing_sum (weigh_sides passes (part_boundary edges passes)) p ≡ crossing_sum (weigh_sides passes edges) p
  border_weights [] = refl
  border_weights (e ∷ es) = by (border_weights es) (is_part_border passes e) refl
    where
      none : (over up down : Bool) → cond up (not down) down ≡ false → cond over (pos (cond down 1 0) -ℤ pos (cond up 1 0)) (pos 0) ≡ pos 0
      none false up down h = refl
      none true true true h = refl
      none true false false h = refl
      none true true false h = absurd (false≢true (sym h))
      none true false true h = absurd (false≢true (sym h))

      by : crossing_sum (weigh_sides passes (part_boundary es passes)) p ≡ crossing_sum (weigh_sides passes es) p → (b : Bool) → is_part_border passes e ≡ b
          → crossing_sum (weigh_sides passes (cond b (e ∷ part_boundary es passes) (part_boundary es passes))) p ≡ crossing_sum (weigh_sides passes (e ∷ es)) p
      by rest true is = ap (λ n. cond (is_over e p) (jump passes e) (pos 0) +ℤ n) rest
      by rest false is = (let nothing = none (is_over e p) (passes (record { edge = e; forwards = true })) (passes (record { edge = e; forwards = false })) is in omega (arith, lin))

  -- a half-edge with the part on its left alone
  one_border : (k : HalfEdge) → passes k ≡ true → is_part_border passes k.edge ≡ true → cond (is_over k.edge p) (sign k) (pos 0) +ℤ pos (above k.edge) ≡ pos (below k.edge)
  one_border = by_direction (λ k. passes k ≡ true → is_part_border passes k.edge ≡ true → cond (is_over k.edge p) (sign k) (pos 0) +ℤ pos (above k.edge) ≡ pos (below k.edge))
      (λ e. up (is_over e p) (passes (record { edge = e; forwards = true })) (passes (record { edge = e; forwards = false })))
      (λ e. down (is_over e p) (passes (record { edge = e; forwards = true })) (passes (record { edge = e; forwards = false })))
    where
      up : (over a b : Bool) → a ≡ true → cond a (not b) b ≡ true → cond over (negsuc 0) (pos 0) +ℤ pos (cond over (cond a 1 0) 0) ≡ pos (cond over (cond b 1 0) 0)
      up false a b h k = refl
      up true true false h k = refl
      up true true true h k = absurd (false≢true k)
      up true false b h k = absurd (false≢true h)

      down : (over a b : Bool) → b ≡ true → cond a (not b) b ≡ true → cond over (pos 1) (pos 0) +ℤ pos (cond over (cond a 1 0) 0) ≡ pos (cond over (cond b 1 0) 0)
      down false a b h k = refl
      down true false true h k = refl
      down true true true h k = absurd (false≢true k)
      down true a false h k = absurd (false≢true h)

  ring_weights : (way : List HalfEdge) → All (λ k. passes k ≡ true) way → All (λ k. is_part_border passes k.edge ≡ true) way
      → winds way p +ℤ pos (sum_by above (way_edges way)) ≡ pos (sum_by below (way_edges way))
  ring_weights [] inside border = refl
  ring_weights (k ∷ way) inside border =
      let first = one_border k (All-head (λ m. passes m ≡ true) k way inside) (All-head (λ m. is_part_border passes m.edge ≡ true) k way border) in
      let rest = ring_weights way (All-tail (λ m. passes m ≡ true) k way inside) (All-tail (λ m. is_part_border passes m.edge ≡ true) k way border) in
      omega (arith, lin, sum_by-cons above k.edge (way_edges way), sum_by-cons below k.edge (way_edges way))

-- how often the rings together wind round p
abbrev pub wind_all : List (List HalfEdge) → Point → ℤ
wind_all rings p = int_sum_by (λ ring. winds ring p) rings

module _ (edges : List Seg) (passes : HalfEdge → Bool) where
  border_of : (ring : List HalfEdge) → IsRingRound edges passes ring → All (λ k. is_part_border passes k.edge ≡ true) ring
  border_of ring is i d within = (kept_is (is_part_border passes) edges _ (is.way.border i d within)).1

  rings_weights : (p : Point) (rings : List (List HalfEdge)) → All (IsRingRound edges passes) rings
      → wind_all rings p +ℤ pos (sum_by (above passes p) (flat_map way_edges rings)) ≡ pos (sum_by (below passes p) (flat_map way_edges rings))
  rings_weights p [] each = refl
  rings_weights p (ring ∷ rings) each =
      let is = All-head (IsRingRound edges passes) ring rings each in
      let first = ring_weights passes p ring is.way.inside (border_of ring is) in
      let rest = rings_weights p rings (All-tail (IsRingRound edges passes) ring rings each) in
      let up = sum_by-append (above passes p) (way_edges ring) (flat_map way_edges rings) in
      let down = sum_by-append (below passes p) (way_edges ring) (flat_map way_edges rings) in
      omega (arith, lin)

  -- together they wind as often as the edges weigh
  pub wind_all_is : (rings : List (List HalfEdge)) → AreRings edges passes rings → (p : Point) → wind_all rings p ≡ crossing_sum (weigh_sides passes edges) p
  wind_all_is rings are p =
      let flat = flat_map way_edges rings in
      let boundary = part_boundary edges passes in
      let here = rings_weights p rings are.each in
      let there = all_weights passes p boundary in
      let up = sum_by-IsPermutation (above passes p) flat boundary are.cover in
      let down = sum_by-IsPermutation (below passes p) flat boundary are.cover in
      let border = border_weights passes p edges in
      omega (arith, lin)

-- ---- one ring holds the part

module _ (edges : List Seg) (planar : IsPlanar edges) (distinct : AreDistinct edges) (passes : HalfEdge → Bool) (part : IsPartTest edges passes) (rings : List (List HalfEdge)) (are : AreRings edges passes rings) where
  pub test : IsSideTest edges passes
  test = record { same = part.same; outside = part.outside }

  pub wind_all_side : (h : HalfEdge) → Contains edges h.edge → wind_all rings (left h) ≡ side_weight passes h
  wind_all_side h has = wind_all_is edges passes rings are (left h) ∙ own_sum edges planar distinct passes test h has

  module _ (h : HalfEdge) (has : Contains edges h.edge) (pass : passes h ≡ true) where
    counted : (some : List (List HalfEdge)) → All (IsRingRound edges passes) some → pos (count_by (λ ring. ring_holds ring (left h)) some) ≡ wind_all some (left h)
    counted [] each = refl
    counted (ring ∷ some) each =
        let first = holds_count edges planar passes part ring (All-head (IsRingRound edges passes) ring some each) h has pass in
        let rest = counted some (All-tail (IsRingRound edges passes) ring some each) in
        omega (arith, lin, sum_by-cons (λ r. cond (ring_holds r (left h)) 1 0) ring some)

    pub one_shell : count_by (λ ring. ring_holds ring (left h)) rings ≡ 1
    one_shell =
        let all = counted rings are.each in
        let side = wind_all_side h has in
        let one = ap (λ b. pos (cond b 1 0)) pass in
        omega (arith, lin)
