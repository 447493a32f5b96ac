-- From the side on the left of a half-edge that leaves its vertex over the ray, down the ray to the edge below.
use mathlib.Core.List.{[], ◌∷◌}
use Rattle.std.proofs.Common.{◌≡◌, refl, sym, ◌∙◌, subst, ℕ, Bool, true, false, ◌^◌, List, Contains, ℤ, pos, negsuc, neg_ℤ, ◌+ℤ◌, ◌-ℤ◌, ◌*ℤ◌, inl, inr, ◌↔◌, arith}
use Rattle.cov_types.specs.declared.coord.Coord.{Coord}
use Rattle.cov_types.specs.declared.seg.Seg.{Seg}
use Rattle.cov_types.specs.Range.{IsSegInRange}
use Rattle.integer_laws.proofs.Ring.{lin, by_ring, Var, Lit, ◌⊕◌, ◌⊖◌, ◌⊗◌, Neg, mul_one, mul_comm, pos_times}
use Rattle.plane.specs.Point.{Point, at_coord}
use Rattle.plane.specs.Segment.{side, upper}
use Rattle.plane.specs.Ray.{sweep}
use Rattle.plane.specs.Joined.{IsClear, Joined}
use Rattle.plane.specs.Region.{far_point, IsSide, IsOuter}
use Rattle.plane.proofs.Sweeps.{rises-in_range}
use Rattle.crossing_laws.proofs.Ways.{joined-trans, joined-sym, joined_by_clear, joined_off}
use Rattle.sector_laws.specs.Sector.{HalfEdge, origin, target, left, twin, is_before_by_angle, is_in_sector, Leaves, IsPlanar}
use Rattle.sector_laws.proofs.Near.{near, fine, sweep-near, side-near}
use Rattle.sector_laws.proofs.Leaving.{ray_x, ray_y, edge_in_range}
use Rattle.sector_laws.proofs.Turns.{left_end, leaves_end, from_ray, to_ahead, from_ahead}
use Rattle.sector_laws.proofs.Sliver.{rise_within, sliver_clear, upper_in_sliver, lower_in_sliver}
use Rattle.sector_laws.proofs.Ends.{near_lo_in_sliver, near_hi_in_sliver}
use Rattle.sector_laws.proofs.Angles.{before_in_half, before_back, not_in_rest, true_or_false, not_both}
use Rattle.sector_laws.proofs.Numbers.{half_edge_side, sides_joined}
use Rattle.region_laws.specs.Below.{IsBelow, sweep_rise, IsNearer, IsNearestBelow, HasNoneBelow}
use Rattle.region_laws.specs.Linked.{LeavesOverRay, IsLinkDown, IsLinkOut, IsLinked}
use Rattle.region_laws.proofs.Edge.{IsUnder, under-is, below_joined, none_below_outer}

-- ---- the point straight down the ray, near the vertex

abbrev pub beneath : Coord → Point
beneath v = near v (ray_x false) (ray_y false)

sweep-beneath : (v : Coord) → sweep (beneath v) ≡ fine *ℤ sweep (at_coord v)
sweep-beneath v = omega (arith, lin, sweep-near v (pos 1) (neg_ℤ (pos (2 ^ 30))))

beneath_is : (n s lx ly hx hy : ℤ) → (n *ℤ s) +ℤ (((hx -ℤ lx) *ℤ neg_ℤ (pos (2 ^ 30))) -ℤ ((hy -ℤ ly) *ℤ pos 1)) ≡ (n *ℤ s) -ℤ (((pos (2 ^ 30) *ℤ hx) +ℤ hy) -ℤ ((pos (2 ^ 30) *ℤ lx) +ℤ ly))
beneath_is n s lx ly hx hy =
    by_ring (n ∷ s ∷ lx ∷ ly ∷ hx ∷ hy ∷ [])
    (Var 0 ⊗ Var 1 ⊕ ((Var 4 ⊖ Var 2) ⊗ Neg (Lit (pos (2 ^ 30))) ⊖ (Var 5 ⊖ Var 3) ⊗ Lit (pos 1)))
    (Var 0 ⊗ Var 1 ⊖ (Lit (pos (2 ^ 30)) ⊗ Var 4 ⊕ Var 5 ⊖ (Lit (pos (2 ^ 30)) ⊗ Var 2 ⊕ Var 3))) refl

side-beneath : (e : Seg) (v : Coord) → side e (beneath v) ≡ (fine *ℤ side e (at_coord v)) -ℤ sweep_rise e
unfolding sweep
side-beneath e v = side-near e v (pos 1) (neg_ℤ (pos (2 ^ 30))) ∙ beneath_is fine (side e (at_coord v)) e.lo.x e.lo.y e.hi.x e.hi.y

-- it has the same edges below it as the vertex
under-beneath : (e : Seg) (v : Coord) → IsSegInRange e → IsUnder e (beneath v) ↔ IsUnder e (at_coord v)
under-beneath e v he =
    let t = sweep (at_coord v) in
    let l = sweep (at_coord e.lo) in
    let h = sweep (at_coord e.hi) in
    let small = rise_within e he in
    let at = sweep-beneath v in
    let beside = side-beneath e v in
    let up = rises-in_range e he in
    let t_part = pos_times (2 ^ 200) t in
    let l_part = pos_times (2 ^ 200) l in
    let h_part = pos_times (2 ^ 200) h in
    let s_part = pos_times (2 ^ 200) (side e (at_coord v)) in
    let one_l = mul_one l in
    let one_h = mul_one h in
    let swap_l = mul_comm l fine in
    let swap_h = mul_comm h fine in (
      λ u. record { from = omega (arith, lin, u.from); to = omega (arith, lin, u.to); above = omega (arith, lin, u.above) },
      λ u. record { from = omega (arith, lin, u.from); to = omega (arith, lin, u.to); above = omega (arith, lin, u.above, small.high) },
    )

below-beneath : (edges : List Seg) → IsPlanar edges → (v : Coord) (e : Seg) → IsBelow edges (beneath v) e ↔ IsBelow edges (at_coord v) e
below-beneath edges planar v e = (
  λ b. (let he = edge_in_range edges planar v e b.among in record { among = b.among; under = (under-is e (at_coord v)).1 ((under-beneath e v he).0 ((under-is e (beneath v)).0 b.under)) }),
  λ b. (let he = edge_in_range edges planar v e b.among in record { among = b.among; under = (under-is e (beneath v)).1 ((under-beneath e v he).1 ((under-is e (at_coord v)).0 b.under)) }),
)

gap_beneath : (n s t g f : ℤ) → (((n *ℤ t) -ℤ f) *ℤ g) -ℤ (((n *ℤ s) -ℤ g) *ℤ f) ≡ n *ℤ ((t *ℤ g) -ℤ (s *ℤ f))
gap_beneath n s t g f = by_ring (n ∷ s ∷ t ∷ g ∷ f ∷ []) ((Var 0 ⊗ Var 2 ⊖ Var 4) ⊗ Var 3 ⊖ (Var 0 ⊗ Var 1 ⊖ Var 3) ⊗ Var 4) (Var 0 ⊗ (Var 2 ⊗ Var 3 ⊖ Var 1 ⊗ Var 4)) refl

nearer-beneath : (v : Coord) (e f : Seg) → IsNearer (at_coord v) e f → IsNearer (beneath v) e f
nearer-beneath v e f h =
    let s = side e (at_coord v) in
    let t = side f (at_coord v) in
    let gap = (t *ℤ sweep_rise e) -ℤ (s *ℤ sweep_rise f) in
    let scaled = gap_beneath fine s t (sweep_rise e) (sweep_rise f) in
    let part = pos_times (2 ^ 200) gap in
    elim h [
      | inl less ↦ inl (rw (side-beneath e v, side-beneath f v) (omega (arith, lin)))
      | inr as_far ↦ inr (let even = as_far.0 in rw (side-beneath e v, side-beneath f v) (omega (arith, lin)), as_far.1)
    ]

nearest-beneath : (edges : List Seg) → IsPlanar edges → (v : Coord) (e : Seg) → IsNearestBelow edges (at_coord v) e → IsNearestBelow edges (beneath v) e
nearest-beneath edges planar v e h = record {
  below = (below-beneath edges planar v e).1 h.below;
  nearest = λ f b. elim (h.nearest f ((below-beneath edges planar v f).0 b)) [ inl same ↦ inl same | inr nearer ↦ inr (nearer-beneath v e f nearer) ];
}

-- ---- from there to the side on the left of the half-edge

module _ (edges : List Seg) (planar : IsPlanar edges) (v : Coord) where
  -- from where a half-edge begins to its middle
  departure : (e : Seg) (b : Bool) → Contains edges e → let h : HalfEdge = record { edge = e; forwards = b } in IsClear edges (left_end (origin h) b h) (left h)
  departure e true c =
      let up = rises-in_range e (edge_in_range edges planar v e c) in
      sliver_clear (pos 1) e edges _ (upper e) (edge_in_range edges planar v) planar.noded c
      (near_lo_in_sliver (pos 1) e (ray_x true) (ray_y true) up refl refl refl) (upper_in_sliver e up)
  departure e false c =
      let up = rises-in_range e (edge_in_range edges planar v e c) in
      sliver_clear (negsuc 0) e edges _ (left (record { edge = e; forwards = false })) (edge_in_range edges planar v) planar.noded c
      (near_hi_in_sliver (negsuc 0) e (ray_x false) (ray_y false) up refl refl refl) (lower_in_sliver e up)

  to_end : (b : Bool) (a g : HalfEdge) → Leaves edges v g → g.forwards ≡ b → is_before_by_angle g a ≡ false → ((k : HalfEdge) → Leaves edges v k → is_in_sector g a k ≡ false)
      → Joined edges (beneath v) (left_end v b g)
  to_end false a g at same rest none =
      joined_by_clear edges _ _ (from_ray edges planar v false g at same
      (λ k at_k same_k. sym (before_in_half false g k same same_k) ∙ (not_in_rest g a k rest (none k at_k)).0))
  to_end true a g at same rest none =
      let ahead = near v (ray_y false) (neg_ℤ (ray_x false)) in
      let ends = leaves_end edges v g at in
      let half = λ (k : HalfEdge) (at_k : Leaves edges v k). elim (true_or_false k.forwards) as (λ _. k.forwards ≡ true) [
        | inl forwards ↦ forwards
        | inr back ↦ absurd (not_both (before_back g k same back) (not_in_rest g a k rest (none k at_k)).0)
      ] in
      joined-trans edges (beneath v) ahead (left_end v true g)
      (joined_by_clear edges _ _ (to_ahead edges planar v false g.edge at.among ends half))
      (joined-trans edges ahead (near v (ray_x true) (ray_y true)) (left_end v true g)
      (joined_by_clear edges _ _ (from_ahead edges planar v false g.edge at.among ends half))
      (joined_by_clear edges _ _ (from_ray edges planar v true g at same
      (λ k at_k same_k. sym (before_in_half true g k same same_k) ∙ (not_in_rest g a k rest (none k at_k)).0))))

  pub beneath_joined : (g : HalfEdge) → LeavesOverRay edges v g → Joined edges (beneath v) (left g)
  beneath_joined g over =
      let h = over.before in
      let next = over.over.follows in
      let here : target h ≡ v = sym next.leaves.from ∙ over.from in
      let at : Leaves edges v g = record { among = next.leaves.among; from = over.from } in
      let none = λ (k : HalfEdge) (at_k : Leaves edges v k). next.none_inside k (record { among = at_k.among; from = at_k.from ∙ sym here }) in
      joined-trans edges (beneath v) (left_end v g.forwards g) (left g)
      (to_end g.forwards (twin h) g at refl over.over.past_down none)
      (joined_by_clear edges _ _ (subst (λ o. IsClear edges (left_end o g.forwards g) (left g)) over.from (departure g.edge g.forwards next.leaves.among)))

  -- ---- the links

  pub link_down : (g : HalfEdge) → LeavesOverRay edges v g → (e : Seg) → IsNearestBelow edges (at_coord v) e → Joined edges (left g) (upper e)
  link_down g over e nearest =
      let way = beneath_joined g over in
      joined-trans edges (left g) (beneath v) (upper e) (joined-sym edges (beneath v) (left g) way)
      (below_joined edges planar (beneath v) (joined_off edges (beneath v) (left g) way) e (nearest-beneath edges planar v e nearest))

  pub link_out : (g : HalfEdge) → LeavesOverRay edges v g → HasNoneBelow edges (at_coord v) → IsOuter edges (left g)
  link_out g over none =
      let way = beneath_joined g over in
      joined-trans edges (left g) (beneath v) far_point (joined-sym edges (beneath v) (left g) way)
      (none_below_outer edges planar (beneath v) (joined_off edges (beneath v) (left g) way) (λ e b. none e ((below-beneath edges planar v e).0 b)))

-- ---- by numbers

-- a side has one side point
one_side : (edges : List Seg) (n : ℕ) (p q : Point) → IsSide edges n p → IsSide edges n q → p ≡ q
one_side edges n p q h k = cc

pub out_side : (edges : List Seg) → IsPlanar edges → (n : ℕ) → IsLinkOut edges n → (p : Point) → IsSide edges n p → IsOuter edges p
out_side edges planar n out p at =
    let g = out.from.half_edge in
    let same = one_side edges n (left g) p (half_edge_side edges n g out.from.is) at in
    subst (λ x. IsOuter edges x) same (link_out edges planar out.vertex g out.from.leaves out.none)

down_side : (edges : List Seg) → IsPlanar edges → (n m : ℕ) → IsLinkDown edges n m → (p q : Point) → IsSide edges n p → IsSide edges m q → Joined edges p q
down_side edges planar n m link p q at_p at_q =
    let g = link.from.half_edge in
    let first = one_side edges n (left g) p (half_edge_side edges n g link.from.is) at_p in
    let second = one_side edges m (upper link.edge) q (half_edge_side edges m (record { edge = link.edge; forwards = true }) link.to) at_q in
    subst (λ x. Joined edges x q) first (subst (λ x. Joined edges (left g) x) second (link_down edges planar link.vertex g link.from.leaves link.edge link.nearest))

pub linked_joined : (edges : List Seg) → IsPlanar edges → (n m : ℕ) → IsLinked edges n m → (p q : Point) → IsSide edges n p → IsSide edges m q → Joined edges p q
linked_joined edges planar n m link p q at_p at_q =
    elim link [
      | inl next ↦ sides_joined edges planar n m next p q at_p at_q
      | inr rest ↦ elim rest [
        | inl down ↦ down_side edges planar n m down p q at_p at_q
        | inr out ↦
            joined-trans edges p far_point q (out_side edges planar n out.0 p at_p)
            (joined-sym edges q far_point (out_side edges planar m out.1 q at_q))
      ]
    ]
