-- Turning round a vertex, clockwise from beside one half-edge to beside another.
use mathlib.Core.List.{List}
use Rattle.std.proofs.Common.{◌≡◌, refl, sym, ◌∙◌, ap, subst, Bool, true, false, not, lit≤, Contains, ℤ, pos, neg_ℤ, ◌+ℤ◌, ◌*ℤ◌, ◌<ℤ◌, inl, inr, ◌⊎◌, arith}
use Rattle.cov_types.specs.declared.coord.Coord.{Coord}
use Rattle.cov_types.specs.declared.seg.Seg.{Seg}
use Rattle.cov_types.proofs.Order.{same_coords}
use Rattle.integer_laws.proofs.Bound.{within_more, within_neg}
use Rattle.integer_laws.proofs.Compare.{le_of_lt, le_of_eq, eq_or_not}
use Rattle.integer_laws.proofs.Ring.{lin, mul_one}
use Rattle.plane.specs.Point.{Point, at_coord, SamePoint}
use Rattle.plane.specs.Segment.{IsOn}
use Rattle.plane.specs.Joined.{IsClear}
use Rattle.plane.proofs.Points.{first_between, second_between}
use Rattle.sector_laws.specs.Sector.{HalfEdge, origin, is_left_of, Leaves, IsPlanar}
use Rattle.sector_laws.proofs.Near.{near, cross, cross-same, IsSlight, IsParted, far_misses, parted_misses}
use Rattle.sector_laws.proofs.Vectors.{other_half_parted, not_left_parted, not_right_parted, left_from_ray, right_from_ray, spread_to_ray, ray_self, back_is, spread_in_half}
use Rattle.sector_laws.proofs.Leaving.{ray_x, ray_y, way_x, way_y, same_or_other, edge_in_range, heading_same, heading_small, heading_other, left_cross, not_left_cross, way_within, stretch, slight_way, ray_x_within, ray_y_within}

-- two coordinates are one or they are not
pub same_coord_or_not : (a b : Coord) → (a ≡ b) ⊎ ((a ≡ b) → ⊥)
same_coord_or_not a b =
    elim (eq_or_not a.x b.x) [
      | inl e ↦ elim (eq_or_not a.y b.y) [
        | inl f ↦ inl (same_coords a b e f)
        | inr n ↦ inr (λ same. n (ap (λ c. c.y) same))
      ]
      | inr n ↦ inr (λ same. n (ap (λ c. c.x) same))
    ]

pub same_from_point : (a b : Coord) → SamePoint (at_coord a) (at_coord b) → a ≡ b
same_from_point a b h = same_coords a b (sym (mul_one a.x) ∙ h.0 ∙ mul_one b.x) (sym (mul_one a.y) ∙ h.1 ∙ mul_one b.y)

-- the vertex is an end of the edge
abbrev pub EndsAt : Coord → Seg → Type 0
EndsAt v e = (e.lo ≡ v) ⊎ (e.hi ≡ v)

pub end_on : (v : Coord) (e : Seg) → EndsAt v e → IsOn e (at_coord v)
end_on v e ends =
    elim ends [
      | inl lo ↦ subst (λ c. IsOn e (at_coord c)) lo (first_between (at_coord e.lo) (at_coord e.hi))
      | inr hi ↦ subst (λ c. IsOn e (at_coord c)) hi (second_between (at_coord e.lo) (at_coord e.hi))
    ]

-- a half-edge that leaves the vertex is of an edge that ends there
pub leaves_end : (edges : List Seg) (v : Coord) (k : HalfEdge) → Leaves edges v k → EndsAt v k.edge
leaves_end edges v k leaves = by_direction k.forwards leaves.from
  where
    by_direction : (b : Bool) → origin (record { edge = k.edge; forwards = b }) ≡ v → EndsAt v k.edge
    by_direction true from = inl from
    by_direction false from = inr from

-- the point beside a half-edge that leaves the vertex: on the left of its edge as seen by those of one half, and on the right
abbrev pub left_end : Coord → Bool → HalfEdge → Point
left_end v b k = near v ((stretch *ℤ way_x v k) +ℤ ray_x b) ((stretch *ℤ way_y v k) +ℤ ray_y b)

abbrev pub right_end : Coord → Bool → HalfEdge → Point
right_end v b k = near v ((stretch *ℤ way_x v k) +ℤ neg_ℤ (ray_x b)) ((stretch *ℤ way_y v k) +ℤ neg_ℤ (ray_y b))

module _ (edges : List Seg) (planar : IsPlanar edges) (v : Coord) where
  -- an edge that the vertex is on ends there, where another one does
  ends_or_off : (e f : Seg) → Contains edges e → Contains edges f → EndsAt v e → EndsAt v f ⊎ (IsOn f (at_coord v) → ⊥)
  ends_or_off e f c i ends =
      elim (same_coord_or_not f.lo v) [
        | inl lo ↦ inl (inl lo)
        | inr not_lo ↦ elim (same_coord_or_not f.hi v) [
          | inl hi ↦ inl (inr hi)
          | inr not_hi ↦ elim (planar.noded e f c i) [
            | inl same ↦ inl (subst (λ g. EndsAt v g) same ends)
            | inr meet ↦ inr (λ on.
                elim (meet (at_coord v) (end_on v e ends, on)).1 [
                  | inl lo ↦ not_lo (sym (same_from_point v f.lo lo))
                  | inr hi ↦ not_hi (sym (same_from_point v f.hi hi))
                ])
          ]
        ]
      ]

  -- a short step from (x1, y1) clockwise to (x2, y2), with no half-edge in between
  pub turn_clear : (e : Seg) → Contains edges e → EndsAt v e → (x1 y1 x2 y2 : ℤ) → IsSlight x1 y1 → IsSlight x2 y2 → pos 0 <ℤ cross x2 y2 x1 y1
      → ((k : HalfEdge) → Leaves edges v k → IsParted x1 y1 x2 y2 (way_x v k) (way_y v k)) → IsClear edges (near v x1 y1) (near v x2 y2)
  turn_clear e c ends x1 y1 x2 y2 h1 h2 spread parted = λ f i.
      elim (ends_or_off e f c i ends) [
        | inl at ↦ elim at [
          | inl lo ↦ (parted_misses v f.hi f x1 y1 x2 y2 (inl (lo, refl)) spread (parted (record { edge = f; forwards = true }) (record { among = i; from = lo }))).none
          | inr hi ↦ (parted_misses v f.lo f x1 y1 x2 y2 (inr (refl, hi)) spread (parted (record { edge = f; forwards = false }) (record { among = i; from = hi }))).none
        ]
        | inr off ↦ (far_misses v f x1 y1 x2 y2 (edge_in_range edges planar v f i) off h1 h2).none
      ]

  -- ---- the steps

  ray_slight : (b : Bool) → IsSlight (ray_x b) (ray_y b)
  ray_slight b = record { x_within = within_more (lit≤ tt) (ray_x_within b); y_within = within_more (lit≤ tt) (ray_y_within b) }

  back_slight : (b : Bool) → IsSlight (neg_ℤ (ray_x b)) (neg_ℤ (ray_y b))
  back_slight b = record { x_within = within_more (lit≤ tt) (within_neg (ray_x_within b)); y_within = within_more (lit≤ tt) (within_neg (ray_y_within b)) }

  left_slight : (b : Bool) (k : HalfEdge) → Leaves edges v k → IsSlight ((stretch *ℤ way_x v k) +ℤ ray_x b) ((stretch *ℤ way_y v k) +ℤ ray_y b)
  left_slight b k leaves = slight_way (way_x v k) (way_y v k) (ray_x b) (ray_y b) (way_within edges planar v k leaves) (ray_x_within b) (ray_y_within b)

  right_slight : (b : Bool) (k : HalfEdge) → Leaves edges v k → IsSlight ((stretch *ℤ way_x v k) +ℤ neg_ℤ (ray_x b)) ((stretch *ℤ way_y v k) +ℤ neg_ℤ (ray_y b))
  right_slight b k leaves =
      slight_way (way_x v k) (way_y v k) (neg_ℤ (ray_x b)) (neg_ℤ (ray_y b)) (way_within edges planar v k leaves) (within_neg (ray_x_within b)) (within_neg (ray_y_within b))

  -- from the right of the last half-edge of a half to the ray behind it
  pub to_ray : (b : Bool) (a : HalfEdge) → Leaves edges v a → a.forwards ≡ b → ((k : HalfEdge) → Leaves edges v k → k.forwards ≡ b → is_left_of a k ≡ false)
      → IsClear edges (right_end v b a) (near v (neg_ℤ (ray_x b)) (neg_ℤ (ray_y b)))
  to_ray b a leaves same none =
      let left = heading_same edges planar v b a leaves same in
      let spread = spread_to_ray stretch (way_x v a) (way_y v a) (ray_x b) (ray_y b) (omega (arith, lin)) left in
      turn_clear a.edge leaves.among (leaves_end edges v a leaves)
      ((stretch *ℤ way_x v a) +ℤ neg_ℤ (ray_x b)) ((stretch *ℤ way_y v a) +ℤ neg_ℤ (ray_y b)) (neg_ℤ (ray_x b)) (neg_ℤ (ray_y b))
      (right_slight b a leaves) (back_slight b) spread
      (λ k at. elim (same_or_other k.forwards b) [
        | inl one ↦
            not_right_parted stretch (way_x v a) (way_y v a) (neg_ℤ (ray_x b)) (neg_ℤ (ray_y b)) (ray_x b) (ray_y b) (way_x v k) (way_y v k) (omega (arith, lin))
            (not_left_cross edges planar v a k at (none k at one)) (heading_same edges planar v b k at one)
        | inr other ↦
            other_half_parted ((stretch *ℤ way_x v a) +ℤ neg_ℤ (ray_x b)) ((stretch *ℤ way_y v a) +ℤ neg_ℤ (ray_y b)) (neg_ℤ (ray_x b)) (neg_ℤ (ray_y b))
            (way_x v k) (way_y v k) (ray_x b) (ray_y b) spread
            (le_of_lt (right_from_ray stretch (way_x v a) (way_y v a) (ray_x b) (ray_y b) (omega (arith, lin)) left)) (le_of_eq (sym (ray_self (ray_x b) (ray_y b))))
            (heading_other edges planar v b k at other)
      ])

  -- from the ray to the left of the first half-edge of a half
  pub from_ray : (b : Bool) (g : HalfEdge) → Leaves edges v g → g.forwards ≡ b → ((k : HalfEdge) → Leaves edges v k → k.forwards ≡ b → is_left_of k g ≡ false)
      → IsClear edges (near v (ray_x b) (ray_y b)) (left_end v b g)
  from_ray b g leaves same none =
      let left = heading_same edges planar v b g leaves same in
      let spread = left_from_ray stretch (way_x v g) (way_y v g) (ray_x b) (ray_y b) (omega (arith, lin)) left in
      turn_clear g.edge leaves.among (leaves_end edges v g leaves)
      (ray_x b) (ray_y b) ((stretch *ℤ way_x v g) +ℤ ray_x b) ((stretch *ℤ way_y v g) +ℤ ray_y b)
      (ray_slight b) (left_slight b g leaves) spread
      (λ k at. elim (same_or_other k.forwards b) [
        | inl one ↦
            not_left_parted stretch (ray_x b) (ray_y b) (way_x v g) (way_y v g) (ray_x b) (ray_y b) (way_x v k) (way_y v k) (omega (arith, lin))
            (not_left_cross edges planar v k g leaves (none k at one)) (heading_same edges planar v b k at one)
        | inr other ↦
            other_half_parted (ray_x b) (ray_y b) ((stretch *ℤ way_x v g) +ℤ ray_x b) ((stretch *ℤ way_y v g) +ℤ ray_y b)
            (way_x v k) (way_y v k) (ray_x b) (ray_y b) spread
            (le_of_eq (sym (cross-same (ray_x b) (ray_y b)))) (le_of_lt (left_from_ray stretch (way_x v g) (way_y v g) (ray_x b) (ray_y b) (omega (arith, lin)) left))
            (heading_other edges planar v b k at other)
      ])

  -- from the right of a half-edge to the left of the next one of its half
  pub in_half : (b : Bool) (a g : HalfEdge) → Leaves edges v a → Leaves edges v g → a.forwards ≡ b → g.forwards ≡ b → is_left_of a g ≡ true
      → ((k : HalfEdge) → Leaves edges v k → k.forwards ≡ b → (is_left_of k g ≡ false) ⊎ (is_left_of a k ≡ false))
      → IsClear edges (right_end v b a) (left_end v b g)
  in_half b a g at_a at_g same_a same_g turn none =
      let left_a = heading_same edges planar v b a at_a same_a in
      let left_g = heading_same edges planar v b g at_g same_g in
      let small : (cross (way_x v a) (way_y v a) (ray_x b) (ray_y b) +ℤ cross (way_x v g) (way_y v g) (ray_x b) (ray_y b)) <ℤ stretch =
      omega (arith, lin, heading_small edges planar v b a at_a same_a, heading_small edges planar v b g at_g same_g) in
      let spread =
      spread_in_half stretch (way_x v a) (way_y v a) (way_x v g) (way_y v g) (ray_x b) (ray_y b) (omega (arith, lin)) (left_cross edges planar v a g at_g turn) small in
      turn_clear a.edge at_a.among (leaves_end edges v a at_a)
      ((stretch *ℤ way_x v a) +ℤ neg_ℤ (ray_x b)) ((stretch *ℤ way_y v a) +ℤ neg_ℤ (ray_y b)) ((stretch *ℤ way_x v g) +ℤ ray_x b) ((stretch *ℤ way_y v g) +ℤ ray_y b)
      (right_slight b a at_a) (left_slight b g at_g) spread
      (λ k at. elim (same_or_other k.forwards b) [
        | inl one ↦ elim (none k at one) [
          | inl after ↦
              not_left_parted stretch ((stretch *ℤ way_x v a) +ℤ neg_ℤ (ray_x b)) ((stretch *ℤ way_y v a) +ℤ neg_ℤ (ray_y b)) (way_x v g) (way_y v g) (ray_x b) (ray_y b)
              (way_x v k) (way_y v k) (omega (arith, lin)) (not_left_cross edges planar v k g at_g after) (heading_same edges planar v b k at one)
          | inr before ↦
              not_right_parted stretch (way_x v a) (way_y v a) ((stretch *ℤ way_x v g) +ℤ ray_x b) ((stretch *ℤ way_y v g) +ℤ ray_y b) (ray_x b) (ray_y b)
              (way_x v k) (way_y v k) (omega (arith, lin)) (not_left_cross edges planar v a k at before) (heading_same edges planar v b k at one)
        ]
        | inr other ↦
            other_half_parted ((stretch *ℤ way_x v a) +ℤ neg_ℤ (ray_x b)) ((stretch *ℤ way_y v a) +ℤ neg_ℤ (ray_y b)) ((stretch *ℤ way_x v g) +ℤ ray_x b) ((stretch *ℤ way_y v g) +ℤ ray_y b)
            (way_x v k) (way_y v k) (ray_x b) (ray_y b) spread
            (le_of_lt (right_from_ray stretch (way_x v a) (way_y v a) (ray_x b) (ray_y b) (omega (arith, lin)) left_a))
            (le_of_lt (left_from_ray stretch (way_x v g) (way_y v g) (ray_x b) (ray_y b) (omega (arith, lin)) left_g))
            (heading_other edges planar v b k at other)
      ])

  -- ---- round a half that no half-edge leaves into

  -- straight ahead in the half
  ahead_left : (b : Bool) → pos 0 <ℤ cross (ray_y b) (neg_ℤ (ray_x b)) (ray_x b) (ray_y b)
  ahead_left true = record { lt = tt }
  ahead_left false = record { lt = tt }

  ahead_slight : (b : Bool) → IsSlight (ray_y b) (neg_ℤ (ray_x b))
  ahead_slight b = record { x_within = within_more (lit≤ tt) (ray_y_within b); y_within = within_more (lit≤ tt) (within_neg (ray_x_within b)) }

  back_left : (x y u w : ℤ) → pos 0 <ℤ cross x y u w → pos 0 <ℤ cross (neg_ℤ u) (neg_ℤ w) x y
  back_left x y u w h = omega (arith, lin, back_is x y u w)

  pub to_ahead : (b : Bool) (e : Seg) → Contains edges e → EndsAt v e → ((k : HalfEdge) → Leaves edges v k → k.forwards ≡ not b)
      → IsClear edges (near v (ray_x b) (ray_y b)) (near v (ray_y b) (neg_ℤ (ray_x b)))
  to_ahead b e c ends none =
      turn_clear e c ends (ray_x b) (ray_y b) (ray_y b) (neg_ℤ (ray_x b)) (ray_slight b) (ahead_slight b) (ahead_left b)
      (λ k at.
      other_half_parted (ray_x b) (ray_y b) (ray_y b) (neg_ℤ (ray_x b)) (way_x v k) (way_y v k) (ray_x b) (ray_y b) (ahead_left b)
      (le_of_eq (sym (cross-same (ray_x b) (ray_y b)))) (le_of_lt (ahead_left b)) (heading_other edges planar v b k at (none k at)))

  pub from_ahead : (b : Bool) (e : Seg) → Contains edges e → EndsAt v e → ((k : HalfEdge) → Leaves edges v k → k.forwards ≡ not b)
      → IsClear edges (near v (ray_y b) (neg_ℤ (ray_x b))) (near v (neg_ℤ (ray_x b)) (neg_ℤ (ray_y b)))
  from_ahead b e c ends none =
      let spread = back_left (ray_y b) (neg_ℤ (ray_x b)) (ray_x b) (ray_y b) (ahead_left b) in
      turn_clear e c ends (ray_y b) (neg_ℤ (ray_x b)) (neg_ℤ (ray_x b)) (neg_ℤ (ray_y b)) (ahead_slight b) (back_slight b) spread
      (λ k at.
      other_half_parted (ray_y b) (neg_ℤ (ray_x b)) (neg_ℤ (ray_x b)) (neg_ℤ (ray_y b)) (way_x v k) (way_y v k) (ray_x b) (ray_y b) spread
      (le_of_lt (ahead_left b)) (le_of_eq (sym (ray_self (ray_x b) (ray_y b)))) (heading_other edges planar v b k at (none k at)))
