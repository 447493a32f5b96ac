-- The points of a region that is not outer are strictly inside the box of its edges.
use mathlib.Core.List.{[], ◌∷◌}
use Rattle.std.proofs.Common.{◌≡◌, ◌⊎◌, refl, ℕ, ◌^◌, List, inl, inr, ℤ, pos, neg_ℤ, ◌+ℤ◌, ◌-ℤ◌, ◌*ℤ◌, ◌<ℤ◌, ◌≤ℤ◌, arith}
use Rattle.cov_types.specs.declared.coord.Coord.{Coord}
use Rattle.cov_types.specs.declared.seg.Seg.{Seg}
use Rattle.integer_laws.proofs.Compare.{le_or_gt, lt_or_ge}
use Rattle.integer_laws.proofs.Ring.{by_ring, lin, Var, Neg, ◌⊕◌, ◌⊖◌, ◌⊗◌}
use Rattle.integer_laws.proofs.Sign.{nonneg_times_nonpos, nonneg_times_nonneg, positive_times_positive, positive_times_negative, positive_factor, negative_factor}
use Rattle.plane.specs.Point.{Point, at_coord}
use Rattle.plane.specs.Ray.{sweep}
use Rattle.plane.specs.Region.{IsOuterRegion, IsRegionOf}
use Rattle.plane.specs.Segment.{side}
use Rattle.plane.proofs.Over.{over-is}
use Rattle.plane.proofs.Points.{d_positive}
use Rattle.sector_laws.specs.Sector.{AreDistinct, IsPlanar}
use Rattle.region_laws.proofs.Edge.{under-is}
use Rattle.region_owners.specs.Box.{IsEdgeOf, IsCornerOf, IsInBoxOf}
use Rattle.region_owners.proofs.OwnEdges.{edge_under, edge_over}

-- ---- over plain variables: the ends of an edge, weighed by how far in the sweep p is from the other, tell p by its side

x_tie : (k lx ly hx hy x y d : ℤ)
    → (((((k *ℤ x) +ℤ y) -ℤ (((k *ℤ lx) +ℤ ly) *ℤ d)) *ℤ ((hx *ℤ d) -ℤ x)) +ℤ (((((k *ℤ hx) +ℤ hy) *ℤ d) -ℤ ((k *ℤ x) +ℤ y)) *ℤ ((lx *ℤ d) -ℤ x)))
    ≡ d *ℤ (((hx -ℤ lx) *ℤ (y -ℤ (ly *ℤ d))) -ℤ ((hy -ℤ ly) *ℤ (x -ℤ (lx *ℤ d))))
x_tie k lx ly hx hy x y d =
    by_ring (k ∷ lx ∷ ly ∷ hx ∷ hy ∷ x ∷ y ∷ d ∷ [])
    (((Var 0 ⊗ Var 5 ⊕ Var 6) ⊖ (Var 0 ⊗ Var 1 ⊕ Var 2) ⊗ Var 7) ⊗ (Var 3 ⊗ Var 7 ⊖ Var 5) ⊕ ((Var 0 ⊗ Var 3 ⊕ Var 4) ⊗ Var 7 ⊖ (Var 0 ⊗ Var 5 ⊕ Var 6)) ⊗ (Var 1 ⊗ Var 7 ⊖ Var 5))
    (Var 7 ⊗ ((Var 3 ⊖ Var 1) ⊗ (Var 6 ⊖ Var 2 ⊗ Var 7) ⊖ (Var 4 ⊖ Var 2) ⊗ (Var 5 ⊖ Var 1 ⊗ Var 7))) refl

y_tie : (k lx ly hx hy x y d : ℤ)
    → (((((k *ℤ x) +ℤ y) -ℤ (((k *ℤ lx) +ℤ ly) *ℤ d)) *ℤ ((hy *ℤ d) -ℤ y)) +ℤ (((((k *ℤ hx) +ℤ hy) *ℤ d) -ℤ ((k *ℤ x) +ℤ y)) *ℤ ((ly *ℤ d) -ℤ y)))
    ≡ neg_ℤ (k *ℤ (d *ℤ (((hx -ℤ lx) *ℤ (y -ℤ (ly *ℤ d))) -ℤ ((hy -ℤ ly) *ℤ (x -ℤ (lx *ℤ d))))))
y_tie k lx ly hx hy x y d =
    by_ring (k ∷ lx ∷ ly ∷ hx ∷ hy ∷ x ∷ y ∷ d ∷ [])
    (((Var 0 ⊗ Var 5 ⊕ Var 6) ⊖ (Var 0 ⊗ Var 1 ⊕ Var 2) ⊗ Var 7) ⊗ (Var 4 ⊗ Var 7 ⊖ Var 6) ⊕ ((Var 0 ⊗ Var 3 ⊕ Var 4) ⊗ Var 7 ⊖ (Var 0 ⊗ Var 5 ⊕ Var 6)) ⊗ (Var 2 ⊗ Var 7 ⊖ Var 6))
    (Neg (Var 0 ⊗ (Var 7 ⊗ ((Var 3 ⊖ Var 1) ⊗ (Var 6 ⊖ Var 2 ⊗ Var 7) ⊖ (Var 4 ⊖ Var 2) ⊗ (Var 5 ⊖ Var 1 ⊗ Var 7))))) refl

-- with weights that are not negative, a mean that is positive has a positive part
some_positive : (a b u v s : ℤ) → pos 0 ≤ℤ a → pos 0 ≤ℤ b → (a *ℤ u) +ℤ (b *ℤ v) ≡ s → pos 0 <ℤ s → (pos 0 <ℤ u) ⊎ (pos 0 <ℤ v)
some_positive a b u v s ha hb is hs = elim (le_or_gt u (pos 0)) [
  | inr more ↦ inl more
  | inl none ↦ (
      let first = nonneg_times_nonpos {x = a} {y = u} ha none in
      inr (positive_factor b v hb (omega (arith, lin)))
      )
]

some_negative : (a b u v s : ℤ) → pos 0 ≤ℤ a → pos 0 ≤ℤ b → (a *ℤ u) +ℤ (b *ℤ v) ≡ s → s <ℤ pos 0 → (u <ℤ pos 0) ⊎ (v <ℤ pos 0)
some_negative a b u v s ha hb is hs = elim (lt_or_ge u (pos 0)) [
  | inl less ↦ inl less
  | inr none ↦ (
      let first = nonneg_times_nonneg {x = a} {y = u} ha none in
      inr (negative_factor b v hb (omega (arith, lin)))
      )
]

-- ---- an end of the edge in each direction

module _ (e : Seg) (p : Point) (from : (sweep (at_coord e.lo) *ℤ pos p.d) ≤ℤ sweep p) (to : sweep p <ℤ (sweep (at_coord e.hi) *ℤ pos p.d)) where
  abbrev after_lo : ℤ
  after_lo = sweep p -ℤ (sweep (at_coord e.lo) *ℤ pos p.d)

  abbrev before_hi : ℤ
  before_hi = (sweep (at_coord e.hi) *ℤ pos p.d) -ℤ sweep p

  x_is : ((after_lo *ℤ ((e.hi.x *ℤ pos p.d) -ℤ p.x)) +ℤ (before_hi *ℤ ((e.lo.x *ℤ pos p.d) -ℤ p.x))) ≡ pos p.d *ℤ side e p
  unfolding sweep side
  x_is = x_tie (pos (2 ^ 30)) e.lo.x e.lo.y e.hi.x e.hi.y p.x p.y (pos p.d)

  y_is : ((after_lo *ℤ ((e.hi.y *ℤ pos p.d) -ℤ p.y)) +ℤ (before_hi *ℤ ((e.lo.y *ℤ pos p.d) -ℤ p.y))) ≡ neg_ℤ (pos (2 ^ 30) *ℤ (pos p.d *ℤ side e p))
  unfolding sweep side
  y_is = y_tie (pos (2 ^ 30)) e.lo.x e.lo.y e.hi.x e.hi.y p.x p.y (pos p.d)

  after : pos 0 ≤ℤ after_lo
  after = omega (arith, lin)

  before : pos 0 ≤ℤ before_hi
  before = omega (arith, lin)

  right_end : pos 0 <ℤ side e p → (p.x <ℤ (e.hi.x *ℤ pos p.d)) ⊎ (p.x <ℤ (e.lo.x *ℤ pos p.d))
  right_end above = elim (some_positive after_lo before_hi _ _ _ after before x_is (positive_times_positive {x = pos p.d} {y = side e p} (d_positive p) above)) [
    | inl hi ↦ inl (omega (arith, lin))
    | inr lo ↦ inr (omega (arith, lin))
  ]

  left_end : side e p <ℤ pos 0 → ((e.hi.x *ℤ pos p.d) <ℤ p.x) ⊎ ((e.lo.x *ℤ pos p.d) <ℤ p.x)
  left_end below = elim (some_negative after_lo before_hi _ _ _ after before x_is (positive_times_negative {x = pos p.d} {y = side e p} (d_positive p) below)) [
    | inl hi ↦ inl (omega (arith, lin))
    | inr lo ↦ inr (omega (arith, lin))
  ]

  lower_end : pos 0 <ℤ side e p → ((e.hi.y *ℤ pos p.d) <ℤ p.y) ⊎ ((e.lo.y *ℤ pos p.d) <ℤ p.y)
  lower_end above =
      let one = positive_times_positive {x = pos p.d} {y = side e p} (d_positive p) above in
      let many = positive_times_positive {x = pos (2 ^ 30)} {y = pos p.d *ℤ side e p} (omega (arith, lin)) one in
      elim (some_negative after_lo before_hi _ _ _ after before y_is (omega (arith, lin))) [
        | inl hi ↦ inl (omega (arith, lin))
        | inr lo ↦ inr (omega (arith, lin))
      ]

  higher_end : side e p <ℤ pos 0 → (p.y <ℤ (e.hi.y *ℤ pos p.d)) ⊎ (p.y <ℤ (e.lo.y *ℤ pos p.d))
  higher_end below =
      let one = positive_times_negative {x = pos p.d} {y = side e p} (d_positive p) below in
      let many = positive_times_negative {x = pos (2 ^ 30)} {y = pos p.d *ℤ side e p} (omega (arith, lin)) one in
      elim (some_positive after_lo before_hi _ _ _ after before y_is (omega (arith, lin))) [
        | inl hi ↦ inl (omega (arith, lin))
        | inr lo ↦ inr (omega (arith, lin))
      ]

-- ---- the box

-- one of the two ends of an edge of the region
corner : (edges : List Seg) (r : ℕ) (e : Seg) (Holds : Coord → Type 0) → IsEdgeOf edges r e → Holds e.hi ⊎ Holds e.lo → (c : Coord) × (IsCornerOf edges r c × Holds c)
corner edges r e Holds of either = elim either [
  | inl hi ↦ (e.hi, (record { edge = e; of = of; is = inr refl }, hi))
  | inr lo ↦ (e.lo, (record { edge = e; of = of; is = inl refl }, lo))
]

pub in_box : (edges : List Seg) → IsPlanar edges → AreDistinct edges → (r : ℕ) → ¬ IsOuterRegion edges r → (p : Point) → IsRegionOf edges p r → IsInBoxOf edges r p
in_box edges planar distinct r inner p own =
    let under = edge_under edges planar distinct r inner p own in
    let e = under.0 in
    let u = (under-is e p).0 under.1.1 in
    let over = edge_over edges planar distinct r inner p own in
    let f = over.0 in
    let o = (over-is f p).0 over.1.1 in
    record {
      left = corner edges r f (λ c. (c.x *ℤ pos p.d) <ℤ p.x) over.1.0 (left_end f p o.from o.to o.below);
      right = corner edges r e (λ c. p.x <ℤ (c.x *ℤ pos p.d)) under.1.0 (right_end e p u.from u.to u.above);
      bottom = corner edges r e (λ c. (c.y *ℤ pos p.d) <ℤ p.y) under.1.0 (lower_end e p u.from u.to u.above);
      top = corner edges r f (λ c. p.y <ℤ (c.y *ℤ pos p.d)) over.1.0 (higher_end f p o.from o.to o.below);
    }
