-- Points near a vertex: the edges that do not end there are far away.
use mathlib.Core.List.{[], ◌∷◌}
use Rattle.std.proofs.Common.{◌≡◌, refl, sym, ◌∙◌, ap, subst, lit≤, ◌+◌, ◌*◌, ◌^◌, ℤ, pos, negsuc, neg_ℤ, ◌+ℤ◌, ◌-ℤ◌, ◌*ℤ◌, ◌≤ℤ◌, ◌<ℤ◌, inl, inr, ◌⊎◌, unsigned_abs, arith}
use Rattle.cov_types.specs.declared.coord.Coord.{Coord}
use Rattle.cov_types.specs.declared.seg.Seg.{Seg}
use Rattle.cov_types.specs.Range.{IsSegInRange}
use Rattle.integer_laws.proofs.Bound.{IsWithin, within_product, within_difference, within_more, within_abs}
use Rattle.integer_laws.proofs.Compare.{lt_or_ge, sign_cases}
use Rattle.integer_laws.proofs.Order.{mul_le}
use Rattle.integer_laws.proofs.Ring.{lin, by_ring, Var, Lit, ◌⊕◌, ◌⊖◌, ◌⊗◌, Neg, mul_one, one_mul, minus_one_mul, mul_zero, mul_comm, mul_neg, pos_times}
use Rattle.integer_laws.proofs.Sign.{positive_times_positive}
use Rattle.plane.specs.Point.{Point, at_coord}
use Rattle.plane.specs.Segment.{side, IsOn}
use Rattle.plane.specs.Ray.{sweep, Rises}
use Rattle.plane.proofs.Forms.{form}
use Rattle.plane.proofs.Sides.{side-lo, side-hi}
use Rattle.plane.proofs.Sweeps.{on_from_sweep, rises-in_range}
use Rattle.crossing_laws.proofs.Sides.{Misses}
use Rattle.sector_laws.proofs.Lines.{mix_parted, parted_above}
use Rattle.sector_laws.proofs.Sliver.{beside_is}

-- the denominator of the points near a vertex
abbrev pub fine : ℤ
fine = pos (2 ^ 200)

-- the point (x, y) / 2^200 away from the vertex
abbrev pub near : Coord → ℤ → ℤ → Point
near v x y = record { x = (v.x *ℤ fine) +ℤ x; y = (v.y *ℤ fine) +ℤ y; d = 2 ^ 200; positive = lit≤ tt }

-- the way to it is at most 2^-30 long in x and in y
pub record IsSlight (x y : ℤ) : Type 0 where
  pub x_within : IsWithin (2 ^ 169 + 2 ^ 30) x
  pub y_within : IsWithin (2 ^ 169 + 2 ^ 30) y

-- its sweep value and its side
near_sweep_is : (k n vx vy x y : ℤ) → (k *ℤ ((vx *ℤ n) +ℤ x)) +ℤ ((vy *ℤ n) +ℤ y) ≡ (n *ℤ ((k *ℤ vx) +ℤ vy)) +ℤ ((k *ℤ x) +ℤ y)
near_sweep_is k n vx vy x y =
    by_ring (k ∷ n ∷ vx ∷ vy ∷ x ∷ y ∷ []) (Var 0 ⊗ (Var 2 ⊗ Var 1 ⊕ Var 4) ⊕ (Var 3 ⊗ Var 1 ⊕ Var 5)) (Var 1 ⊗ (Var 0 ⊗ Var 2 ⊕ Var 3) ⊕ (Var 0 ⊗ Var 4 ⊕ Var 5)) refl

pub sweep-near : (v : Coord) (x y : ℤ) → sweep (near v x y) ≡ (fine *ℤ sweep (at_coord v)) +ℤ ((pos (2 ^ 30) *ℤ x) +ℤ y)
unfolding sweep
sweep-near v x y = near_sweep_is (pos (2 ^ 30)) fine v.x v.y x y

near_side_is : (n lx ly hx hy vx vy x y : ℤ)
    → ((hx -ℤ lx) *ℤ (((vy *ℤ n) +ℤ y) -ℤ (ly *ℤ n))) -ℤ ((hy -ℤ ly) *ℤ (((vx *ℤ n) +ℤ x) -ℤ (lx *ℤ n)))
    ≡ (n *ℤ (((hx -ℤ lx) *ℤ (vy -ℤ (ly *ℤ pos 1))) -ℤ ((hy -ℤ ly) *ℤ (vx -ℤ (lx *ℤ pos 1))))) +ℤ (((hx -ℤ lx) *ℤ y) -ℤ ((hy -ℤ ly) *ℤ x))
near_side_is n lx ly hx hy vx vy x y =
    by_ring (n ∷ lx ∷ ly ∷ hx ∷ hy ∷ vx ∷ vy ∷ x ∷ y ∷ [])
    ((Var 3 ⊖ Var 1) ⊗ (Var 6 ⊗ Var 0 ⊕ Var 8 ⊖ Var 2 ⊗ Var 0) ⊖ (Var 4 ⊖ Var 2) ⊗ (Var 5 ⊗ Var 0 ⊕ Var 7 ⊖ Var 1 ⊗ Var 0))
    (Var 0 ⊗ ((Var 3 ⊖ Var 1) ⊗ (Var 6 ⊖ Var 2 ⊗ Lit (pos 1)) ⊖ (Var 4 ⊖ Var 2) ⊗ (Var 5 ⊖ Var 1 ⊗ Lit (pos 1))) ⊕ ((Var 3 ⊖ Var 1) ⊗ Var 8 ⊖ (Var 4 ⊖ Var 2) ⊗ Var 7)) refl

pub side-near : (e : Seg) (v : Coord) (x y : ℤ) → side e (near v x y) ≡ (fine *ℤ side e (at_coord v)) +ℤ (((e.hi.x -ℤ e.lo.x) *ℤ y) -ℤ ((e.hi.y -ℤ e.lo.y) *ℤ x))
unfolding side
side-near e v x y = near_side_is fine e.lo.x e.lo.y e.hi.x e.hi.y v.x v.y x y

-- ---- how little they change

sweep_slight : (x y : ℤ) → IsSlight x y → IsWithin (2 ^ 199 + 2 ^ 198) ((pos (2 ^ 30) *ℤ x) +ℤ y)
sweep_slight x y h = record {
  low = omega (arith, lin, pos_times (2 ^ 30) x, h.x_within.low, h.y_within.low);
  high = omega (arith, lin, pos_times (2 ^ 30) x, h.x_within.high, h.y_within.high);
}

pub length_within : (e : Seg) → IsSegInRange e → IsWithin (2 ^ 29) (e.hi.x -ℤ e.lo.x) × IsWithin (2 ^ 29) (e.hi.y -ℤ e.lo.y)
length_within e h = (
  record { low = omega (arith, lin, h.hi.left, h.lo.right); high = omega (arith, lin, h.hi.right, h.lo.left) },
  record { low = omega (arith, lin, h.hi.bottom, h.lo.top); high = omega (arith, lin, h.hi.top, h.lo.bottom) },
)

side_slight : (e : Seg) (x y : ℤ) → IsSegInRange e → IsSlight x y → IsWithin (2 ^ 199 + 2 ^ 198) (((e.hi.x -ℤ e.lo.x) *ℤ y) -ℤ ((e.hi.y -ℤ e.lo.y) *ℤ x))
side_slight e x y he h =
    let (across, up) = length_within e he in
    within_more {m = 2 ^ 29 * (2 ^ 169 + 2 ^ 30) + 2 ^ 29 * (2 ^ 169 + 2 ^ 30)} (lit≤ tt) (within_difference (within_product across h.y_within) (within_product up h.x_within))

-- over plain variables: n times a whole number that is not 0, and less than n more, keeps the sign
still_positive : (s x : ℤ) → pos 0 <ℤ s → IsWithin (2 ^ 199 + 2 ^ 198) x → pos 0 <ℤ ((fine *ℤ s) +ℤ x)
still_positive s x h w = omega (arith, lin, pos_times (2 ^ 200) s, w.low)

still_negative : (s x : ℤ) → s <ℤ pos 0 → IsWithin (2 ^ 199 + 2 ^ 198) x → ((fine *ℤ s) +ℤ x) <ℤ pos 0
still_negative s x h w = omega (arith, lin, pos_times (2 ^ 200) s, w.high)

still_below : (s l x : ℤ) → s <ℤ l → IsWithin (2 ^ 199 + 2 ^ 198) x → ((fine *ℤ s) +ℤ x) <ℤ (l *ℤ fine)
still_below s l x h w = omega (arith, lin, pos_times (2 ^ 200) s, mul_comm l fine, pos_times (2 ^ 200) l, w.high)

still_above : (s l x : ℤ) → l <ℤ s → IsWithin (2 ^ 199 + 2 ^ 198) x → (l *ℤ fine) <ℤ ((fine *ℤ s) +ℤ x)
still_above s l x h w = omega (arith, lin, pos_times (2 ^ 200) s, mul_comm l fine, pos_times (2 ^ 200) l, w.low)

-- ---- an edge that the vertex is not on misses the ways between points near the vertex

before_is : (s t d l : ℤ) → ((negsuc 0 *ℤ t) +ℤ (pos 0 *ℤ s)) +ℤ (l *ℤ d) ≡ (l *ℤ d) -ℤ t
before_is s t d l = by_ring (s ∷ t ∷ d ∷ l ∷ []) (Lit (negsuc 0) ⊗ Var 1 ⊕ Lit (pos 0) ⊗ Var 0 ⊕ Var 3 ⊗ Var 2) (Var 3 ⊗ Var 2 ⊖ Var 1) refl

after_is : (s t d h : ℤ) → ((pos 1 *ℤ t) +ℤ (pos 0 *ℤ s)) +ℤ (neg_ℤ h *ℤ d) ≡ t -ℤ (h *ℤ d)
after_is s t d h = by_ring (s ∷ t ∷ d ∷ h ∷ []) (Lit (pos 1) ⊗ Var 1 ⊕ Lit (pos 0) ⊗ Var 0 ⊕ Neg (Var 3) ⊗ Var 2) (Var 1 ⊖ Var 3 ⊗ Var 2) refl

-- the vertex is on the side k of its line
beside_misses : (k : ℤ) (v : Coord) (f : Seg) (x1 y1 x2 y2 : ℤ) → pos 0 <ℤ (k *ℤ side f (near v x1 y1)) → pos 0 <ℤ (k *ℤ side f (near v x2 y2)) → Misses f (near v x1 y1) (near v x2 y2)
beside_misses k v f x1 y1 x2 y2 hp hq =
    let is = λ (p : Point). beside_is k (side f p) (sweep p) (pos p.d) in
    let zero_lo = ap (λ z. k *ℤ z) (side-lo f) ∙ mul_zero k in
    let zero_hi = ap (λ z. k *ℤ z) (side-hi f) ∙ mul_zero k in
    mix_parted (pos 0) k (pos 0) f f (near v x1 y1) (near v x2 y2) (omega (arith, lin, is (near v x1 y1))) (omega (arith, lin, is (near v x2 y2)))
    (omega (arith, lin, is (at_coord f.lo))) (omega (arith, lin, is (at_coord f.hi)))

-- the vertex is before its lo
before_misses : (v : Coord) (f : Seg) (x1 y1 x2 y2 : ℤ) → Rises f → IsSlight x1 y1 → IsSlight x2 y2 → sweep (at_coord v) <ℤ sweep (at_coord f.lo) → Misses f (near v x1 y1) (near v x2 y2)
before_misses v f x1 y1 x2 y2 up h1 h2 before =
    let l = sweep (at_coord f.lo) in
    let is = λ (p : Point). before_is (side f p) (sweep p) (pos p.d) l in
    let less = λ (x y : ℤ) (h : IsSlight x y). still_below (sweep (at_coord v)) l ((pos (2 ^ 30) *ℤ x) +ℤ y) before (sweep_slight x y h) in
    mix_parted (negsuc 0) (pos 0) l f f (near v x1 y1) (near v x2 y2)
    (omega (arith, lin, is (near v x1 y1), sweep-near v x1 y1, less x1 y1 h1)) (omega (arith, lin, is (near v x2 y2), sweep-near v x2 y2, less x2 y2 h2))
    (omega (arith, lin, is (at_coord f.lo), mul_one l)) (omega (arith, lin, is (at_coord f.hi), mul_one l))

-- the vertex is past its hi
after_misses : (v : Coord) (f : Seg) (x1 y1 x2 y2 : ℤ) → Rises f → IsSlight x1 y1 → IsSlight x2 y2 → sweep (at_coord f.hi) <ℤ sweep (at_coord v) → Misses f (near v x1 y1) (near v x2 y2)
after_misses v f x1 y1 x2 y2 up h1 h2 after =
    let h = sweep (at_coord f.hi) in
    let is = λ (p : Point). after_is (side f p) (sweep p) (pos p.d) h in
    let more = λ (x y : ℤ) (k : IsSlight x y). still_above (sweep (at_coord v)) h ((pos (2 ^ 30) *ℤ x) +ℤ y) after (sweep_slight x y k) in
    mix_parted (pos 1) (pos 0) (neg_ℤ h) f f (near v x1 y1) (near v x2 y2)
    (omega (arith, lin, is (near v x1 y1), sweep-near v x1 y1, more x1 y1 h1)) (omega (arith, lin, is (near v x2 y2), sweep-near v x2 y2, more x2 y2 h2))
    (omega (arith, lin, is (at_coord f.lo), mul_one h)) (omega (arith, lin, is (at_coord f.hi), mul_one h))

pub far_misses : (v : Coord) (f : Seg) (x1 y1 x2 y2 : ℤ) → IsSegInRange f → (IsOn f (at_coord v) → ⊥) → IsSlight x1 y1 → IsSlight x2 y2 → Misses f (near v x1 y1) (near v x2 y2)
far_misses v f x1 y1 x2 y2 hf off h1 h2 =
    let up = rises-in_range f hf in
    let s = side f (at_coord v) in
    let slight = side_slight f in
    elim (sign_cases s) [
      | inl right ↦
          beside_misses (negsuc 0) v f x1 y1 x2 y2
          (omega (arith, lin, minus_one_mul (side f (near v x1 y1)), side-near f v x1 y1, still_negative s _ right (side_slight f x1 y1 hf h1)))
          (omega (arith, lin, minus_one_mul (side f (near v x2 y2)), side-near f v x2 y2, still_negative s _ right (side_slight f x2 y2 hf h2)))
      | inr rest ↦ elim rest [
        | inl on_line ↦ elim (lt_or_ge (sweep (at_coord v)) (sweep (at_coord f.lo))) [
          | inl before ↦ before_misses v f x1 y1 x2 y2 up h1 h2 before
          | inr from ↦ elim (lt_or_ge (sweep (at_coord f.hi)) (sweep (at_coord v))) [
            | inl after ↦ after_misses v f x1 y1 x2 y2 up h1 h2 after
            | inr to ↦ absurd (off (on_from_sweep f (at_coord v) up on_line (omega (arith, lin, mul_one (sweep (at_coord f.lo)))) (omega (arith, lin, mul_one (sweep (at_coord f.hi))))))
          ]
        ]
        | inr left ↦
            beside_misses (pos 1) v f x1 y1 x2 y2
            (omega (arith, lin, one_mul (side f (near v x1 y1)), side-near f v x1 y1, still_positive s _ left (side_slight f x1 y1 hf h1)))
            (omega (arith, lin, one_mul (side f (near v x2 y2)), side-near f v x2 y2, still_positive s _ left (side_slight f x2 y2 hf h2)))
      ]
    ]

-- ---- an edge that ends at the vertex misses a way between two points near the vertex, where its other end is not in the sector of the two

-- the cross product of two ways: positive where the second turns to the left of the first
abbrev pub cross : ℤ → ℤ → ℤ → ℤ → ℤ
cross x y u v = (x *ℤ v) -ℤ (y *ℤ u)

line_at_near : (m n vx vy d x y : ℤ) → ((neg_ℤ n *ℤ ((vx *ℤ d) +ℤ x)) +ℤ (m *ℤ ((vy *ℤ d) +ℤ y))) +ℤ (((n *ℤ vx) -ℤ (m *ℤ vy)) *ℤ d) ≡ cross m n x y
line_at_near m n vx vy d x y =
    by_ring (m ∷ n ∷ vx ∷ vy ∷ d ∷ x ∷ y ∷ [])
    (Neg (Var 1) ⊗ (Var 2 ⊗ Var 4 ⊕ Var 5) ⊕ Var 0 ⊗ (Var 3 ⊗ Var 4 ⊕ Var 6) ⊕ (Var 1 ⊗ Var 2 ⊖ Var 0 ⊗ Var 3) ⊗ Var 4) (Var 0 ⊗ Var 6 ⊖ Var 1 ⊗ Var 5) refl

line_at_coord : (m n vx vy x y : ℤ) → ((neg_ℤ n *ℤ x) +ℤ (m *ℤ y)) +ℤ (((n *ℤ vx) -ℤ (m *ℤ vy)) *ℤ pos 1) ≡ cross m n (x -ℤ vx) (y -ℤ vy)
line_at_coord m n vx vy x y =
    by_ring (m ∷ n ∷ vx ∷ vy ∷ x ∷ y ∷ [])
    (Neg (Var 1) ⊗ Var 4 ⊕ Var 0 ⊗ Var 5 ⊕ (Var 1 ⊗ Var 2 ⊖ Var 0 ⊗ Var 3) ⊗ Lit (pos 1)) (Var 0 ⊗ (Var 5 ⊖ Var 3) ⊖ Var 1 ⊗ (Var 4 ⊖ Var 2)) refl

cross_self : (m n x : ℤ) (y : ℤ) → cross m n (x -ℤ x) (y -ℤ y) ≡ pos 0
cross_self m n x y = by_ring (m ∷ n ∷ x ∷ y ∷ []) (Var 0 ⊗ (Var 3 ⊖ Var 3) ⊖ Var 1 ⊗ (Var 2 ⊖ Var 2)) (Lit (pos 0)) refl

-- the two ends of the edge are v and w
abbrev pub HasEnds : Seg → Coord → Coord → Type 0
HasEnds f v w = ((f.lo ≡ v) × (f.hi ≡ w)) ⊎ ((f.lo ≡ w) × (f.hi ≡ v))

-- the line through v along (m, n) has both points on its left, and w not
line_misses : (m n : ℤ) (v w : Coord) (f : Seg) (x1 y1 x2 y2 : ℤ) → HasEnds f v w → pos 0 <ℤ cross m n x1 y1 → pos 0 <ℤ cross m n x2 y2
    → cross m n (w.x -ℤ v.x) (w.y -ℤ v.y) ≤ℤ pos 0 → Misses f (near v x1 y1) (near v x2 y2)
unfolding form
line_misses m n v w f x1 y1 x2 y2 ends h1 h2 hw =
    let c = (n *ℤ v.x) -ℤ (m *ℤ v.y) in
    let at_v : (((neg_ℤ n *ℤ v.x) +ℤ (m *ℤ v.y)) +ℤ (c *ℤ pos 1)) ≤ℤ pos 0 = omega (arith, lin, line_at_coord m n v.x v.y v.x v.y, cross_self m n v.x v.y) in
    let at_w : (((neg_ℤ n *ℤ w.x) +ℤ (m *ℤ w.y)) +ℤ (c *ℤ pos 1)) ≤ℤ pos 0 = omega (arith, lin, line_at_coord m n v.x v.y w.x w.y) in
    parted_above (neg_ℤ n) m c f (near v x1 y1) (near v x2 y2)
    (omega (arith, lin, line_at_near m n v.x v.y fine x1 y1)) (omega (arith, lin, line_at_near m n v.x v.y fine x2 y2))
    (elim ends [
      | inl along ↦ subst (λ z. form (neg_ℤ n) m c (at_coord z) ≤ℤ pos 0) (sym along.0) at_v
      | inr back ↦ subst (λ z. form (neg_ℤ n) m c (at_coord z) ≤ℤ pos 0) (sym back.0) at_w
    ])
    (elim ends [
      | inl along ↦ subst (λ z. form (neg_ℤ n) m c (at_coord z) ≤ℤ pos 0) (sym along.1) at_w
      | inr back ↦ subst (λ z. form (neg_ℤ n) m c (at_coord z) ≤ℤ pos 0) (sym back.1) at_v
    ])

-- over plain variables: n = m (x2, y2) - (x1, y1), or n = (x2, y2) - m (x1, y1)
first_line : (m x1 y1 x2 y2 cx cy : ℤ) → cross ((m *ℤ x2) -ℤ x1) ((m *ℤ y2) -ℤ y1) cx cy ≡ (m *ℤ cross x2 y2 cx cy) -ℤ cross x1 y1 cx cy
first_line m x1 y1 x2 y2 cx cy =
    by_ring (m ∷ x1 ∷ y1 ∷ x2 ∷ y2 ∷ cx ∷ cy ∷ [])
    ((Var 0 ⊗ Var 3 ⊖ Var 1) ⊗ Var 6 ⊖ (Var 0 ⊗ Var 4 ⊖ Var 2) ⊗ Var 5)
    (Var 0 ⊗ (Var 3 ⊗ Var 6 ⊖ Var 4 ⊗ Var 5) ⊖ (Var 1 ⊗ Var 6 ⊖ Var 2 ⊗ Var 5)) refl

second_line : (m x1 y1 x2 y2 cx cy : ℤ) → cross (x2 -ℤ (m *ℤ x1)) (y2 -ℤ (m *ℤ y1)) cx cy ≡ cross x2 y2 cx cy -ℤ (m *ℤ cross x1 y1 cx cy)
second_line m x1 y1 x2 y2 cx cy =
    by_ring (m ∷ x1 ∷ y1 ∷ x2 ∷ y2 ∷ cx ∷ cy ∷ [])
    ((Var 3 ⊖ Var 0 ⊗ Var 1) ⊗ Var 6 ⊖ (Var 4 ⊖ Var 0 ⊗ Var 2) ⊗ Var 5)
    ((Var 3 ⊗ Var 6 ⊖ Var 4 ⊗ Var 5) ⊖ Var 0 ⊗ (Var 1 ⊗ Var 6 ⊖ Var 2 ⊗ Var 5)) refl

pub cross-swap : (x y u v : ℤ) → cross x y u v ≡ neg_ℤ (cross u v x y)
cross-swap x y u v = by_ring (x ∷ y ∷ u ∷ v ∷ []) (Var 0 ⊗ Var 3 ⊖ Var 1 ⊗ Var 2) (Neg (Var 2 ⊗ Var 1 ⊖ Var 3 ⊗ Var 0)) refl

pub cross-same : (x y : ℤ) → cross x y x y ≡ pos 0
cross-same x y = by_ring (x ∷ y ∷ []) (Var 0 ⊗ Var 1 ⊖ Var 1 ⊗ Var 0) (Lit (pos 0)) refl

-- a way from the vertex is not in the sector from the second counter-clockwise to the first
abbrev pub IsParted : (x1 y1 x2 y2 cx cy : ℤ) → Type 0
IsParted x1 y1 x2 y2 cx cy = (cross x2 y2 cx cy <ℤ pos 0) ⊎ (cross cx cy x1 y1 <ℤ pos 0)

pub parted_misses : (v w : Coord) (f : Seg) (x1 y1 x2 y2 : ℤ) → HasEnds f v w → pos 0 <ℤ cross x2 y2 x1 y1
    → IsParted x1 y1 x2 y2 (w.x -ℤ v.x) (w.y -ℤ v.y) → Misses f (near v x1 y1) (near v x2 y2)
parted_misses v w f x1 y1 x2 y2 ends spread parted =
    let cx = w.x -ℤ v.x in
    let cy = w.y -ℤ v.y in
    let one = cross-same x1 y1 in
    let two = cross-same x2 y2 in
    let back = cross-swap x1 y1 x2 y2 in
    elim parted [
      | inl beyond ↦ (
          let size = within_abs (cross x1 y1 cx cy) in
          let m = pos (unsigned_abs (cross x1 y1 cx cy)) +ℤ pos 1 in
          let more = positive_times_positive {x = m} {y = cross x2 y2 x1 y1} (omega (arith, lin)) spread in
          let less = mul_le {x = cross x2 y2 cx cy} {y = negsuc 0} m (omega (arith, lin)) (omega (arith, lin)) in
          line_misses ((m *ℤ x2) -ℤ x1) ((m *ℤ y2) -ℤ y1) v w f x1 y1 x2 y2 ends
          (omega (arith, lin, first_line m x1 y1 x2 y2 x1 y1))
          (omega (arith, lin, first_line m x1 y1 x2 y2 x2 y2, ap (λ z. m *ℤ z) two, mul_zero m))
          (omega (arith, lin, first_line m x1 y1 x2 y2 cx cy, mul_minus_one m, size.low))
          )
      | inr before ↦ (
          let size = within_abs (cross x2 y2 cx cy) in
          let m = pos (unsigned_abs (cross x2 y2 cx cy)) +ℤ pos 1 in
          let more = positive_times_positive {x = m} {y = cross x2 y2 x1 y1} (omega (arith, lin)) spread in
          let turned = ap (λ z. m *ℤ z) (cross-swap x1 y1 cx cy) ∙ mul_neg m (cross cx cy x1 y1) in
          let less = mul_le {x = cross cx cy x1 y1} {y = negsuc 0} m (omega (arith, lin)) (omega (arith, lin)) in
          line_misses (x2 -ℤ (m *ℤ x1)) (y2 -ℤ (m *ℤ y1)) v w f x1 y1 x2 y2 ends
          (omega (arith, lin, second_line m x1 y1 x2 y2 x1 y1, ap (λ z. m *ℤ z) one, mul_zero m))
          (omega (arith, lin, second_line m x1 y1 x2 y2 x2 y2, ap (λ z. m *ℤ z) back, mul_neg m (cross x2 y2 x1 y1)))
          (omega (arith, lin, second_line m x1 y1 x2 y2 cx cy, mul_minus_one m, size.high))
          )
    ]
  where
    mul_minus_one : (m : ℤ) → m *ℤ negsuc 0 ≡ neg_ℤ m
    mul_minus_one m = mul_comm m (negsuc 0) ∙ minus_one_mul m
