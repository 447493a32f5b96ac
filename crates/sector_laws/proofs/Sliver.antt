-- The flat triangle on a side of an edge: nothing that meets the edge in ends alone comes into it.
use mathlib.Core.List.{List, [], ◌∷◌}
use Rattle.std.proofs.Common.{◌≡◌, refl, sym, ◌∙◌, ap, subst, ◌^◌, Contains, ℤ, pos, negsuc, neg_ℤ, ◌+ℤ◌, ◌-ℤ◌, ◌*ℤ◌, ◌≤ℤ◌, ◌<ℤ◌, ◌⊎◌, inl, inr, ⊎_elim, arith}
use Rattle.cov_types.specs.declared.seg.Seg.{Seg}
use Rattle.cov_types.specs.Range.{IsSegInRange}
use Rattle.integer_laws.proofs.Bound.{IsWithin}
use Rattle.integer_laws.proofs.Cast.{pos_nonneg, positive_natural}
use Rattle.integer_laws.proofs.Compare.{le_of_lt, lt_or_ge}
use Rattle.integer_laws.proofs.Order.{cancel_lt_right, le_mul, mul_le}
use Rattle.integer_laws.proofs.Ring.{lin, by_ring, by_one, Var, Lit, ◌⊕◌, ◌⊖◌, ◌⊗◌, Neg, mul_one, one_mul, neg_mul, mul_neg, sub_mul, mul_zero, mul_comm, minus_one_mul, pos_times}
use Rattle.integer_laws.proofs.Sign.{positive_times_positive}
use Rattle.plane.specs.Point.{Point, at_coord, IsBetween}
use Rattle.plane.specs.Segment.{side, upper, lower, IsOn}
use Rattle.plane.specs.Ray.{sweep, Rises}
use Rattle.plane.specs.Joined.{IsClear}
use Rattle.plane.specs.Noded.{IsNodedFully}
use Rattle.plane.proofs.Points.{d_positive, between_by}
use Rattle.plane.proofs.Forms.{form}
use Rattle.plane.proofs.Sides.{side-form, side_zero-on}
use Rattle.plane.proofs.Sweeps.{sweep-form, sweep-same, on_from_sweep, rises-in_range}
use Rattle.crossing_laws.proofs.Beside.{HaveOnlyEnds, rise, sweep-upper, sweep-lower, side-upper, side-lower}
use Rattle.sector_laws.proofs.Lines.{mix, mix_positive-between, mix_not_positive-between, mix_not_negative-between, mix_zero-between}

-- how many times as long as high the triangle is at least
abbrev pub flat : ℤ
flat = pos (2 ^ 60)

-- p is in the flat triangle on the side k of the edge, 1 above and -1 below: strictly on this side, and much nearer to the edge than to its ends
pub record IsInSliver (k : ℤ) (e : Seg) (p : Point) : Type 0 where
  pub beside : pos 0 <ℤ mix (pos 0) k (pos 0) e p
  pub after_lo : pos 0 <ℤ mix (pos 1) (neg_ℤ (flat *ℤ k)) (neg_ℤ (sweep (at_coord e.lo))) e p
  pub before_hi : pos 0 <ℤ mix (negsuc 0) (neg_ℤ (flat *ℤ k)) (sweep (at_coord e.hi)) e p

-- it is convex
pub sliver-between : (k : ℤ) (e : Seg) (r p q : Point) → IsBetween r p q → IsInSliver k e p → IsInSliver k e q → IsInSliver k e r
sliver-between k e r p q h hp hq = record {
  beside = mix_positive-between (pos 0) k (pos 0) e r p q h hp.beside hq.beside;
  after_lo = mix_positive-between (pos 1) (neg_ℤ (flat *ℤ k)) (neg_ℤ (sweep (at_coord e.lo))) e r p q h hp.after_lo hq.after_lo;
  before_hi = mix_positive-between (negsuc 0) (neg_ℤ (flat *ℤ k)) (sweep (at_coord e.hi)) e r p q h hp.before_hi hq.before_hi;
}

-- ---- the same in numbers: s is k times the side, t the sweep value, d the denominator, l and h the ends' sweep values

pub record IsFlat (s t d l h : ℤ) : Type 0 where
  pub beside : pos 0 <ℤ s
  pub after_lo : (flat *ℤ s) <ℤ (t -ℤ (l *ℤ d))
  pub before_hi : (flat *ℤ s) <ℤ ((h *ℤ d) -ℤ t)

pub beside_is : (k s t d : ℤ) → ((pos 0 *ℤ t) +ℤ (k *ℤ s)) +ℤ (pos 0 *ℤ d) ≡ k *ℤ s
beside_is k s t d = by_ring (k ∷ s ∷ t ∷ d ∷ []) (Lit (pos 0) ⊗ Var 2 ⊕ Var 0 ⊗ Var 1 ⊕ Lit (pos 0) ⊗ Var 3) (Var 0 ⊗ Var 1) refl

after_lo_is : (f k s t d l : ℤ) → ((pos 1 *ℤ t) +ℤ (neg_ℤ (f *ℤ k) *ℤ s)) +ℤ (neg_ℤ l *ℤ d) ≡ (t -ℤ (l *ℤ d)) -ℤ (f *ℤ (k *ℤ s))
after_lo_is f k s t d l =
    by_ring (f ∷ k ∷ s ∷ t ∷ d ∷ l ∷ []) (Lit (pos 1) ⊗ Var 3 ⊕ Neg (Var 0 ⊗ Var 1) ⊗ Var 2 ⊕ Neg (Var 5) ⊗ Var 4) (Var 3 ⊖ Var 5 ⊗ Var 4 ⊖ Var 0 ⊗ (Var 1 ⊗ Var 2)) refl

before_hi_is : (f k s t d h : ℤ) → ((negsuc 0 *ℤ t) +ℤ (neg_ℤ (f *ℤ k) *ℤ s)) +ℤ (h *ℤ d) ≡ ((h *ℤ d) -ℤ t) -ℤ (f *ℤ (k *ℤ s))
before_hi_is f k s t d h =
    by_ring (f ∷ k ∷ s ∷ t ∷ d ∷ h ∷ []) (Lit (negsuc 0) ⊗ Var 3 ⊕ Neg (Var 0 ⊗ Var 1) ⊗ Var 2 ⊕ Var 5 ⊗ Var 4) (Var 5 ⊗ Var 4 ⊖ Var 3 ⊖ Var 0 ⊗ (Var 1 ⊗ Var 2)) refl

pub sliver_numbers : (k : ℤ) (e : Seg) (p : Point) → IsInSliver k e p → IsFlat (k *ℤ side e p) (sweep p) (pos p.d) (sweep (at_coord e.lo)) (sweep (at_coord e.hi))
sliver_numbers k e p h = record {
  beside = omega (arith, lin, h.beside, beside_is k (side e p) (sweep p) (pos p.d));
  after_lo = omega (arith, lin, h.after_lo, after_lo_is flat k (side e p) (sweep p) (pos p.d) (sweep (at_coord e.lo)));
  before_hi = omega (arith, lin, h.before_hi, before_hi_is flat k (side e p) (sweep p) (pos p.d) (sweep (at_coord e.hi)));
}

pub sliver_from_numbers : (k : ℤ) (e : Seg) (p : Point) → IsFlat (k *ℤ side e p) (sweep p) (pos p.d) (sweep (at_coord e.lo)) (sweep (at_coord e.hi)) → IsInSliver k e p
sliver_from_numbers k e p h = record {
  beside = omega (arith, lin, h.beside, beside_is k (side e p) (sweep p) (pos p.d));
  after_lo = omega (arith, lin, h.after_lo, after_lo_is flat k (side e p) (sweep p) (pos p.d) (sweep (at_coord e.lo)));
  before_hi = omega (arith, lin, h.before_hi, before_hi_is flat k (side e p) (sweep p) (pos p.d) (sweep (at_coord e.hi)));
}

-- ---- the point of a segment with the weights b and -a

form_at_crossing : (x y z a b px py qx qy d : ℤ) → d ≡ b -ℤ a
    → ((x *ℤ ((b *ℤ px) -ℤ (a *ℤ qx))) +ℤ (y *ℤ ((b *ℤ py) -ℤ (a *ℤ qy)))) +ℤ (z *ℤ d)
    ≡ (b *ℤ (((x *ℤ px) +ℤ (y *ℤ py)) +ℤ (z *ℤ pos 1))) -ℤ (a *ℤ (((x *ℤ qx) +ℤ (y *ℤ qy)) +ℤ (z *ℤ pos 1)))
form_at_crossing x y z a b px py qx qy d h =
    by_one (x ∷ y ∷ z ∷ a ∷ b ∷ px ∷ py ∷ qx ∷ qy ∷ d ∷ [])
    (Var 0 ⊗ (Var 4 ⊗ Var 5 ⊖ Var 3 ⊗ Var 7) ⊕ Var 1 ⊗ (Var 4 ⊗ Var 6 ⊖ Var 3 ⊗ Var 8) ⊕ Var 2 ⊗ Var 9)
    (Var 4 ⊗ (Var 0 ⊗ Var 5 ⊕ Var 1 ⊗ Var 6 ⊕ Var 2 ⊗ Lit (pos 1)) ⊖ Var 3 ⊗ (Var 0 ⊗ Var 7 ⊕ Var 1 ⊗ Var 8 ⊕ Var 2 ⊗ Lit (pos 1)))
    (Var 2) (Var 9) (Var 4 ⊖ Var 3) refl h

record IsCrossing (f : Seg) (a b : ℤ) (c : Point) : Type 0 where
  on : IsOn f c
  depth : pos c.d ≡ b -ℤ a
  form_is : (x y z : ℤ) → form x y z c ≡ (b *ℤ form x y z (at_coord f.lo)) -ℤ (a *ℤ form x y z (at_coord f.hi))

crossing_point : (f : Seg) (a b : ℤ) → a ≤ℤ pos 0 → pos 0 ≤ℤ b → pos 0 <ℤ (b -ℤ a) → (c : Point) × IsCrossing f a b c
unfolding form
crossing_point f a b ha hb w =
    let (d, positive, depth) = positive_natural (b -ℤ a) w in
    let x = (b *ℤ f.lo.x) -ℤ (a *ℤ f.hi.x) in
    let y = (b *ℤ f.lo.y) -ℤ (a *ℤ f.hi.y) in
    let c : Point = record { x = x; y = y; d = d; positive = positive } in (
      c,
      record {
        on =
            between_by c (at_coord f.lo) (at_coord f.hi) (pos 1) b (neg_ℤ a) hb (omega (arith, lin)) (omega (arith, lin))
            (omega (arith, lin, one_mul x, neg_mul a f.hi.x)) (omega (arith, lin, one_mul y, neg_mul a f.hi.y))
            (omega (arith, lin, one_mul (pos d), mul_one b, mul_one (neg_ℤ a)));
        depth = sym depth;
        form_is = λ u v z. form_at_crossing u v z a b f.lo.x f.lo.y f.hi.x f.hi.y (pos d) (sym depth);
      },
    )

crossing_side : (e f : Seg) (a b : ℤ) (c : Point) → IsCrossing f a b c → side e c ≡ (b *ℤ side e (at_coord f.lo)) -ℤ (a *ℤ side e (at_coord f.hi))
crossing_side e f a b c h = rw (side-form e c, side-form e (at_coord f.lo), side-form e (at_coord f.hi)) (h.form_is _ _ _)

crossing_sweep : (f : Seg) (a b : ℤ) (c : Point) → IsCrossing f a b c → sweep c ≡ (b *ℤ sweep (at_coord f.lo)) -ℤ (a *ℤ sweep (at_coord f.hi))
crossing_sweep f a b c h = rw (sweep-form c, sweep-form (at_coord f.lo), sweep-form (at_coord f.hi)) (h.form_is _ _ _)

-- a point of both, strictly between the ends of the edge
inside_meets : (e f : Seg) (c : Point) → Rises e → HaveOnlyEnds e f → IsOn f c → side e c ≡ pos 0
    → (sweep (at_coord e.lo) *ℤ pos c.d) <ℤ sweep c → sweep c <ℤ (sweep (at_coord e.hi) *ℤ pos c.d) → ⊥
inside_meets e f c up ends on on_line low high =
    let end = (ends c (on_from_sweep e c up on_line (le_of_lt low) (le_of_lt high), on)).0 in
    ⊎_elim
    (λ at. let s = sweep-same c (at_coord e.lo) at in omega (arith, lin, mul_one (sweep c)))
    (λ at. let s = sweep-same c (at_coord e.hi) at in omega (arith, lin, mul_one (sweep c)))
    end

-- ---- a segment with a point in the flat triangle

-- over plain variables: x is what the crossing point's sweep value is from g times that of the point
crossing_within : (s t d l h g u x : ℤ) → IsFlat s t d l h → pos 0 <ℤ d → pos 1 ≤ℤ g → neg_ℤ (flat *ℤ s) ≤ℤ x → x ≤ℤ (flat *ℤ s)
    → ((g *ℤ t) -ℤ x) -ℤ (u *ℤ d) ≡ pos 0 → ((l *ℤ g) <ℤ u) × (u <ℤ (h *ℤ g))
crossing_within s t d l h g u x flat_at hd hg low high e =
    let positive = positive_times_positive {x = flat} {y = s} (omega (arith, lin)) flat_at.beside in
    let after = le_mul {x = pos 1} {y = g} (t -ℤ (l *ℤ d)) (omega (arith, lin, flat_at.after_lo)) hg in
    let before = le_mul {x = pos 1} {y = g} ((h *ℤ d) -ℤ t) (omega (arith, lin, flat_at.before_hi)) hg in
    let one = one_mul (t -ℤ (l *ℤ d)) in
    let other = one_mul ((h *ℤ d) -ℤ t) in
    let left : g *ℤ (t -ℤ (l *ℤ d)) ≡ (g *ℤ t) -ℤ ((l *ℤ g) *ℤ d) =
    by_ring (g ∷ t ∷ l ∷ d ∷ []) (Var 0 ⊗ (Var 1 ⊖ Var 2 ⊗ Var 3)) (Var 0 ⊗ Var 1 ⊖ Var 2 ⊗ Var 0 ⊗ Var 3) refl in
    let right : g *ℤ ((h *ℤ d) -ℤ t) ≡ ((h *ℤ g) *ℤ d) -ℤ (g *ℤ t) =
    by_ring (g ∷ t ∷ h ∷ d ∷ []) (Var 0 ⊗ (Var 2 ⊗ Var 3 ⊖ Var 1)) (Var 2 ⊗ Var 0 ⊗ Var 3 ⊖ Var 0 ⊗ Var 1) refl in
    (cancel_lt_right d (l *ℤ g) u (le_of_lt hd) (omega (arith, lin, flat_at.after_lo)), cancel_lt_right d u (h *ℤ g) (le_of_lt hd) (omega (arith, lin, flat_at.before_hi)))

-- the form of g times the sweep value, less the rise times the side, less the crossing point's sweep value: it is 0 at both ends
zero_at_lo : (j a b t u : ℤ) → ((((j *ℤ b) -ℤ (j *ℤ a)) *ℤ t) +ℤ (neg_ℤ ((u -ℤ t) *ℤ j) *ℤ a)) +ℤ (neg_ℤ (((j *ℤ b) *ℤ t) -ℤ ((j *ℤ a) *ℤ u)) *ℤ pos 1) ≡ pos 0
zero_at_lo j a b t u =
    by_ring (j ∷ a ∷ b ∷ t ∷ u ∷ [])
    ((Var 0 ⊗ Var 2 ⊖ Var 0 ⊗ Var 1) ⊗ Var 3 ⊕ Neg ((Var 4 ⊖ Var 3) ⊗ Var 0) ⊗ Var 1 ⊕ Neg (Var 0 ⊗ Var 2 ⊗ Var 3 ⊖ Var 0 ⊗ Var 1 ⊗ Var 4) ⊗ Lit (pos 1)) (Lit (pos 0)) refl

zero_at_hi : (j a b t u : ℤ) → ((((j *ℤ b) -ℤ (j *ℤ a)) *ℤ u) +ℤ (neg_ℤ ((u -ℤ t) *ℤ j) *ℤ b)) +ℤ (neg_ℤ (((j *ℤ b) *ℤ t) -ℤ ((j *ℤ a) *ℤ u)) *ℤ pos 1) ≡ pos 0
zero_at_hi j a b t u =
    by_ring (j ∷ a ∷ b ∷ t ∷ u ∷ [])
    ((Var 0 ⊗ Var 2 ⊖ Var 0 ⊗ Var 1) ⊗ Var 4 ⊕ Neg ((Var 4 ⊖ Var 3) ⊗ Var 0) ⊗ Var 2 ⊕ Neg (Var 0 ⊗ Var 2 ⊗ Var 3 ⊖ Var 0 ⊗ Var 1 ⊗ Var 4) ⊗ Lit (pos 1)) (Lit (pos 0)) refl

zero_is : (g r j a t u d : ℤ) → ((g *ℤ t) +ℤ (neg_ℤ (r *ℤ j) *ℤ a)) +ℤ (neg_ℤ u *ℤ d) ≡ ((g *ℤ t) -ℤ (r *ℤ (j *ℤ a))) -ℤ (u *ℤ d)
zero_is g r j a t u d =
    by_ring (g ∷ r ∷ j ∷ a ∷ t ∷ u ∷ d ∷ []) (Var 0 ⊗ Var 4 ⊕ Neg (Var 1 ⊗ Var 2) ⊗ Var 3 ⊕ Neg (Var 5) ⊗ Var 6) (Var 0 ⊗ Var 4 ⊖ Var 1 ⊗ (Var 2 ⊗ Var 3) ⊖ Var 5 ⊗ Var 6) refl

crossed_zero : (j a b : ℤ) → ((j *ℤ b) *ℤ a) -ℤ ((j *ℤ a) *ℤ b) ≡ pos 0
crossed_zero j a b = by_ring (j ∷ a ∷ b ∷ []) (Var 0 ⊗ Var 2 ⊗ Var 1 ⊖ Var 0 ⊗ Var 1 ⊗ Var 2) (Lit (pos 0)) refl

-- its ends, on opposite sides of the line: it crosses the line inside the edge
opposite_ends : (k j : ℤ) (e f : Seg) (r : Point) → Rises e → HaveOnlyEnds e f → IsInSliver k e r → IsOn f r
    → (j *ℤ side e (at_coord f.lo)) ≤ℤ pos 0 → pos 0 ≤ℤ (j *ℤ side e (at_coord f.hi)) → pos 0 <ℤ ((j *ℤ side e (at_coord f.hi)) -ℤ (j *ℤ side e (at_coord f.lo)))
    → IsWithin (2 ^ 60) (rise f) → ((j *ℤ side e r ≡ k *ℤ side e r) ⊎ (j *ℤ side e r ≡ neg_ℤ (k *ℤ side e r))) → ⊥
opposite_ends k j e f r up ends inside on ha hb w small sign =
    let a = side e (at_coord f.lo) in
    let b = side e (at_coord f.hi) in
    let t = sweep (at_coord f.lo) in
    let u = sweep (at_coord f.hi) in
    let g = (j *ℤ b) -ℤ (j *ℤ a) in
    let numbers = sliver_numbers k e r inside in
    let zero =
    mix_zero-between g (neg_ℤ ((u -ℤ t) *ℤ j)) (neg_ℤ (((j *ℤ b) *ℤ t) -ℤ ((j *ℤ a) *ℤ u))) e r (at_coord f.lo) (at_coord f.hi) on
    (zero_at_lo j a b t u) (zero_at_hi j a b t u) in
    let (x_low, x_high) = slight (k *ℤ side e r) (j *ℤ side e r) (u -ℤ t) numbers.beside small sign in
    let (low, high) =
    crossing_within (k *ℤ side e r) (sweep r) (pos r.d) (sweep (at_coord e.lo)) (sweep (at_coord e.hi)) g (((j *ℤ b) *ℤ t) -ℤ ((j *ℤ a) *ℤ u)) ((u -ℤ t) *ℤ (j *ℤ side e r))
    numbers (d_positive r) (omega (arith, lin)) x_low x_high (sym (zero_is g (u -ℤ t) j (side e r) (sweep r) (((j *ℤ b) *ℤ t) -ℤ ((j *ℤ a) *ℤ u)) (pos r.d)) ∙ zero) in
    let (c, at) = crossing_point f (j *ℤ a) (j *ℤ b) ha hb w in
    let value = crossing_sweep f (j *ℤ a) (j *ℤ b) c at in
    inside_meets e f c up ends at.on (crossing_side e f (j *ℤ a) (j *ℤ b) c at ∙ crossed_zero j a b)
    (omega (arith, lin, ap (λ z. sweep (at_coord e.lo) *ℤ z) at.depth)) (omega (arith, lin, ap (λ z. sweep (at_coord e.hi) *ℤ z) at.depth))
  where
    slight : (s x v : ℤ) → pos 0 <ℤ s → IsWithin (2 ^ 60) v → ((x ≡ s) ⊎ (x ≡ neg_ℤ s)) → (neg_ℤ (flat *ℤ s) ≤ℤ (v *ℤ x)) × ((v *ℤ x) ≤ℤ (flat *ℤ s))
    slight s x v hs small sign =
        let high = le_mul {x = v} {y = flat} s (le_of_lt hs) small.high in
        let low = le_mul {x = neg_ℤ flat} {y = v} s (le_of_lt hs) small.low in
        let turned = neg_mul flat s in
        elim sign [
          | inl same ↦ (let p = ap (λ z. v *ℤ z) same in (omega (arith, lin), omega (arith, lin)))
          | inr other ↦ (let p = ap (λ z. v *ℤ z) other in let q = mul_neg v s in (omega (arith, lin), omega (arith, lin)))
        ]

-- both its ends strictly on the side of the point
not_beyond : (k : ℤ) (e f : Seg) (r : Point) → IsInSliver k e r → IsOn f r → rise e ≤ℤ flat → pos 0 <ℤ (k *ℤ side e (at_coord f.lo)) → pos 0 <ℤ (k *ℤ side e (at_coord f.hi)) → ⊥
not_beyond k e f r inside on short ha hb =
    let h = sliver_numbers k e r inside in
    let unit = λ (p : Point). unit_is k (side e p) (sweep p) (pos p.d) in
    let deep = mix_not_negative-between (pos 0) k (negsuc 0) e r (at_coord f.lo) (at_coord f.hi) on (omega (arith, lin, unit (at_coord f.lo))) (omega (arith, lin, unit (at_coord f.hi))) in
    too_deep (k *ℤ side e r) (sweep r) (pos r.d) (sweep (at_coord e.lo)) (sweep (at_coord e.hi)) h (d_positive r) short (omega (arith, lin, unit r))
  where
    unit_is : (k s t d : ℤ) → ((pos 0 *ℤ t) +ℤ (k *ℤ s)) +ℤ (negsuc 0 *ℤ d) ≡ (k *ℤ s) -ℤ d
    unit_is k s t d = by_ring (k ∷ s ∷ t ∷ d ∷ []) (Lit (pos 0) ⊗ Var 2 ⊕ Var 0 ⊗ Var 1 ⊕ Lit (negsuc 0) ⊗ Var 3) (Var 0 ⊗ Var 1 ⊖ Var 3) refl

    too_deep : (s t d l h : ℤ) → IsFlat s t d l h → pos 0 <ℤ d → (h -ℤ l) ≤ℤ flat → d ≤ℤ s → ⊥
    too_deep s t d l h at hd short le =
        let long = le_mul d (le_of_lt hd) short in
        let deep = mul_le {x = d} {y = s} flat (pos_nonneg (2 ^ 60)) le in
        let positive = positive_times_positive {x = flat} {y = s} (omega (arith, lin)) at.beside in
        omega (arith, lin, at.after_lo, at.before_hi, sub_mul h l d)

not_below : (k : ℤ) (e f : Seg) (r : Point) → IsInSliver k e r → IsOn f r → (k *ℤ side e (at_coord f.lo)) ≤ℤ pos 0 → (k *ℤ side e (at_coord f.hi)) ≤ℤ pos 0 → ⊥
not_below k e f r inside on ha hb =
    let at = λ (p : Point). beside_is k (side e p) (sweep p) (pos p.d) in
    let low = mix_not_positive-between (pos 0) k (pos 0) e r (at_coord f.lo) (at_coord f.hi) on (omega (arith, lin, at (at_coord f.lo))) (omega (arith, lin, at (at_coord f.hi))) in
    omega (arith, lin, inside.beside)

-- in range an edge rises by less than 2^60
pub rise_within : (f : Seg) → IsSegInRange f → IsWithin (2 ^ 60) (rise f)
unfolding sweep
rise_within f h = record {
  low = omega (arith, lin, pos_times (2 ^ 30) f.lo.x, pos_times (2 ^ 30) f.hi.x, h.lo.right, h.lo.top, h.hi.left, h.hi.bottom);
  high = omega (arith, lin, pos_times (2 ^ 30) f.lo.x, pos_times (2 ^ 30) f.hi.x, h.lo.left, h.lo.bottom, h.hi.right, h.hi.top);
}

-- nothing that meets the edge in ends alone comes into the flat triangle
pub sliver_free : (k : ℤ) (e f : Seg) (r : Point) → IsSegInRange e → IsSegInRange f → HaveOnlyEnds e f → IsInSliver k e r → IsOn f r → ⊥
sliver_free k e f r he hf ends inside on =
    let up = rises-in_range e he in
    let small = rise_within f hf in
    let a = k *ℤ side e (at_coord f.lo) in
    let b = k *ℤ side e (at_coord f.hi) in
    let turned = neg_mul k (side e (at_coord f.lo)) in
    let other = neg_mul k (side e (at_coord f.hi)) in
    elim (lt_or_ge (pos 0) a) [
      | inl left_a ↦ elim (lt_or_ge (pos 0) b) [
        | inl left_b ↦ not_beyond k e f r inside on (rise_within e he).high left_a left_b
        | inr right_b ↦
            opposite_ends k (neg_ℤ k) e f r up ends inside on (omega (arith, lin)) (omega (arith, lin)) (omega (arith, lin)) small (inr (neg_mul k (side e r)))
      ]
      | inr right_a ↦ elim (lt_or_ge (pos 0) b) [
        | inl left_b ↦ opposite_ends k k e f r up ends inside on right_a (le_of_lt left_b) (omega (arith, lin)) small (inl refl)
        | inr right_b ↦ not_below k e f r inside on right_a right_b
      ]
    ]

-- so a way in it is clear of all edges of a list that meet in ends alone
pub sliver_clear : (k : ℤ) (e : Seg) (edges : List Seg) (p q : Point) → ((f : Seg) → Contains edges f → IsSegInRange f) → IsNodedFully edges → Contains edges e
    → IsInSliver k e p → IsInSliver k e q → IsClear edges p q
sliver_clear k e edges p q in_range noded c hp hq = λ f i r between on.
    (let inside = sliver-between k e r p q between hp hq in
    elim (noded e f c i) [
      | inl same ↦ (
          let zero = side_zero-on e r (subst (λ g. IsOn g r) (sym same) on) in
          let none = ap (λ z. k *ℤ z) zero ∙ mul_zero k in
          omega (arith, lin, (sliver_numbers k e r inside).beside)
          )
      | inr ends ↦ sliver_free k e f r (in_range e c) (in_range f i) ends inside on
    ])

-- ---- the side points of the edge are in it

in_the_middle : (g l h : ℤ) → pos 0 <ℤ g → g ≡ h -ℤ l → IsFlat g (pos (2 ^ 63) *ℤ (l +ℤ h)) (pos (2 ^ 64)) l h
in_the_middle g l h positive e = record {
  beside = positive;
  after_lo = omega (arith, lin, pos_times (2 ^ 60) g, pos_times (2 ^ 63) (l +ℤ h), mul_comm l (pos (2 ^ 64)), pos_times (2 ^ 64) l);
  before_hi = omega (arith, lin, pos_times (2 ^ 60) g, pos_times (2 ^ 63) (l +ℤ h), mul_comm h (pos (2 ^ 64)), pos_times (2 ^ 64) h);
}

pub upper_in_sliver : (e : Seg) → Rises e → IsInSliver (pos 1) e (upper e)
upper_in_sliver e up =
    sliver_from_numbers (pos 1) e (upper e)
    (rw (one_mul (side e (upper e)), side-upper e, sweep-upper e) (in_the_middle (rise e) (sweep (at_coord e.lo)) (sweep (at_coord e.hi)) (omega (arith, lin)) refl))

pub lower_in_sliver : (e : Seg) → Rises e → IsInSliver (negsuc 0) e (lower e)
lower_in_sliver e up =
    let turned : negsuc 0 *ℤ side e (lower e) ≡ rise e = ap (λ z. negsuc 0 *ℤ z) (side-lower e) ∙ omega (arith, lin, minus_one_mul (neg_ℤ (rise e))) in
    sliver_from_numbers (negsuc 0) e (lower e)
    (rw (turned, sweep-lower e) (in_the_middle (rise e) (sweep (at_coord e.lo)) (sweep (at_coord e.hi)) (omega (arith, lin)) refl))
