-- No point of a region has room w where one own edge alone bounds it, or two that face each other.
use mathlib.Core.List.{[], ◌∷◌}
use borrow.Author.Differences.{product_is}
use Rattle.std.proofs.Common.{◌≡◌, refl, sym, ◌∙◌, ap, subst, ℕ, List, Contains, ◌+◌, ◌*◌, ◌/◌, ◌≤◌, ◌<◌, cond, ℤ, pos, neg_ℤ, ◌+ℤ◌, ◌-ℤ◌, ◌*ℤ◌, ◌≤ℤ◌, ◌<ℤ◌, unsigned_abs, inl, inr, arith}
use Rattle.std.proofs.Math.Nat.{le-div_iff_mul-le, mul-le-mul}
use Rattle.cov_types.specs.declared.coord.Coord.{Coord}
use Rattle.cov_types.specs.declared.seg.Seg.{Seg}
use Rattle.integer_laws.proofs.Cast.{pos_add, pos_mul, pos_le, pos_lt, pos_nonneg, pos_positive, unsigned_abs_nonneg, unsigned_abs_negative}
use Rattle.integer_laws.proofs.Compare.{le_of_lt, le_or_gt, sign_cases, int_le_false}
use Rattle.integer_laws.proofs.Order.{mul_le, le_mul, cancel_le, mul_lt_mul}
use Rattle.integer_laws.proofs.Ring.{lin, by_ring, by_one, Var, Lit, ◌⊕◌, ◌⊖◌, ◌⊗◌, Neg, neg_mul_neg, one_mul, minus_one_mul}
use Rattle.integer_laws.proofs.Sign.{nonneg_times_nonneg, positive_times_positive, square_nonneg}
use Rattle.plane.specs.Length.{root, edge_length}
use Rattle.plane.specs.Region.{IsOuterRegion, IsRegionOf}
use Rattle.plane.proofs.Roots.{root_is}
use Rattle.plane.proofs.Sides.{side_zero-on}
use Rattle.sector_laws.specs.Sector.{AreDistinct, IsPlanar}
use Rattle.region_laws.proofs.Balance.{first_or_later}
use Rattle.region_owners.specs.Box.{IsEdgeOf}
use Rattle.distance_laws.specs.Room.{half_distance, squared_length, foot, half_side, squared_to, reach, HasHalfRoom, doubled}
use Rattle.distance_laws.proofs.Reach.{reach_is}
use Rattle.clearance_laws.specs.Block.{IsInBlock, AtCorners}
use Rattle.clearance_laws.specs.Inside.{half_point}
use Rattle.clearance_laws.specs.Near.{IsAsFar}
use Rattle.clearance_laws.specs.Facing.{IsBeside, IsShallow, AreFacing, IsFront, IsLeastDepth, depth}
use Rattle.clearance_laws.proofs.Corners.{shallow_within, facing_within}
use Rattle.clearance_laws.proofs.Sides.{squares_sum, across, along, above_nearest, below_nearest}

-- ---- the length of an edge in 1/256 units

abs_square : (x : ℤ) → pos (unsigned_abs x * unsigned_abs x) ≡ x *ℤ x
abs_square x = elim (le_or_gt x (pos 0)) [
  | inl down ↦ pos_mul (unsigned_abs x) (unsigned_abs x) ∙ (λ i. unsigned_abs_negative x down i *ℤ unsigned_abs_negative x down i) ∙ neg_mul_neg x x
  | inr up ↦ pos_mul (unsigned_abs x) (unsigned_abs x) ∙ (λ i. unsigned_abs_nonneg x (le_of_lt up) i *ℤ unsigned_abs_nonneg x (le_of_lt up) i)
]

-- 65536 times the squared length
length_square : (e : Seg) → pos (65536 * (unsigned_abs (e.hi.x -ℤ e.lo.x) * unsigned_abs (e.hi.x -ℤ e.lo.x) + unsigned_abs (e.hi.y -ℤ e.lo.y) * unsigned_abs (e.hi.y -ℤ e.lo.y))) ≡ pos 65536 *ℤ squared_length e
unfolding squared_length
length_square e =
    pos_mul 65536 _ ∙ ap (λ z. pos 65536 *ℤ z) (pos_add (unsigned_abs (e.hi.x -ℤ e.lo.x) * unsigned_abs (e.hi.x -ℤ e.lo.x)) (unsigned_abs (e.hi.y -ℤ e.lo.y) * unsigned_abs (e.hi.y -ℤ e.lo.y))
    ∙ (λ i. abs_square (e.hi.x -ℤ e.lo.x) i +ℤ abs_square (e.hi.y -ℤ e.lo.y) i))

pub length_at_most : (e : Seg) → (pos (edge_length e) *ℤ pos (edge_length e)) ≤ℤ (pos 65536 *ℤ squared_length e)
unfolding edge_length
length_at_most e =
    let n = 65536 * (unsigned_abs (e.hi.x -ℤ e.lo.x) * unsigned_abs (e.hi.x -ℤ e.lo.x) + unsigned_abs (e.hi.y -ℤ e.lo.y) * unsigned_abs (e.hi.y -ℤ e.lo.y)) in
    let le = (pos_le (root n * root n) n).1 (root_is n).at_most in
    let square = pos_mul (root n) (root n) in
    let is = length_square e in
    omega (arith, lin)

pub length_next_more : (e : Seg) → (pos 65536 *ℤ squared_length e) <ℤ ((pos (edge_length e) +ℤ pos 1) *ℤ (pos (edge_length e) +ℤ pos 1))
unfolding edge_length
length_next_more e =
    let n = 65536 * (unsigned_abs (e.hi.x -ℤ e.lo.x) * unsigned_abs (e.hi.x -ℤ e.lo.x) + unsigned_abs (e.hi.y -ℤ e.lo.y) * unsigned_abs (e.hi.y -ℤ e.lo.y)) in
    let less = (pos_lt n ((root n + 1) * (root n + 1))).1 (root_is n).next_more in
    let square = pos_mul (root n + 1) (root n + 1) ∙ (λ i. pos_add (root n) 1 i *ℤ pos_add (root n) 1 i) in
    let is = length_square e in
    omega (arith, lin)

-- ---- over plain variables: the depths j and i from the lines of two edges, whose squared lengths are x and y, and a and b their lengths in 1/256 units

-- the first is nearer
facing_numbers : (m n a b x y j i : ℤ) → pos 0 ≤ℤ a → pos 0 ≤ℤ b → pos 0 <ℤ j → m ≤ℤ j → (pos 0 <ℤ i → n ≤ℤ i)
    → ((b *ℤ j) +ℤ (a *ℤ i)) <ℤ ((b *ℤ m) +ℤ (a *ℤ n)) → pos 0 <ℤ (((b *ℤ j) +ℤ (a *ℤ i)) +ℤ i)
    → ((j *ℤ j) *ℤ y) ≤ℤ ((i *ℤ i) *ℤ x) → (pos 65536 *ℤ x) <ℤ ((a +ℤ pos 1) *ℤ (a +ℤ pos 1)) → (b *ℤ b) ≤ℤ (pos 65536 *ℤ y) → ⊥
facing_numbers m n a b x y j i ha hb deep first second close over nearer next at_most = elim (le_or_gt i (pos 0)) [
  | inr in_front ↦ (
      let one = mul_le b hb first in
      let two = mul_le a ha (second in_front) in
      omega (arith, lin)
      )
  | inl behind ↦ (
      let back = neg_ℤ i in
      let less : ((a +ℤ pos 1) *ℤ back) <ℤ (b *ℤ j) = (
      let is : (a +ℤ pos 1) *ℤ neg_ℤ i ≡ neg_ℤ ((a *ℤ i) +ℤ i) = by_ring (a ∷ i ∷ []) ((Var 0 ⊕ Lit (pos 1)) ⊗ Neg (Var 1)) (Neg (Var 0 ⊗ Var 1 ⊕ Var 1)) refl in
      omega (arith, lin)
      ) in
      let some = nonneg_times_nonneg {x = a +ℤ pos 1} {y = back} (omega (arith, lin)) (omega (arith, lin)) in
      let squares = mul_lt_mul {x = (a +ℤ pos 1) *ℤ back} {y = b *ℤ j} {u = (a +ℤ pos 1) *ℤ back} {v = b *ℤ j} some less some less in
      let left : ((a +ℤ pos 1) *ℤ back) *ℤ ((a +ℤ pos 1) *ℤ back) ≡ ((a +ℤ pos 1) *ℤ (a +ℤ pos 1)) *ℤ (i *ℤ i) =
      by_ring (a ∷ i ∷ []) (((Var 0 ⊕ Lit (pos 1)) ⊗ Neg (Var 1)) ⊗ ((Var 0 ⊕ Lit (pos 1)) ⊗ Neg (Var 1))) (((Var 0 ⊕ Lit (pos 1)) ⊗ (Var 0 ⊕ Lit (pos 1))) ⊗ (Var 1 ⊗ Var 1)) refl in
      let right : (b *ℤ j) *ℤ (b *ℤ j) ≡ (b *ℤ b) *ℤ (j *ℤ j) = by_ring (b ∷ j ∷ []) ((Var 0 ⊗ Var 1) ⊗ (Var 0 ⊗ Var 1)) ((Var 0 ⊗ Var 0) ⊗ (Var 1 ⊗ Var 1)) refl in
      let low = le_mul (i *ℤ i) (square_nonneg i) (le_of_lt next) in
      let high = le_mul (j *ℤ j) (square_nonneg j) at_most in
      let times = mul_le (pos 65536) (pos_nonneg 65536) nearer in
      let low_is : (pos 65536 *ℤ x) *ℤ (i *ℤ i) ≡ pos 65536 *ℤ ((i *ℤ i) *ℤ x) = by_ring (x ∷ i ∷ []) ((Lit (pos 65536) ⊗ Var 0) ⊗ (Var 1 ⊗ Var 1)) (Lit (pos 65536) ⊗ ((Var 1 ⊗ Var 1) ⊗ Var 0)) refl in
      let high_is : (pos 65536 *ℤ y) *ℤ (j *ℤ j) ≡ pos 65536 *ℤ ((j *ℤ j) *ℤ y) = by_ring (y ∷ j ∷ []) ((Lit (pos 65536) ⊗ Var 0) ⊗ (Var 1 ⊗ Var 1)) (Lit (pos 65536) ⊗ ((Var 1 ⊗ Var 1) ⊗ Var 0)) refl in
      omega (arith, lin)
      )
]

-- a square keeps no sign
depth_square : (k h : ℤ) → k *ℤ k ≡ pos 1 → (k *ℤ h) *ℤ (k *ℤ h) ≡ h *ℤ h
depth_square k h unit = by_one (k ∷ h ∷ []) ((Var 0 ⊗ Var 1) ⊗ (Var 0 ⊗ Var 1)) (Var 1 ⊗ Var 1) (Var 1 ⊗ Var 1) (Var 0 ⊗ Var 0) (Lit (pos 1)) refl unit

-- ---- how far a point is from an edge and from its line

-- no point of the edge is nearer than its line
own_far : (q : Coord) (e : Seg) → IsAsFar q (half_side q e *ℤ half_side q e) (squared_length e) e
own_far q e r on =
    let sum = squares_sum q e r in
    let d = pos r.d in
    let on_line : across q e r ≡ half_side q e *ℤ d = ap (λ z. (half_side q e *ℤ d) -ℤ (pos 2 *ℤ z)) (side_zero-on e r on) ∙ by_ring ((half_side q e *ℤ d) ∷ []) (Var 0 ⊖ Lit (pos 2) ⊗ Lit (pos 0)) (Var 0) refl in
    let squared = (λ i. on_line i *ℤ on_line i) ∙ by_ring (half_side q e ∷ d ∷ []) ((Var 0 ⊗ Var 1) ⊗ (Var 0 ⊗ Var 1)) ((Var 0 ⊗ Var 0) ⊗ (Var 1 ⊗ Var 1)) refl in
    let more = square_nonneg (along q e r) in
    let deep = ap (λ z. (half_side q e *ℤ half_side q e) *ℤ z) (pos_mul r.d r.d) in
    let same : across q e r *ℤ across q e r ≡ (half_side q e *ℤ half_side q e) *ℤ (d *ℤ d) = squared in
    omega (arith, lin)

-- nor a point of another edge, whose line is no nearer
other_far : (q : Coord) (e f : Seg) → pos 0 ≤ℤ squared_length e → pos 0 <ℤ squared_length f → ((half_side q e *ℤ half_side q e) *ℤ squared_length f) ≤ℤ ((half_side q f *ℤ half_side q f) *ℤ squared_length e)
    → IsAsFar q (half_side q e *ℤ half_side q e) (squared_length e) f
other_far q e f long_e long_f nearer r on =
    let g = half_side q e *ℤ half_side q e in
    let h = half_side q f *ℤ half_side q f in
    let x = squared_length e in
    let y = squared_length f in
    let d = pos (r.d * r.d) in
    let z = half_distance q r in
    let a = mul_le x long_e (own_far q f r on) in
    let b = le_mul d (pos_nonneg (r.d * r.d)) nearer in
    let one : x *ℤ (h *ℤ d) ≡ (h *ℤ x) *ℤ d = by_ring (x ∷ h ∷ d ∷ []) (Var 0 ⊗ (Var 1 ⊗ Var 2)) ((Var 1 ⊗ Var 0) ⊗ Var 2) refl in
    let two : (g *ℤ y) *ℤ d ≡ y *ℤ (g *ℤ d) = by_ring (g ∷ y ∷ d ∷ []) ((Var 0 ⊗ Var 1) ⊗ Var 2) (Var 1 ⊗ (Var 0 ⊗ Var 2)) refl in
    let three : x *ℤ (y *ℤ z) ≡ y *ℤ (x *ℤ z) = by_ring (x ∷ y ∷ z ∷ []) (Var 0 ⊗ (Var 1 ⊗ Var 2)) (Var 1 ⊗ (Var 0 ⊗ Var 2)) refl in
    cancel_le y (g *ℤ d) (x *ℤ z) long_f (omega (arith, lin))

module _ (q : Coord) (e : Seg) (is : IsBeside q e) where
  long_beside : pos 0 <ℤ squared_length e
  long_beside = let after = is.after_lo in let before = is.before_hi in let two = product_is (pos 2) (squared_length e) in omega (arith, lin)

  reach_line : reach q e ≡ unsigned_abs (half_side q e *ℤ half_side q e) / unsigned_abs (squared_length e)
  reach_line =
      let first = (int_le_false (foot q e) (pos 0)).1 is.after_lo in
      let second = (int_le_false (pos 2 *ℤ squared_length e) (foot q e)).1 is.before_hi in
      λ i. cond (first i) (unsigned_abs (squared_to q e.lo)) (cond (second i) (unsigned_abs (squared_to q e.hi)) (unsigned_abs (half_side q e *ℤ half_side q e) / unsigned_abs (squared_length e)))

  line_room : (w : ℕ) → HasHalfRoom q w e → (pos (w * w) *ℤ squared_length e) ≤ℤ (half_side q e *ℤ half_side q e)
  line_room w room =
      let off = half_side q e *ℤ half_side q e in
      let length = unsigned_abs (squared_length e) in
      let length_is = unsigned_abs_nonneg (squared_length e) (le_of_lt long_beside) in
      let off_is = unsigned_abs_nonneg off (square_nonneg (half_side q e)) in
      let some : 0 < length = (let long = long_beside in omega (arith, lin)) in
      let divided = subst (λ n. w * w ≤ n) reach_line ((reach_is q w e).0 room) in
      let times = (pos_le (w * w * length) (unsigned_abs off)).1 ((le-div_iff_mul-le {k = length} {x = w * w} {y = unsigned_abs off} some).0 divided) in
      let product : pos (w * w * length) ≡ pos (w * w) *ℤ squared_length e = pos_mul (w * w) length ∙ ap (λ z. pos (w * w) *ℤ z) length_is in
      omega (arith, lin)

-- ---- regions

module _ (edges : List Seg) (planar : IsPlanar edges) (distinct : AreDistinct edges) (r : ℕ) (inner : ¬ IsOuterRegion edges r) (p : Coord) (own : IsRegionOf edges (half_point (doubled p)) r) (w : ℕ) (some : 1 ≤ w) where
  abbrev q : Coord
  q = doubled p

  -- a point with room is in front of its nearest own edge
  nearest_deep : (k : ℤ) (e : Seg) → IsFront edges r k e → Contains edges e → IsBeside q e → HasHalfRoom q w e
      → ((g : Seg) → IsEdgeOf edges r g → IsAsFar q (half_side q e *ℤ half_side q e) (squared_length e) g) → pos 0 <ℤ depth k q e
  nearest_deep k e front has is room nearest = elim (sign_cases (half_side q e)) [
    | inl down ↦ (
        let turned = ap (λ z. z *ℤ half_side q e) (front.below (below_nearest edges planar distinct r inner q e own has is.after_lo is.before_hi nearest down)) in
        omega (arith, lin, minus_one_mul (half_side q e))
        )
    | inr rest ↦ elim rest [
      | inl on ↦ (
          let at = line_room q e is w room in
          let none = ap (λ z. z *ℤ z) on in
          let square : 1 ≤ w * w = mul-le-mul some some in
          let positive = positive_times_positive {x = pos (w * w)} {y = squared_length e} (pos_positive square) (long_beside q e is) in
          absurd (omega (arith, lin))
          )
      | inr up ↦ (
          let turned = ap (λ z. z *ℤ half_side q e) (front.above (above_nearest edges planar distinct r inner q e own has is.after_lo is.before_hi nearest up)) in
          omega (arith, lin, one_mul (half_side q e))
          )
    ]
  ]

  alone_none : (k : ℤ) (e : Seg) (m : ℤ) → IsShallow k e m q → IsLeastDepth w e m → IsFront edges r k e → Contains edges e → HasHalfRoom q w e
      → ((n d : ℤ) → pos 0 <ℤ d → IsAsFar q n d e → (g : Seg) → IsEdgeOf edges r g → IsAsFar q n d g) → ⊥
  alone_none k e m is least front has room nearest =
      let in_front = nearest_deep k e front has is.beside room (nearest (half_side q e *ℤ half_side q e) (squared_length e) (long_beside q e is.beside) (own_far q e)) in
      let deep = least k p front.unit in_front (line_room q e is.beside w room) in
      let shallow = is.shallow in
      omega (arith, lin)

  -- the first is nearer
  nearer_none : (k : ℤ) (e : Seg) (m l : ℤ) (f : Seg) (n : ℤ) → AreFacing k e m l f n q → IsLeastDepth w e m → IsLeastDepth w f n → IsFront edges r k e → IsFront edges r l f → Contains edges e
      → HasHalfRoom q w e → HasHalfRoom q w f → ((n d : ℤ) → pos 0 <ℤ d → IsAsFar q n d e → IsAsFar q n d f → (g : Seg) → IsEdgeOf edges r g → IsAsFar q n d g)
      → ((half_side q e *ℤ half_side q e) *ℤ squared_length f) ≤ℤ ((half_side q f *ℤ half_side q f) *ℤ squared_length e) → ⊥
  nearer_none k e m l f n is least_e least_f front_e front_f has room_e room_f nearest nearer =
      let long_e = long_beside q e is.beside_first in
      let long_f = long_beside q f is.beside_second in
      let in_front = nearest_deep k e front_e has is.beside_first room_e (nearest (half_side q e *ℤ half_side q e) (squared_length e) long_e (own_far q e) (other_far q e f (le_of_lt long_e) long_f nearer)) in
      let square_e = depth_square k (half_side q e) front_e.unit in
      let square_f = depth_square l (half_side q f) front_f.unit in
      facing_numbers m n (pos (edge_length e)) (pos (edge_length f)) (squared_length e) (squared_length f) (depth k q e) (depth l q f)
      (pos_nonneg (edge_length e)) (pos_nonneg (edge_length f)) in_front (least_e k p front_e.unit in_front (line_room q e is.beside_first w room_e))
      (λ front. least_f l p front_f.unit front (line_room q f is.beside_second w room_f)) is.close is.over_first
      (subst (λ z. (z *ℤ squared_length f) ≤ℤ ((depth l q f *ℤ depth l q f) *ℤ squared_length e)) (sym square_e) (subst (λ z. ((half_side q e *ℤ half_side q e) *ℤ squared_length f) ≤ℤ (z *ℤ squared_length e)) (sym square_f) nearer))
      (length_next_more e) (length_at_most f)

-- the same two edges the other way round
turned : (k : ℤ) (e : Seg) (m l : ℤ) (f : Seg) (n : ℤ) (q : Coord) → AreFacing k e m l f n q → AreFacing l f n k e m q
turned k e m l f n q is =
    let close = is.close in
    let first = is.over_first in
    let second = is.over_second in
    record {
      beside_first = is.beside_second;
      beside_second = is.beside_first;
      close = omega (arith, lin);
      over_first = omega (arith, lin);
      over_second = omega (arith, lin);
    }

module _ (edges : List Seg) (planar : IsPlanar edges) (distinct : AreDistinct edges) (r : ℕ) (inner : ¬ IsOuterRegion edges r) (lo hi p : Coord) (in_block : IsInBlock lo hi (doubled p)) (own : IsRegionOf edges (half_point (doubled p)) r) (w : ℕ)
    (some : 1 ≤ w) where
  pub no_room_alone : (k : ℤ) (e : Seg) (m : ℤ) → AtCorners lo hi (IsShallow k e m) → IsLeastDepth w e m → IsFront edges r k e → Contains edges e → HasHalfRoom (doubled p) w e
      → ((n d : ℤ) → pos 0 <ℤ d → IsAsFar (doubled p) n d e → (g : Seg) → IsEdgeOf edges r g → IsAsFar (doubled p) n d g) → ⊥
  no_room_alone k e m at least front has room nearest = alone_none edges planar distinct r inner p own w some k e m (shallow_within lo hi (doubled p) in_block k e m at) least front has room nearest

  pub no_room_between : (k : ℤ) (e : Seg) (m l : ℤ) (f : Seg) (n : ℤ) → AtCorners lo hi (AreFacing k e m l f n) → IsLeastDepth w e m → IsLeastDepth w f n → IsFront edges r k e → IsFront edges r l f → Contains edges e → Contains edges f
      → HasHalfRoom (doubled p) w e → HasHalfRoom (doubled p) w f
      → ((n d : ℤ) → pos 0 <ℤ d → IsAsFar (doubled p) n d e → IsAsFar (doubled p) n d f → (g : Seg) → IsEdgeOf edges r g → IsAsFar (doubled p) n d g) → ⊥
  no_room_between k e m l f n at least_e least_f front_e front_f has_e has_f room_e room_f nearest =
      let q = doubled p in
      let is = facing_within lo hi q in_block k e m l f n at in
      elim (le_or_gt ((half_side q e *ℤ half_side q e) *ℤ squared_length f) ((half_side q f *ℤ half_side q f) *ℤ squared_length e)) [
        | inl first ↦ nearer_none edges planar distinct r inner p own w some k e m l f n is least_e least_f front_e front_f has_e room_e room_f nearest first
        | inr second ↦
            nearer_none edges planar distinct r inner p own w some l f n k e m (turned k e m l f n q is) least_f least_e front_f front_e has_f room_f room_e (λ n d positive far_f far_e. nearest n d positive far_e far_f) (le_of_lt second)
      ]

-- ---- lists of one edge and of two

pub of_one : (q : Coord) (n m : ℤ) (e : Seg) → IsAsFar q n m e → (f : Seg) → Contains (e ∷ []) f → IsAsFar q n m f
of_one q n m e far f has = elim (first_or_later e [] f has) [
  | inl here ↦ subst (IsAsFar q n m) here far
  | inr later ↦ absurd (let none = later.1 in omega (arith, none))
]

pub of_two : (q : Coord) (n m : ℤ) (e f : Seg) → IsAsFar q n m e → IsAsFar q n m f → (g : Seg) → Contains (e ∷ f ∷ []) g → IsAsFar q n m g
of_two q n m e f far_e far_f g has = elim (first_or_later e (f ∷ []) g has) [
  | inl here ↦ subst (IsAsFar q n m) here far_e
  | inr later ↦ of_one q n m f far_f g later
]
