-- Room by one whole number: a point has room w from an edge where the square of w is not past the point's reach.
use mathlib.Core.List.{[], ◌∷◌}
use Rattle.std.proofs.Common.{◌≡◌, refl, sym, ◌∙◌, ap, subst, ℕ, ◌+◌, ◌*◌, ◌/◌, ◌<◌, ◌≤◌, Bool, true, false, cond, List, ◌↔◌, ℤ, pos, neg_ℤ, ◌+ℤ◌, ◌-ℤ◌, ◌*ℤ◌, ◌≤ℤ◌, ◌<ℤ◌, int_le, unsigned_abs, arith}
use Rattle.std.proofs.Math.Nat.{le-div_iff_mul-le}
use Rattle.cov_types.specs.declared.coord.Coord.{Coord}
use Rattle.cov_types.specs.declared.seg.Seg.{Seg}
use Rattle.integer_laws.proofs.Cast.{pos_add, pos_mul, pos_le, pos_nonneg, unsigned_abs_nonneg}
use Rattle.integer_laws.proofs.Compare.{le_of_lt, le_trans, int_le_is, int_le_false}
use Rattle.integer_laws.proofs.Order.{mul_le, cancel_le}
use Rattle.integer_laws.proofs.Ring.{lin, by_ring, by_one, by_two, Term, Var, Lit, ◌⊕◌, ◌⊖◌, ◌⊗◌, Neg}
use Rattle.integer_laws.proofs.Sign.{nonneg_times_nonneg, positive_times_positive, square_nonneg}
use Rattle.plane.specs.Point.{Point, at_coord}
use Rattle.plane.specs.Segment.{IsOn}
use Rattle.plane.proofs.Points.{first_between, second_between, between_by}
use Rattle.distance_laws.specs.Room.{squared_distance, HasRoom}
use Rattle.distance_laws.specs.Room.{doubled, half_distance, HasHalfRoom, squared_to, squared_length, foot, half_side, reach}

-- ---- over plain variables: v leads from lo to the point and u from lo to hi, and m and n are weights of the ends

-- the squares of v, of u, and of v less twice u; the scalar and the vector product
abbrev A : Term
A = Var 0 ⊗ Var 0 ⊕ Var 1 ⊗ Var 1

abbrev L : Term
L = Var 2 ⊗ Var 2 ⊕ Var 3 ⊗ Var 3

abbrev B : Term
B = (Var 0 ⊖ Lit (pos 2) ⊗ Var 2) ⊗ (Var 0 ⊖ Lit (pos 2) ⊗ Var 2) ⊕ (Var 1 ⊖ Lit (pos 2) ⊗ Var 3) ⊗ (Var 1 ⊖ Lit (pos 2) ⊗ Var 3)

abbrev F : Term
F = Var 2 ⊗ Var 0 ⊕ Var 3 ⊗ Var 1

abbrev X : Term
X = Var 2 ⊗ Var 1 ⊖ Var 3 ⊗ Var 0

-- the sum of the weights, and what is from the mean to the point, times it
abbrev K : Term
K = Var 4 ⊕ Var 5

abbrev GX : Term
GX = K ⊗ Var 0 ⊖ Lit (pos 2) ⊗ (Var 5 ⊗ Var 2)

abbrev GY : Term
GY = K ⊗ Var 1 ⊖ Lit (pos 2) ⊗ (Var 5 ⊗ Var 3)

abbrev E : Term
E = GX ⊗ GX ⊕ GY ⊗ GY

module _ (vx vy ux uy m n : ℤ) where
  abbrev names : List ℤ
  names = vx ∷ vy ∷ ux ∷ uy ∷ m ∷ n ∷ []

  abbrev v2 : ℤ
  v2 = (vx *ℤ vx) +ℤ (vy *ℤ vy)

  abbrev u2 : ℤ
  u2 = (ux *ℤ ux) +ℤ (uy *ℤ uy)

  abbrev h2 : ℤ
  h2 = ((vx -ℤ (pos 2 *ℤ ux)) *ℤ (vx -ℤ (pos 2 *ℤ ux))) +ℤ ((vy -ℤ (pos 2 *ℤ uy)) *ℤ (vy -ℤ (pos 2 *ℤ uy)))

  abbrev along : ℤ
  along = (ux *ℤ vx) +ℤ (uy *ℤ vy)

  abbrev across : ℤ
  across = (ux *ℤ vy) -ℤ (uy *ℤ vx)

  abbrev k : ℤ
  k = m +ℤ n

  abbrev gx : ℤ
  gx = (k *ℤ vx) -ℤ (pos 2 *ℤ (n *ℤ ux))

  abbrev gy : ℤ
  gy = (k *ℤ vy) -ℤ (pos 2 *ℤ (n *ℤ uy))

  abbrev to_mean : ℤ
  to_mean = (gx *ℤ gx) +ℤ (gy *ℤ gy)

  module _ (m_not_negative : pos 0 ≤ℤ m) (n_not_negative : pos 0 ≤ℤ n) where
    lo_nearest : along ≤ℤ pos 0 → ((k *ℤ k) *ℤ v2) ≤ℤ to_mean
    lo_nearest before =
        let is : to_mean ≡ ((k *ℤ k) *ℤ v2) +ℤ (pos 4 *ℤ (((k *ℤ n) *ℤ neg_ℤ along) +ℤ ((n *ℤ n) *ℤ u2))) =
        by_ring names E ((K ⊗ K) ⊗ A ⊕ Lit (pos 4) ⊗ ((K ⊗ Var 5) ⊗ Neg F ⊕ (Var 5 ⊗ Var 5) ⊗ L)) refl in
        let sum : pos 0 ≤ℤ k = omega (arith, lin) in
        let first = nonneg_times_nonneg {x = k *ℤ n} {y = neg_ℤ along} (nonneg_times_nonneg sum n_not_negative) (omega (arith, lin)) in
        let square = square_nonneg ux in
        let square2 = square_nonneg uy in
        let second = nonneg_times_nonneg {x = n *ℤ n} {y = u2} (square_nonneg n) (omega (arith, lin)) in
        let both = nonneg_times_nonneg {x = pos 4} {y = ((k *ℤ n) *ℤ neg_ℤ along) +ℤ ((n *ℤ n) *ℤ u2)} (pos_nonneg 4) (omega (arith, lin)) in
        omega (arith, lin)

    hi_nearest : (pos 2 *ℤ u2) ≤ℤ along → ((k *ℤ k) *ℤ h2) ≤ℤ to_mean
    hi_nearest past =
        let is : to_mean ≡ ((k *ℤ k) *ℤ h2) +ℤ (pos 4 *ℤ (((m *ℤ k) *ℤ (along -ℤ (pos 2 *ℤ u2))) +ℤ ((m *ℤ m) *ℤ u2))) =
        by_ring names E ((K ⊗ K) ⊗ B ⊕ Lit (pos 4) ⊗ ((Var 4 ⊗ K) ⊗ (F ⊖ Lit (pos 2) ⊗ L) ⊕ (Var 4 ⊗ Var 4) ⊗ L)) refl in
        let sum : pos 0 ≤ℤ k = omega (arith, lin) in
        let first = nonneg_times_nonneg {x = m *ℤ k} {y = along -ℤ (pos 2 *ℤ u2)} (nonneg_times_nonneg m_not_negative sum) (omega (arith, lin)) in
        let square = square_nonneg ux in
        let square2 = square_nonneg uy in
        let second = nonneg_times_nonneg {x = m *ℤ m} {y = u2} (square_nonneg m) (omega (arith, lin)) in
        let both = nonneg_times_nonneg {x = pos 4} {y = ((m *ℤ k) *ℤ (along -ℤ (pos 2 *ℤ u2))) +ℤ ((m *ℤ m) *ℤ u2)} (pos_nonneg 4) (omega (arith, lin)) in
        omega (arith, lin)

  line_nearest : ((k *ℤ k) *ℤ (across *ℤ across)) ≤ℤ (u2 *ℤ to_mean)
  line_nearest =
      let is : u2 *ℤ to_mean ≡ ((k *ℤ k) *ℤ (across *ℤ across)) +ℤ (((k *ℤ along) -ℤ (pos 2 *ℤ (n *ℤ u2))) *ℤ ((k *ℤ along) -ℤ (pos 2 *ℤ (n *ℤ u2)))) =
      by_ring names (L ⊗ E) ((K ⊗ K) ⊗ (X ⊗ X) ⊕ (K ⊗ F ⊖ Lit (pos 2) ⊗ (Var 5 ⊗ L)) ⊗ (K ⊗ F ⊖ Lit (pos 2) ⊗ (Var 5 ⊗ L))) refl in
      let square = square_nonneg ((k *ℤ along) -ℤ (pos 2 *ℤ (n *ℤ u2))) in
      omega (arith, lin)

-- from the foot to the point in one coordinate, times twice the square of u
abbrev from_foot : (vx vy ux uy v u : ℤ) → ℤ
from_foot vx vy ux uy v u = (v *ℤ (pos 2 *ℤ ((ux *ℤ ux) +ℤ (uy *ℤ uy)))) -ℤ (pos 2 *ℤ (((ux *ℤ vx) +ℤ (uy *ℤ vy)) *ℤ u))

-- the distance of the foot
foot_distance : (vx vy ux uy : ℤ) → (from_foot vx vy ux uy vx ux *ℤ from_foot vx vy ux uy vx ux) +ℤ (from_foot vx vy ux uy vy uy *ℤ from_foot vx vy ux uy vy uy)
    ≡ (pos 4 *ℤ ((ux *ℤ ux) +ℤ (uy *ℤ uy))) *ℤ (((ux *ℤ vy) -ℤ (uy *ℤ vx)) *ℤ ((ux *ℤ vy) -ℤ (uy *ℤ vx)))
foot_distance vx vy ux uy =
    by_ring (vx ∷ vy ∷ ux ∷ uy ∷ [])
    ((Var 0 ⊗ (Lit (pos 2) ⊗ L) ⊖ Lit (pos 2) ⊗ (F ⊗ Var 2)) ⊗ (Var 0 ⊗ (Lit (pos 2) ⊗ L) ⊖ Lit (pos 2) ⊗ (F ⊗ Var 2))
    ⊕ (Var 1 ⊗ (Lit (pos 2) ⊗ L) ⊖ Lit (pos 2) ⊗ (F ⊗ Var 3)) ⊗ (Var 1 ⊗ (Lit (pos 2) ⊗ L) ⊖ Lit (pos 2) ⊗ (F ⊗ Var 3)))
    ((Lit (pos 4) ⊗ L) ⊗ (X ⊗ X)) refl

-- from the point to the mean, in one coordinate: r/d is the mean of lo and hi
gap_is : (c lo hi r d m n : ℤ) → r *ℤ (m +ℤ n) ≡ d *ℤ ((m *ℤ lo) +ℤ (n *ℤ hi))
    → (m +ℤ n) *ℤ ((c *ℤ d) -ℤ (pos 2 *ℤ r)) ≡ d *ℤ (((m +ℤ n) *ℤ (c -ℤ (pos 2 *ℤ lo))) -ℤ (pos 2 *ℤ (n *ℤ (hi -ℤ lo))))
gap_is c lo hi r d m n mean =
    by_one (c ∷ lo ∷ hi ∷ r ∷ d ∷ m ∷ n ∷ [])
    ((Var 5 ⊕ Var 6) ⊗ (Var 0 ⊗ Var 4 ⊖ Lit (pos 2) ⊗ Var 3)) (Var 4 ⊗ ((Var 5 ⊕ Var 6) ⊗ (Var 0 ⊖ Lit (pos 2) ⊗ Var 1) ⊖ Lit (pos 2) ⊗ (Var 6 ⊗ (Var 2 ⊖ Var 1))))
    (Neg (Lit (pos 2))) (Var 3 ⊗ (Var 5 ⊕ Var 6)) (Var 4 ⊗ (Var 5 ⊗ Var 1 ⊕ Var 6 ⊗ Var 2)) refl mean

pub squares_are : (k t a b f g : ℤ) → k *ℤ a ≡ t *ℤ f → k *ℤ b ≡ t *ℤ g → (k *ℤ k) *ℤ ((a *ℤ a) +ℤ (b *ℤ b)) ≡ (t *ℤ t) *ℤ ((f *ℤ f) +ℤ (g *ℤ g))
squares_are k t a b f g h i =
    by_two (k ∷ t ∷ a ∷ b ∷ f ∷ g ∷ [])
    ((Var 0 ⊗ Var 0) ⊗ (Var 2 ⊗ Var 2 ⊕ Var 3 ⊗ Var 3)) ((Var 1 ⊗ Var 1) ⊗ (Var 4 ⊗ Var 4 ⊕ Var 5 ⊗ Var 5))
    (Var 0 ⊗ Var 2 ⊕ Var 1 ⊗ Var 4) (Var 0 ⊗ Var 2) (Var 1 ⊗ Var 4)
    (Var 0 ⊗ Var 3 ⊕ Var 1 ⊗ Var 5) (Var 0 ⊗ Var 3) (Var 1 ⊗ Var 5) refl h i

-- w is not past the distance of each point, x, where it is not past that of the mean, y, times the square of the weights' sum
room_by_mean : (w k d x y : ℤ) → pos 0 <ℤ k → (k *ℤ k) *ℤ x ≡ (d *ℤ d) *ℤ y → ((k *ℤ k) *ℤ w) ≤ℤ y → (w *ℤ (d *ℤ d)) ≤ℤ x
room_by_mean w k d x y positive same room =
    let times = mul_le (d *ℤ d) (square_nonneg d) room in
    let is : (d *ℤ d) *ℤ ((k *ℤ k) *ℤ w) ≡ (k *ℤ k) *ℤ (w *ℤ (d *ℤ d)) = by_ring (w ∷ k ∷ d ∷ []) ((Var 2 ⊗ Var 2) ⊗ ((Var 1 ⊗ Var 1) ⊗ Var 0)) ((Var 1 ⊗ Var 1) ⊗ (Var 0 ⊗ (Var 2 ⊗ Var 2))) refl in
    cancel_le (k *ℤ k) (w *ℤ (d *ℤ d)) x (positive_times_positive positive positive) (omega (arith, lin))

-- ---- a point of the half grid and an edge

module _ (c : Coord) (w : ℕ) (e : Seg) where
  abbrev vx : ℤ
  vx = c.x -ℤ (pos 2 *ℤ e.lo.x)

  abbrev vy : ℤ
  vy = c.y -ℤ (pos 2 *ℤ e.lo.y)

  abbrev ux : ℤ
  ux = e.hi.x -ℤ e.lo.x

  abbrev uy : ℤ
  uy = e.hi.y -ℤ e.lo.y

  abbrev W : ℤ
  W = pos (w * w)

  -- from a bound at each mean to each point of the edge
  abbrev AtMeans : Type 0
  AtMeans = (m n : ℤ) → pos 0 ≤ℤ m → pos 0 ≤ℤ n → (((m +ℤ n) *ℤ (m +ℤ n)) *ℤ W) ≤ℤ to_mean vx vy ux uy m n

  room_of_means : AtMeans → HasHalfRoom c w e
  unfolding half_distance
  room_of_means means r on =
      let m = pos on.first in
      let n = pos on.second in
      let total : pos (on.first * 1 + on.second * 1) ≡ m +ℤ n = pos_add (on.first * 1) (on.second * 1) ∙ ap (λ i. pos i +ℤ pos (on.second * 1)) (times_one on.first) ∙ ap (λ i. m +ℤ pos i) (times_one on.second) in
      let x : r.x *ℤ (m +ℤ n) ≡ pos r.d *ℤ ((m *ℤ e.lo.x) +ℤ (n *ℤ e.hi.x)) = ap (λ z. r.x *ℤ z) (sym total) ∙ on.x in
      let y : r.y *ℤ (m +ℤ n) ≡ pos r.d *ℤ ((m *ℤ e.lo.y) +ℤ (n *ℤ e.hi.y)) = ap (λ z. r.y *ℤ z) (sym total) ∙ on.y in
      let some : pos 0 <ℤ (m +ℤ n) = (let weighted = on.weighted in omega (arith, lin)) in
      let room = room_by_mean W (m +ℤ n) (pos r.d) (half_distance c r) (to_mean vx vy ux uy m n) some
      (squares_are (m +ℤ n) (pos r.d) ((c.x *ℤ pos r.d) -ℤ (pos 2 *ℤ r.x)) ((c.y *ℤ pos r.d) -ℤ (pos 2 *ℤ r.y)) (gx vx vy ux uy m n) (gy vx vy ux uy m n)
      (gap_is c.x e.lo.x e.hi.x r.x (pos r.d) m n x) (gap_is c.y e.lo.y e.hi.y r.y (pos r.d) m n y))
      (means m n (pos_nonneg on.first) (pos_nonneg on.second)) in
      subst (λ z. (W *ℤ z) ≤ℤ half_distance c r) (sym (pos_mul r.d r.d)) room
    where
      times_one : (a : ℕ) → a * 1 ≡ a
      times_one a = omega arith

  -- from a bound that is not past the point to each mean
  room_at : (x : ℤ) → W ≤ℤ x → ((m n : ℤ) → pos 0 ≤ℤ m → pos 0 ≤ℤ n → (((m +ℤ n) *ℤ (m +ℤ n)) *ℤ x) ≤ℤ to_mean vx vy ux uy m n) → HasHalfRoom c w e
  room_at x room near = room_of_means (λ m n a b. le_trans (mul_le ((m +ℤ n) *ℤ (m +ℤ n)) (square_nonneg (m +ℤ n)) room) (near m n a b))

  at_end : (a : Coord) → half_distance c (at_coord a) ≡ squared_to c a
  unfolding half_distance squared_to
  at_end a =
      by_ring (c.x ∷ c.y ∷ a.x ∷ a.y ∷ [])
      ((Var 0 ⊗ Lit (pos 1) ⊖ Lit (pos 2) ⊗ Var 2) ⊗ (Var 0 ⊗ Lit (pos 1) ⊖ Lit (pos 2) ⊗ Var 2) ⊕ (Var 1 ⊗ Lit (pos 1) ⊖ Lit (pos 2) ⊗ Var 3) ⊗ (Var 1 ⊗ Lit (pos 1) ⊖ Lit (pos 2) ⊗ Var 3))
      ((Var 0 ⊖ Lit (pos 2) ⊗ Var 2) ⊗ (Var 0 ⊖ Lit (pos 2) ⊗ Var 2) ⊕ (Var 1 ⊖ Lit (pos 2) ⊗ Var 3) ⊗ (Var 1 ⊖ Lit (pos 2) ⊗ Var 3)) refl

  end_room : (a : Coord) → IsOn e (at_coord a) → HasHalfRoom c w e → W ≤ℤ squared_to c a
  end_room a on room =
      let at = subst (λ z. (W *ℤ pos 1) ≤ℤ z) (at_end a) (room (at_coord a) on) in
      let one : W *ℤ pos 1 ≡ W = by_ring (W ∷ []) (Var 0 ⊗ Lit (pos 1)) (Var 0) refl in
      omega (arith, lin)

  squared_nonneg : (a : Coord) → pos 0 ≤ℤ squared_to c a
  unfolding squared_to
  squared_nonneg a = let x = square_nonneg (c.x -ℤ (pos 2 *ℤ a.x)) in let y = square_nonneg (c.y -ℤ (pos 2 *ℤ a.y)) in omega (arith, lin)

  to_natural : (x : ℤ) → pos 0 ≤ℤ x → (W ≤ℤ x) ↔ (w * w ≤ unsigned_abs x)
  to_natural x h =
      let is = unsigned_abs_nonneg x h in
      (λ r. (pos_le (w * w) (unsigned_abs x)).0 (subst (λ z. W ≤ℤ z) (sym is) r), λ r. subst (λ z. W ≤ℤ z) is ((pos_le (w * w) (unsigned_abs x)).1 r))

  -- the foot is not past lo
  lo_is : foot c e ≤ℤ pos 0 → HasHalfRoom c w e ↔ (w * w ≤ unsigned_abs (squared_to c e.lo))
  unfolding foot squared_to
  lo_is before =
      let is = to_natural (squared_to c e.lo) (squared_nonneg e.lo) in (
        λ room. is.0 (end_room e.lo (first_between (at_coord e.lo) (at_coord e.hi)) room),
        λ r. room_at (squared_to c e.lo) (is.1 r) (λ m n a b. lo_nearest vx vy ux uy m n a b before),
      )

  hi_square : squared_to c e.hi ≡ h2 vx vy ux uy (pos 0) (pos 0)
  unfolding squared_to
  hi_square =
      by_ring (c.x ∷ c.y ∷ e.lo.x ∷ e.lo.y ∷ e.hi.x ∷ e.hi.y ∷ [])
      ((Var 0 ⊖ Lit (pos 2) ⊗ Var 4) ⊗ (Var 0 ⊖ Lit (pos 2) ⊗ Var 4) ⊕ (Var 1 ⊖ Lit (pos 2) ⊗ Var 5) ⊗ (Var 1 ⊖ Lit (pos 2) ⊗ Var 5))
      ((Var 0 ⊖ Lit (pos 2) ⊗ Var 2 ⊖ Lit (pos 2) ⊗ (Var 4 ⊖ Var 2)) ⊗ (Var 0 ⊖ Lit (pos 2) ⊗ Var 2 ⊖ Lit (pos 2) ⊗ (Var 4 ⊖ Var 2))
      ⊕ (Var 1 ⊖ Lit (pos 2) ⊗ Var 3 ⊖ Lit (pos 2) ⊗ (Var 5 ⊖ Var 3)) ⊗ (Var 1 ⊖ Lit (pos 2) ⊗ Var 3 ⊖ Lit (pos 2) ⊗ (Var 5 ⊖ Var 3))) refl

  -- or past hi
  hi_is : (pos 2 *ℤ squared_length e) ≤ℤ foot c e → HasHalfRoom c w e ↔ (w * w ≤ unsigned_abs (squared_to c e.hi))
  unfolding foot squared_length
  hi_is past =
      let is = to_natural (squared_to c e.hi) (squared_nonneg e.hi) in (
        λ room. is.0 (end_room e.hi (second_between (at_coord e.lo) (at_coord e.hi)) room),
        λ r. room_at (h2 vx vy ux uy (pos 0) (pos 0)) (subst (λ z. W ≤ℤ z) hi_square (is.1 r)) (λ m n a b. hi_nearest vx vy ux uy m n a b past),
      )

  -- or between the two
  module _ (after : pos 0 <ℤ foot c e) (before : foot c e <ℤ (pos 2 *ℤ squared_length e)) where
    abbrev length : ℕ
    length = unsigned_abs (squared_length e)

    abbrev off : ℤ
    off = half_side c e *ℤ half_side c e

    long : pos 0 <ℤ squared_length e
    long = let two : pos 2 *ℤ squared_length e ≡ squared_length e +ℤ squared_length e = by_ring (squared_length e ∷ []) (Lit (pos 2) ⊗ Var 0) (Var 0 ⊕ Var 0) refl in omega (arith, lin)

    length_is : pos length ≡ squared_length e
    length_is = unsigned_abs_nonneg (squared_length e) (le_of_lt long)

    length_some : 0 < length
    length_some = let is = length_is in let some = long in omega (arith, lin)

    -- the foot itself
    abbrev at_foot : Point
    at_foot = record {
      x = ((pos 2 *ℤ squared_length e) *ℤ e.lo.x) +ℤ (foot c e *ℤ ux);
      y = ((pos 2 *ℤ squared_length e) *ℤ e.lo.y) +ℤ (foot c e *ℤ uy);
      d = 2 * length;
      positive = (let some = length_some in omega arith);
    }

    foot_d : pos (2 * length) ≡ pos 2 *ℤ squared_length e
    foot_d = pos_mul 2 length ∙ ap (λ z. pos 2 *ℤ z) length_is

    mean_is : (l f a b : ℤ) → pos 1 *ℤ (((pos 2 *ℤ l) *ℤ a) +ℤ (f *ℤ (b -ℤ a))) ≡ (((pos 2 *ℤ l) -ℤ f) *ℤ a) +ℤ (f *ℤ b)
    mean_is l f a b =
        by_ring (l ∷ f ∷ a ∷ b ∷ [])
        (Lit (pos 1) ⊗ ((Lit (pos 2) ⊗ Var 0) ⊗ Var 2 ⊕ Var 1 ⊗ (Var 3 ⊖ Var 2))) ((Lit (pos 2) ⊗ Var 0 ⊖ Var 1) ⊗ Var 2 ⊕ Var 1 ⊗ Var 3) refl

    d_is : (d l f : ℤ) → d ≡ pos 2 *ℤ l → pos 1 *ℤ d ≡ (((pos 2 *ℤ l) -ℤ f) *ℤ pos 1) +ℤ (f *ℤ pos 1)
    d_is d l f h =
        by_one (d ∷ l ∷ f ∷ []) (Lit (pos 1) ⊗ Var 0) ((Lit (pos 2) ⊗ Var 1 ⊖ Var 2) ⊗ Lit (pos 1) ⊕ Var 2 ⊗ Lit (pos 1)) (Lit (pos 1)) (Var 0) (Lit (pos 2) ⊗ Var 1) refl h

    on_foot : IsOn e at_foot
    on_foot =
        between_by at_foot (at_coord e.lo) (at_coord e.hi) (pos 1) ((pos 2 *ℤ squared_length e) -ℤ foot c e) (foot c e)
        (omega (arith, lin)) (omega (arith, lin)) (omega (arith, lin))
        (mean_is (squared_length e) (foot c e) e.lo.x e.hi.x) (mean_is (squared_length e) (foot c e) e.lo.y e.hi.y) (d_is (pos (2 * length)) (squared_length e) (foot c e) foot_d)

    -- in one coordinate
    foot_gap : (c lo u l f d : ℤ) → d ≡ pos 2 *ℤ l → (c *ℤ d) -ℤ (pos 2 *ℤ (((pos 2 *ℤ l) *ℤ lo) +ℤ (f *ℤ u))) ≡ ((c -ℤ (pos 2 *ℤ lo)) *ℤ (pos 2 *ℤ l)) -ℤ (pos 2 *ℤ (f *ℤ u))
    foot_gap c lo u l f d h =
        by_one (c ∷ lo ∷ u ∷ l ∷ f ∷ d ∷ [])
        (Var 0 ⊗ Var 5 ⊖ Lit (pos 2) ⊗ ((Lit (pos 2) ⊗ Var 3) ⊗ Var 1 ⊕ Var 4 ⊗ Var 2)) ((Var 0 ⊖ Lit (pos 2) ⊗ Var 1) ⊗ (Lit (pos 2) ⊗ Var 3) ⊖ Lit (pos 2) ⊗ (Var 4 ⊗ Var 2))
        (Var 0) (Var 5) (Lit (pos 2) ⊗ Var 3) refl h

    at_foot_is : half_distance c at_foot ≡ (pos 4 *ℤ squared_length e) *ℤ off
    unfolding half_distance foot squared_length half_side
    at_foot_is =
        (λ i. let a = foot_gap c.x e.lo.x ux (squared_length e) (foot c e) (pos (2 * length)) foot_d i in let b = foot_gap c.y e.lo.y uy (squared_length e) (foot c e) (pos (2 * length)) foot_d i in (a *ℤ a) +ℤ (b *ℤ b))
        ∙ foot_distance vx vy ux uy

    scaled : (w d l x : ℤ) → pos 0 <ℤ l → d ≡ pos 2 *ℤ l → (w *ℤ (d *ℤ d)) ≤ℤ ((pos 4 *ℤ l) *ℤ x) → (w *ℤ l) ≤ℤ x
    scaled w d l x some h room =
        let is : w *ℤ (d *ℤ d) ≡ (pos 4 *ℤ l) *ℤ (w *ℤ l) =
        ap (λ z. w *ℤ (z *ℤ z)) h ∙ by_ring (w ∷ l ∷ []) (Var 0 ⊗ ((Lit (pos 2) ⊗ Var 1) ⊗ (Lit (pos 2) ⊗ Var 1))) ((Lit (pos 4) ⊗ Var 1) ⊗ (Var 0 ⊗ Var 1)) refl in
        cancel_le (pos 4 *ℤ l) (w *ℤ l) x (positive_times_positive {x = pos 4} {y = l} (record { lt = tt }) some) (omega (arith, lin))

    line_room : HasHalfRoom c w e → (W *ℤ squared_length e) ≤ℤ off
    line_room room =
        let at = subst (λ z. (W *ℤ z) ≤ℤ half_distance c at_foot) (pos_mul (2 * length) (2 * length)) (room at_foot on_foot) in
        scaled W (pos (2 * length)) (squared_length e) off long foot_d (subst (λ z. (W *ℤ (pos (2 * length) *ℤ pos (2 * length))) ≤ℤ z) at_foot_is at)

    line_means : (W *ℤ squared_length e) ≤ℤ off → AtMeans
    unfolding squared_length half_side
    line_means room m n a b =
        let square = (m +ℤ n) *ℤ (m +ℤ n) in
        let times = mul_le square (square_nonneg (m +ℤ n)) room in
        let near = line_nearest vx vy ux uy m n in
        let is : square *ℤ (W *ℤ squared_length e) ≡ squared_length e *ℤ (square *ℤ W) =
        by_ring (square ∷ W ∷ squared_length e ∷ []) (Var 0 ⊗ (Var 1 ⊗ Var 2)) (Var 2 ⊗ (Var 0 ⊗ Var 1)) refl in
        cancel_le (squared_length e) (square *ℤ W) (to_mean vx vy ux uy m n) long (subst (λ z. z ≤ℤ (squared_length e *ℤ to_mean vx vy ux uy m n)) is (le_trans times near))

    divided : ((W *ℤ squared_length e) ≤ℤ off) ↔ (w * w ≤ unsigned_abs off / length)
    divided =
        let off_is = unsigned_abs_nonneg off (square_nonneg (half_side c e)) in
        let by = le-div_iff_mul-le {k = length} {x = w * w} {y = unsigned_abs off} length_some in
        let product : pos (w * w * length) ≡ W *ℤ squared_length e = pos_mul (w * w) length ∙ ap (λ z. W *ℤ z) length_is in
        let le = pos_le (w * w * length) (unsigned_abs off) in (
          λ r. by.1 (le.0 (subst (λ z. z ≤ℤ pos (unsigned_abs off)) (sym product) (subst (λ z. (W *ℤ squared_length e) ≤ℤ z) (sym off_is) r))),
          λ r. subst (λ z. z ≤ℤ off) product (subst (λ z. pos (w * w * length) ≤ℤ z) off_is (le.1 (by.0 r))),
        )

    line_is : HasHalfRoom c w e ↔ (w * w ≤ unsigned_abs off / length)
    line_is = (λ room. divided.0 (line_room room), λ r. room_of_means (line_means (divided.1 r)))

  pub reach_is : HasHalfRoom c w e ↔ (w * w ≤ reach c e)
  reach_is = by (int_le (foot c e) (pos 0)) refl (int_le (pos 2 *ℤ squared_length e) (foot c e)) refl
    where
      by : (b : Bool) → int_le (foot c e) (pos 0) ≡ b → (t : Bool) → int_le (pos 2 *ℤ squared_length e) (foot c e) ≡ t
          → HasHalfRoom c w e ↔ (w * w ≤ cond b (unsigned_abs (squared_to c e.lo)) (cond t (unsigned_abs (squared_to c e.hi)) (unsigned_abs (half_side c e *ℤ half_side c e) / unsigned_abs (squared_length e))))
      by true lo t hi = lo_is ((int_le_is (foot c e) (pos 0)).0 lo)
      by false lo true hi = hi_is ((int_le_is (pos 2 *ℤ squared_length e) (foot c e)).0 hi)
      by false lo false hi = line_is ((int_le_false (foot c e) (pos 0)).0 lo) ((int_le_false (pos 2 *ℤ squared_length e) (foot c e)).0 hi)

-- ---- grid points

doubled_distance : (q : Coord) (r : Point) → pos 4 *ℤ squared_distance q r ≡ half_distance (doubled q) r
unfolding squared_distance half_distance
doubled_distance q r =
    by_ring (q.x ∷ q.y ∷ r.x ∷ r.y ∷ pos r.d ∷ [])
    (Lit (pos 4) ⊗ ((Var 0 ⊗ Var 4 ⊖ Var 2) ⊗ (Var 0 ⊗ Var 4 ⊖ Var 2) ⊕ (Var 1 ⊗ Var 4 ⊖ Var 3) ⊗ (Var 1 ⊗ Var 4 ⊖ Var 3)))
    (((Lit (pos 2) ⊗ Var 0) ⊗ Var 4 ⊖ Lit (pos 2) ⊗ Var 2) ⊗ ((Lit (pos 2) ⊗ Var 0) ⊗ Var 4 ⊖ Lit (pos 2) ⊗ Var 2)
    ⊕ ((Lit (pos 2) ⊗ Var 1) ⊗ Var 4 ⊖ Lit (pos 2) ⊗ Var 3) ⊗ ((Lit (pos 2) ⊗ Var 1) ⊗ Var 4 ⊖ Lit (pos 2) ⊗ Var 3)) refl

pub doubled_room : (q : Coord) (w : ℕ) (e : Seg) → HasRoom q w e ↔ HasHalfRoom (doubled q) w e
doubled_room q w e = (
  λ room r on. subst (λ z. (pos (w * w) *ℤ pos (r.d * r.d)) ≤ℤ z) (doubled_distance q r) (room r on),
  λ room r on. subst (λ z. (pos (w * w) *ℤ pos (r.d * r.d)) ≤ℤ z) (sym (doubled_distance q r)) (room r on),
)
