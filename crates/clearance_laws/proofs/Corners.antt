-- What is true at the corners of a block by a linear form is true at each of its points.
use mathlib.Core.List.{[], ◌∷◌}
use borrow.Author.Differences.{product_is}
use Rattle.std.proofs.Common.{◌≡◌, refl, ◌∙◌, ℤ, pos, neg_ℤ, ◌+ℤ◌, ◌-ℤ◌, ◌*ℤ◌, ◌≤ℤ◌, ◌<ℤ◌, ◌⊎◌, inl, inr, arith}
use Rattle.cov_types.specs.declared.coord.Coord.{Coord}
use Rattle.cov_types.specs.declared.seg.Seg.{Seg}
use Rattle.integer_laws.proofs.Compare.{le_or_gt, le_of_lt}
use Rattle.integer_laws.proofs.Order.{mul_le, mul_le_turned}
use Rattle.integer_laws.proofs.Ring.{lin, by_ring, Term, Var, Lit, ◌⊕◌, ◌⊖◌, ◌⊗◌, Neg}
use Rattle.plane.specs.Length.{edge_length}
use Rattle.distance_laws.specs.Room.{foot, half_side, squared_length}
use Rattle.clearance_laws.specs.Block.{IsInBlock, AtCorners, corner}
use Rattle.clearance_laws.specs.Facing.{IsBeside, IsShallow, AreFacing, depth, both}

-- a linear form
abbrev linear : ℤ → ℤ → ℤ → Coord → ℤ
linear a b d c = ((a *ℤ c.x) +ℤ (b *ℤ c.y)) +ℤ d

-- in one coordinate one of the two ends makes it no greater
least_end : (a l h x : ℤ) → (pos 2 *ℤ l) ≤ℤ x → x ≤ℤ (pos 2 *ℤ h) → ((a *ℤ (pos 2 *ℤ l)) ≤ℤ (a *ℤ x)) ⊎ ((a *ℤ (pos 2 *ℤ h)) ≤ℤ (a *ℤ x))
least_end a l h x from to = elim (le_or_gt a (pos 0)) [
  | inl down ↦ inr (mul_le_turned a down to)
  | inr up ↦ inl (mul_le a (le_of_lt up) from)
]

linear_positive : (a b d : ℤ) (lo hi q : Coord) → IsInBlock lo hi q → AtCorners lo hi (λ c. pos 0 <ℤ linear a b d c) → pos 0 <ℤ linear a b d q
linear_positive a b d lo hi q is at =
    let ll = at.low_left in
    let lr = at.low_right in
    let hl = at.high_left in
    let hr = at.high_right in
    elim (least_end a lo.x hi.x q.x is.left is.right) [
      | inl left ↦ elim (least_end b lo.y hi.y q.y is.bottom is.top) [
        | inl low ↦ omega (arith, lin)
        | inr high ↦ omega (arith, lin)
      ]
      | inr right ↦ elim (least_end b lo.y hi.y q.y is.bottom is.top) [
        | inl low ↦ omega (arith, lin)
        | inr high ↦ omega (arith, lin)
      ]
    ]

pub at_each : (lo hi : Coord) (P Q : Coord → Type 0) → ((c : Coord) → P c → Q c) → AtCorners lo hi P → AtCorners lo hi Q
at_each lo hi P Q step at = record {
  low_left = step (corner lo.x lo.y) at.low_left;
  low_right = step (corner hi.x lo.y) at.low_right;
  high_left = step (corner lo.x hi.y) at.high_left;
  high_right = step (corner hi.x hi.y) at.high_right;
}

-- over variables: the ends of two edges, c, and three numbers
abbrev U : Term
U = Var 2 ⊖ Var 0

abbrev V : Term
V = Var 3 ⊖ Var 1

abbrev S : Term
S = Var 6 ⊖ Var 4

abbrev T : Term
T = Var 7 ⊖ Var 5

module _ (lo hi q : Coord) (is : IsInBlock lo hi q) where
  -- a number that is a linear form at each point
  form_positive : (f : Coord → ℤ) (a b d : ℤ) → ((c : Coord) → f c ≡ linear a b d c) → AtCorners lo hi (λ c. pos 0 <ℤ f c) → pos 0 <ℤ f q
  form_positive f a b d same at =
      let there = linear_positive a b d lo hi q is (at_each lo hi (λ c. pos 0 <ℤ f c) (λ c. pos 0 <ℤ linear a b d c) (λ c h. (let s = same c in omega (arith, lin))) at) in
      let s = same q in
      omega (arith, lin)

  -- feet
  foot_form : (e : Seg) (x z : ℤ) (c : Coord) → (x *ℤ foot c e) +ℤ z
      ≡ linear (x *ℤ (e.hi.x -ℤ e.lo.x)) (x *ℤ (e.hi.y -ℤ e.lo.y)) (z -ℤ (x *ℤ (((e.hi.x -ℤ e.lo.x) *ℤ (pos 2 *ℤ e.lo.x)) +ℤ ((e.hi.y -ℤ e.lo.y) *ℤ (pos 2 *ℤ e.lo.y))))) c
  unfolding foot
  foot_form e x z c =
      by_ring (e.lo.x ∷ e.lo.y ∷ e.hi.x ∷ e.hi.y ∷ c.x ∷ c.y ∷ x ∷ z ∷ [])
      (Var 6 ⊗ (U ⊗ (Var 4 ⊖ Lit (pos 2) ⊗ Var 0) ⊕ V ⊗ (Var 5 ⊖ Lit (pos 2) ⊗ Var 1)) ⊕ Var 7)
      (((Var 6 ⊗ U) ⊗ Var 4 ⊕ (Var 6 ⊗ V) ⊗ Var 5) ⊕ (Var 7 ⊖ Var 6 ⊗ (U ⊗ (Lit (pos 2) ⊗ Var 0) ⊕ V ⊗ (Lit (pos 2) ⊗ Var 1)))) refl

  pub beside_within : (e : Seg) → AtCorners lo hi (λ c. IsBeside c e) → IsBeside q e
  beside_within e at =
      let first = form_positive (λ c. (pos 1 *ℤ foot c e) +ℤ pos 0) _ _ _ (foot_form e (pos 1) (pos 0)) (at_each lo hi (λ c. IsBeside c e) (λ c. pos 0 <ℤ ((pos 1 *ℤ foot c e) +ℤ pos 0)) (λ c b. (let h = b.after_lo in omega (arith, lin, product_is (pos 1) (foot c e)))) at) in
      let last = form_positive (λ c. (neg_ℤ (pos 1) *ℤ foot c e) +ℤ (pos 2 *ℤ squared_length e)) _ _ _ (foot_form e (neg_ℤ (pos 1)) (pos 2 *ℤ squared_length e))
      (at_each lo hi (λ c. IsBeside c e) (λ c. pos 0 <ℤ ((neg_ℤ (pos 1) *ℤ foot c e) +ℤ (pos 2 *ℤ squared_length e))) (λ c b. (let h = b.before_hi in omega (arith, lin, product_is (neg_ℤ (pos 1)) (foot c e)))) at) in
      record { after_lo = omega (arith, lin, product_is (pos 1) (foot q e)); before_hi = omega (arith, lin, product_is (neg_ℤ (pos 1)) (foot q e)) }

  -- sides
  sides_form : (e f : Seg) (x y z : ℤ) (c : Coord) → ((x *ℤ half_side c e) +ℤ (y *ℤ half_side c f)) +ℤ z
      ≡ linear (neg_ℤ ((x *ℤ (e.hi.y -ℤ e.lo.y)) +ℤ (y *ℤ (f.hi.y -ℤ f.lo.y)))) ((x *ℤ (e.hi.x -ℤ e.lo.x)) +ℤ (y *ℤ (f.hi.x -ℤ f.lo.x)))
      (z +ℤ ((x *ℤ (((e.hi.y -ℤ e.lo.y) *ℤ (pos 2 *ℤ e.lo.x)) -ℤ ((e.hi.x -ℤ e.lo.x) *ℤ (pos 2 *ℤ e.lo.y)))) +ℤ (y *ℤ (((f.hi.y -ℤ f.lo.y) *ℤ (pos 2 *ℤ f.lo.x)) -ℤ ((f.hi.x -ℤ f.lo.x) *ℤ (pos 2 *ℤ f.lo.y)))))) c
  unfolding half_side
  sides_form e f x y z c =
      by_ring (e.lo.x ∷ e.lo.y ∷ e.hi.x ∷ e.hi.y ∷ f.lo.x ∷ f.lo.y ∷ f.hi.x ∷ f.hi.y ∷ c.x ∷ c.y ∷ x ∷ y ∷ z ∷ [])
      ((Var 10 ⊗ (U ⊗ (Var 9 ⊖ Lit (pos 2) ⊗ Var 1) ⊖ V ⊗ (Var 8 ⊖ Lit (pos 2) ⊗ Var 0)) ⊕ Var 11 ⊗ (S ⊗ (Var 9 ⊖ Lit (pos 2) ⊗ Var 5) ⊖ T ⊗ (Var 8 ⊖ Lit (pos 2) ⊗ Var 4))) ⊕ Var 12)
      ((Neg (Var 10 ⊗ V ⊕ Var 11 ⊗ T) ⊗ Var 8 ⊕ (Var 10 ⊗ U ⊕ Var 11 ⊗ S) ⊗ Var 9)
      ⊕ (Var 12 ⊕ (Var 10 ⊗ (V ⊗ (Lit (pos 2) ⊗ Var 0) ⊖ U ⊗ (Lit (pos 2) ⊗ Var 1)) ⊕ Var 11 ⊗ (T ⊗ (Lit (pos 2) ⊗ Var 4) ⊖ S ⊗ (Lit (pos 2) ⊗ Var 5))))) refl

  -- a number that is made of the two sides
  sides_positive : (g : Coord → ℤ) (e f : Seg) (x y z : ℤ) → ((c : Coord) → g c ≡ ((x *ℤ half_side c e) +ℤ (y *ℤ half_side c f)) +ℤ z) → AtCorners lo hi (λ c. pos 0 <ℤ g c) → pos 0 <ℤ g q
  sides_positive g e f x y z same at = form_positive g _ _ _ (λ c. same c ∙ sides_form e f x y z c) at

  pub shallow_within : (k : ℤ) (e : Seg) (m : ℤ) → AtCorners lo hi (IsShallow k e m) → IsShallow k e m q
  shallow_within k e m at =
      let there = sides_positive (λ c. m -ℤ depth k c e) e e (neg_ℤ k) (pos 0) m
      (λ c. by_ring (k ∷ half_side c e ∷ m ∷ []) (Var 2 ⊖ Var 0 ⊗ Var 1) ((Neg (Var 0) ⊗ Var 1 ⊕ Lit (pos 0) ⊗ Var 1) ⊕ Var 2) refl)
      (at_each lo hi (IsShallow k e m) (λ c. pos 0 <ℤ (m -ℤ depth k c e)) (λ c h. (let s = h.shallow in omega (arith, lin))) at) in
      record {
        beside = beside_within e (at_each lo hi (IsShallow k e m) (λ c. IsBeside c e) (λ c h. h.beside) at);
        shallow = omega (arith, lin);
      }

  pub facing_within : (k : ℤ) (e : Seg) (m l : ℤ) (f : Seg) (n : ℤ) → AtCorners lo hi (AreFacing k e m l f n) → AreFacing k e m l f n q
  facing_within k e m l f n at =
      let x = pos (edge_length e) in
      let y = pos (edge_length f) in
      let most = both e f m n in
      let close = sides_positive (λ c. most -ℤ both e f (depth k c e) (depth l c f)) e f (neg_ℤ (y *ℤ k)) (neg_ℤ (x *ℤ l)) most
      (λ c. by_ring (k ∷ half_side c e ∷ l ∷ half_side c f ∷ x ∷ y ∷ most ∷ []) (Var 6 ⊖ (Var 5 ⊗ (Var 0 ⊗ Var 1) ⊕ Var 4 ⊗ (Var 2 ⊗ Var 3)))
      ((Neg (Var 5 ⊗ Var 0) ⊗ Var 1 ⊕ Neg (Var 4 ⊗ Var 2) ⊗ Var 3) ⊕ Var 6) refl)
      (at_each lo hi (AreFacing k e m l f n) (λ c. pos 0 <ℤ (most -ℤ both e f (depth k c e) (depth l c f))) (λ c h. (let s = h.close in omega (arith, lin))) at) in
      let first = sides_positive (λ c. both e f (depth k c e) (depth l c f) +ℤ depth l c f) e f (y *ℤ k) ((x *ℤ l) +ℤ l) (pos 0)
      (λ c. by_ring (k ∷ half_side c e ∷ l ∷ half_side c f ∷ x ∷ y ∷ []) ((Var 5 ⊗ (Var 0 ⊗ Var 1) ⊕ Var 4 ⊗ (Var 2 ⊗ Var 3)) ⊕ Var 2 ⊗ Var 3)
      (((Var 5 ⊗ Var 0) ⊗ Var 1 ⊕ (Var 4 ⊗ Var 2 ⊕ Var 2) ⊗ Var 3) ⊕ Lit (pos 0)) refl)
      (at_each lo hi (AreFacing k e m l f n) (λ c. pos 0 <ℤ (both e f (depth k c e) (depth l c f) +ℤ depth l c f)) (λ c h. h.over_first) at) in
      let second = sides_positive (λ c. both e f (depth k c e) (depth l c f) +ℤ depth k c e) e f ((y *ℤ k) +ℤ k) (x *ℤ l) (pos 0)
      (λ c. by_ring (k ∷ half_side c e ∷ l ∷ half_side c f ∷ x ∷ y ∷ []) ((Var 5 ⊗ (Var 0 ⊗ Var 1) ⊕ Var 4 ⊗ (Var 2 ⊗ Var 3)) ⊕ Var 0 ⊗ Var 1)
      (((Var 5 ⊗ Var 0 ⊕ Var 0) ⊗ Var 1 ⊕ (Var 4 ⊗ Var 2) ⊗ Var 3) ⊕ Lit (pos 0)) refl)
      (at_each lo hi (AreFacing k e m l f n) (λ c. pos 0 <ℤ (both e f (depth k c e) (depth l c f) +ℤ depth k c e)) (λ c h. h.over_second) at) in
      record {
        beside_first = beside_within e (at_each lo hi (AreFacing k e m l f n) (λ c. IsBeside c e) (λ c h. h.beside_first) at);
        beside_second = beside_within f (at_each lo hi (AreFacing k e m l f n) (λ c. IsBeside c f) (λ c h. h.beside_second) at);
        close = omega (arith, lin);
        over_first = first;
        over_second = second;
      }
