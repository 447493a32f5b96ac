-- No two chain edges cross properly: the pixel of their pieces' common point would be hot, and one of the centres of each.
use mathlib.Core.List.{List, [], ◌∷◌}
use Rattle.std.proofs.Common.{◌≡◌, ◌⊎◌, inl, inr, refl, sym, ◌∙◌, subst, ◌^◌, ℤ, pos, ◌+ℤ◌, ◌-ℤ◌, ◌*ℤ◌, arith}
use Rattle.std.specs.Prelude.{Contains}
use Rattle.integer_laws.proofs.Ring.{lin, by_ring, by_three, Term, Var, Lit, ◌⊕◌, ◌⊖◌, ◌⊗◌, Neg, mul_zero}
use Rattle.integer_laws.proofs.Compare.{lt_or_ge, le_of_lt, le_cases, lt_excludes_eq}
use Rattle.integer_laws.proofs.Order.{cancel_eq}
use Rattle.cov_types.specs.declared.coord.Coord.{Coord}
use Rattle.cov_types.specs.declared.seg.Seg.{Seg}
use Rattle.plane.specs.Point.{Point, at_coord}
use Rattle.plane.specs.Segment.{IsOn, IsEnd, turn_of, side}
use Rattle.plane.specs.Ray.{sweep, Rises}
use Rattle.plane.specs.Contact.{IsCommon, IsOnlyCommon}
use Rattle.plane.specs.Snapping.{IsInPixel, IsHot}
use Rattle.plane.proofs.Points.{same_point-sym, same_point-trans, same_point-or_not}
use Rattle.plane.proofs.Forms.{form, form_zero-between}
use Rattle.plane.proofs.Sides.{side_a, side_b, side_c, side-form, side-at_coord, side_zero-on, turn-same_ends, turn-same_last}
use Rattle.plane.proofs.Meeting.{AreOpposite, opposite_meet, left_apart, right_apart}
use Rattle.rounding_laws.proofs.Near.{pixel_of_point}
use Rattle.rounding_laws.proofs.Vectors.{before, ahead, turned}
use Rattle.rounding_laws.proofs.Passing.{between_on}
use Rattle.rounding_laws.proofs.Pieces.{IsPiece}
use Rattle.rounding_laws.proofs.Crossing.{x_move, CentresCross, TwoPieces, pieces_cross, common_of_pieces}

-- ---- the signs of the ends of t against s, where the two have a common point

pub opposite_from_common : (s t : Seg) (r : Point) → IsCommon s t r → AreOpposite (turn_of s.lo s.hi t.lo) (turn_of s.lo s.hi t.hi)
opposite_from_common s t r common =
    let lo = turn_of s.lo s.hi t.lo in
    let hi = turn_of s.lo s.hi t.hi in
    elim (lt_or_ge lo (pos 0)) [
      | inl lo_right ↦ elim (lt_or_ge hi (pos 0)) [
        | inl hi_right ↦ absurd (right_apart s t lo_right hi_right r common)
        | inr g ↦ inl (le_of_lt lo_right, g)
      ]
      | inr g ↦ elim (lt_or_ge (pos 0) hi) [
        | inl hi_left ↦ elim (le_cases g) [
          | inl lo_left ↦ absurd (left_apart s t lo_left hi_left r common)
          | inr level ↦ inl (omega (arith, lin), le_of_lt hi_left)
        ]
        | inr l ↦ inr (g, l)
      ]
    ]

-- ---- three points of a line have no turn

-- over plain variables: the form A, B, C is 0 at three vectors
pub three_on_line : (a b c k px py pd qx qy qd rx ry rd : ℤ)
    → ((a *ℤ px) +ℤ (b *ℤ py)) +ℤ (c *ℤ pd) ≡ pos 0 → ((a *ℤ qx) +ℤ (b *ℤ qy)) +ℤ (c *ℤ qd) ≡ pos 0 → ((a *ℤ rx) +ℤ (b *ℤ ry)) +ℤ (c *ℤ rd) ≡ pos 0
    → ((k *ℤ b) -ℤ a) *ℤ (((rx *ℤ ((pd *ℤ qy) -ℤ (py *ℤ qd))) -ℤ (qx *ℤ ((pd *ℤ ry) -ℤ (py *ℤ rd)))) -ℤ (px *ℤ ((rd *ℤ qy) -ℤ (ry *ℤ qd)))) ≡ pos 0
three_on_line a b c k px py pd qx qy qd rx ry rd hp hq hr =
    let at = λ (x y d : Term). (Var 0 ⊗ x ⊕ Var 1 ⊗ y) ⊕ Var 2 ⊗ d in
    let both = λ (x y d x' y' d' : Term). Var 3 ⊗ (d ⊗ x' ⊖ x ⊗ d') ⊕ (d ⊗ y' ⊖ y ⊗ d') in
    by_three (a ∷ b ∷ c ∷ k ∷ px ∷ py ∷ pd ∷ qx ∷ qy ∷ qd ∷ rx ∷ ry ∷ rd ∷ [])
    ((Var 3 ⊗ Var 1 ⊖ Var 0) ⊗ ((Var 10 ⊗ (Var 6 ⊗ Var 8 ⊖ Var 5 ⊗ Var 9) ⊖ Var 7 ⊗ (Var 6 ⊗ Var 11 ⊖ Var 5 ⊗ Var 12)) ⊖ Var 4 ⊗ (Var 12 ⊗ Var 8 ⊖ Var 11 ⊗ Var 9))) (Lit (pos 0))
    (both (Var 10) (Var 11) (Var 12) (Var 7) (Var 8) (Var 9)) (at (Var 4) (Var 5) (Var 6)) (Lit (pos 0))
    (both (Var 4) (Var 5) (Var 6) (Var 10) (Var 11) (Var 12)) (at (Var 7) (Var 8) (Var 9)) (Lit (pos 0))
    (Neg (both (Var 4) (Var 5) (Var 6) (Var 7) (Var 8) (Var 9))) (at (Var 10) (Var 11) (Var 12)) (Lit (pos 0)) refl hp hq hr

-- how much a segment rises, by the coefficients of its line
pub rise-line : (s : Seg) → (pos (2 ^ 30) *ℤ side_b s) -ℤ side_a s ≡ sweep (at_coord s.hi) -ℤ sweep (at_coord s.lo)
unfolding sweep
rise-line s =
    by_ring (pos (2 ^ 30) ∷ s.lo.x ∷ s.lo.y ∷ s.hi.x ∷ s.hi.y ∷ [])
    (Var 0 ⊗ (Var 3 ⊖ Var 1) ⊖ Neg (Var 4 ⊖ Var 2)) ((Var 0 ⊗ Var 3 ⊕ Var 4) ⊖ (Var 0 ⊗ Var 1 ⊕ Var 2)) refl

line_turn : (s : Seg) (p q r : Point) (a b c : Coord) (in_a : IsInPixel p a) (in_b : IsInPixel q b) (in_c : IsInPixel r c) → Rises s
    → side s p ≡ pos 0 → side s q ≡ pos 0 → side s r ≡ pos 0 → turned before (x_move p a in_a) (x_move q b in_b) (x_move r c in_c) ≡ pos 0
unfolding turned ahead form
line_turn s p q r a b c in_a in_b in_c rises on_p on_q on_r =
    let rise = rise-line s in
    cancel_eq ((pos (2 ^ 30) *ℤ side_b s) -ℤ side_a s) (turned before (x_move p a in_a) (x_move q b in_b) (x_move r c in_c)) (pos 0) (omega (arith, lin))
    (three_on_line (side_a s) (side_b s) (side_c s) (pos (2 ^ 30)) p.x p.y (pos p.d) q.x q.y (pos q.d) r.x r.y (pos r.d)
    (sym (side-form s p) ∙ on_p) (sym (side-form s q) ∙ on_q) (sym (side-form s r) ∙ on_r)
    ∙ sym (mul_zero ((pos (2 ^ 30) *ℤ side_b s) -ℤ side_a s)))

-- ---- the common point is the only one

-- where both ends of t are on the line of s, so is each point of t
on_line : (s t : Seg) (r : Point) → IsOn t r → turn_of s.lo s.hi t.lo ≡ pos 0 → turn_of s.lo s.hi t.hi ≡ pos 0 → side s r ≡ pos 0
on_line s t r on lo hi =
    side-form s r ∙ form_zero-between (side_a s) (side_b s) (side_c s) r (at_coord t.lo) (at_coord t.hi) on
    (sym (side-form s (at_coord t.lo)) ∙ side-at_coord s t.lo ∙ lo) (sym (side-form s (at_coord t.hi)) ∙ side-at_coord s t.hi ∙ hi)

equal_opposite : (x y : ℤ) → AreOpposite x y → x ≡ y → (x ≡ pos 0) × (y ≡ pos 0)
equal_opposite x y (inl h) e = (omega (arith, lin), omega (arith, lin))
equal_opposite x y (inr h) e = (omega (arith, lin), omega (arith, lin))

-- where the ends of t are opposite against s, or on its line, and not both on it, t is not parallel to s
pub not_parallel : (s t : Seg) → AreOpposite (turn_of s.lo s.hi t.lo) (turn_of s.lo s.hi t.hi) → ¬ ((turn_of s.lo s.hi t.lo ≡ pos 0) × (turn_of s.lo s.hi t.hi ≡ pos 0))
    → ¬ (turn_of s.lo s.hi t.lo ≡ turn_of s.lo s.hi t.hi)
not_parallel s t opposite differ e = differ (equal_opposite (turn_of s.lo s.hi t.lo) (turn_of s.lo s.hi t.hi) opposite e)

only_common : (s t : Seg) (p : Point) → IsCommon s t p → ¬ ((turn_of s.lo s.hi t.lo ≡ pos 0) × (turn_of s.lo s.hi t.hi ≡ pos 0)) → IsOnlyCommon s t p
only_common s t p common differ =
    let opposite = opposite_from_common s t p common in
    let once = opposite_meet s t opposite (opposite_from_common t s p (common.1, common.0)) (not_parallel s t opposite differ) in
    record {
      common = common;
      only = λ q h. same_point-trans q once.at p (once.only.only q h) (same_point-sym p once.at (once.only.only p common));
    }

-- ---- its pixel is hot

pub is_end_or_not : (s : Seg) (p : Point) → IsEnd s p ⊎ ¬ IsEnd s p
is_end_or_not s p =
    elim (same_point-or_not p (at_coord s.lo)) [
      | inl lo ↦ inl (inl lo)
      | inr not_lo ↦ elim (same_point-or_not p (at_coord s.hi)) [
        | inl hi ↦ inl (inr hi)
        | inr not_hi ↦ inr (λ e. elim e [ inl lo ↦ not_lo lo | inr hi ↦ not_hi hi ])
      ]
    ]

-- the pixel of the only common point of two segments is hot
pub only_common_hot : (segs : List Seg) (s t : Seg) (p : Point) (r : Coord) → Contains segs s → Contains segs t → IsOnlyCommon s t p → IsInPixel p r → IsHot segs r
only_common_hot segs s t p r has_s has_t only inside =
    elim (is_end_or_not s p) [
      | inl e ↦ (p, (inside, inl (s, (has_s, e))))
      | inr not_s ↦ elim (is_end_or_not t p) [
        | inl e ↦ (p, (inside, inl (t, (has_t, e))))
        | inr not_t ↦ (p, (inside, inr (s, (t, (has_s, has_t, only, not_s, not_t)))))
      ]
    ]

-- ---- so the pieces have no common point

centres_apart : (segs : List Seg) (s t : Seg) (a b c d r : Coord) → TwoPieces segs s t a b c d → (r ≡ a) ⊎ (r ≡ b) → (r ≡ c) ⊎ (r ≡ d) → ⊥
centres_apart segs s t a b c d r two (inl e) (inl f) = two.not_ac (sym e ∙ f)
centres_apart segs s t a b c d r two (inl e) (inr f) = two.not_ad (sym e ∙ f)
centres_apart segs s t a b c d r two (inr e) (inl f) = two.not_bc (sym e ∙ f)
centres_apart segs s t a b c d r two (inr e) (inr f) = two.not_bd (sym e ∙ f)

pub pieces_apart : (segs : List Seg) (s t : Seg) (a b c d : Coord) → Rises s → Rises t → Contains segs s → Contains segs t
    → TwoPieces segs s t a b c d → CentresCross a b c d → ⊥
pieces_apart segs s t a b c d rises_s rises_t has_s has_t two cross =
    let p = two.first in
    let q = two.second in
    let meeting = common_of_pieces segs s t a b c d two cross in
    let g = meeting.0 in
    let on_s = between_on s g p.from p.until rises_s p.from_on p.until_on meeting.1 in
    let on_t = between_on t g q.from q.until rises_t q.from_on q.until_on meeting.2 in
    let left = (pieces_cross segs s t a b c d two cross).c_left in
    let differ : ¬ ((turn_of s.lo s.hi t.lo ≡ pos 0) × (turn_of s.lo s.hi t.hi ≡ pos 0)) =
    λ level. lt_excludes_eq left (sym (line_turn s p.from p.until q.until a b d p.from_in p.until_in q.until_in rises_s
    (side_zero-on s p.from p.from_on) (side_zero-on s p.until p.until_on) (on_line s t q.until q.until_on level.0 level.1))) in
    let only = only_common s t g (on_s, on_t) differ in
    let pixel = pixel_of_point g in
    let hot = only_common_hot segs s t g pixel.0 has_s has_t only pixel.1 in
    centres_apart segs s t a b c d pixel.0 two (p.alone pixel.0 g hot meeting.1 pixel.1) (q.alone pixel.0 g hot meeting.2 pixel.1)

-- ---- the centres alone tell that the pieces have none in common

turn_zero_first : (a b c : Coord) → c ≡ a → turn_of a b c ≡ pos 0
turn_zero_first a b c e = subst (λ v. turn_of a b v ≡ pos 0) (sym e) (turn-same_ends a b)

turn_zero_second : (a b c : Coord) → c ≡ b → turn_of a b c ≡ pos 0
turn_zero_second a b c e = subst (λ v. turn_of a b v ≡ pos 0) (sym e) (turn-same_last a b)

-- the edges between the centres of two pieces do not cross
pub no_crossing : (segs : List Seg) (s t : Seg) (a b c d : Coord) → Rises s → Rises t → Contains segs s → Contains segs t
    → IsPiece segs s a b → IsPiece segs t c d → IsHot segs a → IsHot segs b → IsHot segs c → IsHot segs d → CentresCross a b c d → ⊥
no_crossing segs s t a b c d rises_s rises_t has_s has_t first second a_hot b_hot c_hot d_hot cross =
    let left = cross.c_left in
    let right = cross.d_right in
    pieces_apart segs s t a b c d rises_s rises_t has_s has_t (record {
      first = first;
      second = second;
      a_hot = a_hot;
      b_hot = b_hot;
      c_hot = c_hot;
      d_hot = d_hot;
      not_ac = λ e. lt_excludes_eq left (sym (turn_zero_first a b c (sym e)));
      not_ad = λ e. lt_excludes_eq right (turn_zero_first a b d (sym e));
      not_bc = λ e. lt_excludes_eq left (sym (turn_zero_second a b c (sym e)));
      not_bd = λ e. lt_excludes_eq right (turn_zero_second a b d (sym e));
    }) cross
