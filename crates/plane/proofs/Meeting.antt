-- Two segments on different lines: where the ends of each lie on opposite sides of the other, or on it, they have one
-- common point, and the turns tell whether it is an end; where both ends lie strictly on one side, they have none.
use mathlib.Core.List.{List, [], ◌∷◌}
use Rattle.std.proofs.Common.{◌≡◌, ◌⊎◌, inl, inr, refl, sym, ◌∙◌, ap, ℕ, ◌≤◌, ℤ, pos, neg_ℤ, ◌+ℤ◌, ◌-ℤ◌, ◌*ℤ◌, ◌<ℤ◌, ◌≤ℤ◌, arith}
use Rattle.integer_laws.proofs.Ring.{lin, by_ring, by_one, by_two, Term, Var, Lit, ◌⊕◌, ◌⊖◌, ◌⊗◌, Neg, mul_one, mul_comm, mul_zero, zero_mul}
use Rattle.integer_laws.proofs.Order.{cancel_eq}
use Rattle.integer_laws.proofs.Cast.{positive_natural}
use Rattle.integer_laws.proofs.Compare.{trichotomy}
use Rattle.cov_types.specs.declared.coord.Coord.{Coord}
use Rattle.cov_types.specs.declared.seg.Seg.{Seg}
use Rattle.plane.specs.Point.{Point, SamePoint, at_coord}
use Rattle.plane.specs.Segment.{IsOn, IsEnd, turn_of, side}
use Rattle.plane.specs.Contact.{IsCommon, IsOnlyCommon}
use Rattle.plane.proofs.Points.{d_positive, between_by}
use Rattle.plane.proofs.Forms.{form, form_positive-between, form_negative-between}
use Rattle.plane.proofs.Sides.{side_a, side_b, side_c, side-form, side-at_coord, side_zero-on, side-same}

-- ---- over four points: the segment ab in variables 0 to 3, the segment cd in 4 to 7, a point in 8 to 10

-- the turn of three points whose coordinates are numbered
abbrev pub turn_term : Term → Term → Term → Term → Term → Term → Term
turn_term ax ay bx by cx cy = (bx ⊖ ax) ⊗ (cy ⊖ ay) ⊖ (by ⊖ ay) ⊗ (cx ⊖ ax)

abbrev abc : Term
abc = turn_term (Var 0) (Var 1) (Var 2) (Var 3) (Var 4) (Var 5)

abbrev abd : Term
abd = turn_term (Var 0) (Var 1) (Var 2) (Var 3) (Var 6) (Var 7)

abbrev cda : Term
cda = turn_term (Var 4) (Var 5) (Var 6) (Var 7) (Var 0) (Var 1)

abbrev cdb : Term
cdb = turn_term (Var 4) (Var 5) (Var 6) (Var 7) (Var 2) (Var 3)

abbrev coordinates : Coord → Coord → Coord → Coord → List ℤ
coordinates a b c d = a.x ∷ a.y ∷ b.x ∷ b.y ∷ c.x ∷ c.y ∷ d.x ∷ d.y ∷ []

-- from c to d the turn against ab falls as much as that against cd rises from a to b
pub turns-balance : (a b c d : Coord) → turn_of a b c -ℤ turn_of a b d ≡ turn_of c d b -ℤ turn_of c d a
unfolding turn_of
turns-balance a b c d = by_ring (coordinates a b c d) (abc ⊖ abd) (cdb ⊖ cda) refl

-- the lines of ab and cd meet at the mean of a and b whose weights are the turns of the other, and likewise of c and d
pub meeting-x : (a b c d : Coord) → (turn_of c d b *ℤ a.x) -ℤ (turn_of c d a *ℤ b.x) ≡ (turn_of a b c *ℤ d.x) -ℤ (turn_of a b d *ℤ c.x)
unfolding turn_of
meeting-x a b c d = by_ring (coordinates a b c d) (cdb ⊗ Var 0 ⊖ cda ⊗ Var 2) (abc ⊗ Var 6 ⊖ abd ⊗ Var 4) refl

pub meeting-y : (a b c d : Coord) → (turn_of c d b *ℤ a.y) -ℤ (turn_of c d a *ℤ b.y) ≡ (turn_of a b c *ℤ d.y) -ℤ (turn_of a b d *ℤ c.y)
unfolding turn_of
meeting-y a b c d = by_ring (coordinates a b c d) (cdb ⊗ Var 1 ⊖ cda ⊗ Var 3) (abc ⊗ Var 7 ⊖ abd ⊗ Var 5) refl

-- and each point on both lines is that one
abbrev side_ab : Term
side_ab = (Var 2 ⊖ Var 0) ⊗ (Var 9 ⊖ Var 1 ⊗ Var 10) ⊖ (Var 3 ⊖ Var 1) ⊗ (Var 8 ⊖ Var 0 ⊗ Var 10)

abbrev side_cd : Term
side_cd = (Var 6 ⊖ Var 4) ⊗ (Var 9 ⊖ Var 5 ⊗ Var 10) ⊖ (Var 7 ⊖ Var 5) ⊗ (Var 8 ⊖ Var 4 ⊗ Var 10)

abbrev numbers : Seg → Seg → Point → List ℤ
numbers s t r = s.lo.x ∷ s.lo.y ∷ s.hi.x ∷ s.hi.y ∷ t.lo.x ∷ t.lo.y ∷ t.hi.x ∷ t.hi.y ∷ r.x ∷ r.y ∷ pos r.d ∷ []

pub only-x : (s t : Seg) (r : Point) → side s r ≡ pos 0 → side t r ≡ pos 0
    → r.x *ℤ (turn_of t.lo t.hi s.hi -ℤ turn_of t.lo t.hi s.lo) ≡ ((turn_of t.lo t.hi s.hi *ℤ s.lo.x) -ℤ (turn_of t.lo t.hi s.lo *ℤ s.hi.x)) *ℤ pos r.d
unfolding turn_of side
only-x s t r h k =
    by_two (numbers s t r) (Var 8 ⊗ (cdb ⊖ cda)) ((cdb ⊗ Var 0 ⊖ cda ⊗ Var 2) ⊗ Var 10)
    (Neg (Var 6 ⊖ Var 4)) side_ab (Lit (pos 0)) (Var 2 ⊖ Var 0) side_cd (Lit (pos 0)) refl h k

pub only-y : (s t : Seg) (r : Point) → side s r ≡ pos 0 → side t r ≡ pos 0
    → r.y *ℤ (turn_of t.lo t.hi s.hi -ℤ turn_of t.lo t.hi s.lo) ≡ ((turn_of t.lo t.hi s.hi *ℤ s.lo.y) -ℤ (turn_of t.lo t.hi s.lo *ℤ s.hi.y)) *ℤ pos r.d
unfolding turn_of side
only-y s t r h k =
    by_two (numbers s t r) (Var 9 ⊗ (cdb ⊖ cda)) ((cdb ⊗ Var 1 ⊖ cda ⊗ Var 3) ⊗ Var 10)
    (Neg (Var 7 ⊖ Var 5)) side_ab (Lit (pos 0)) (Var 3 ⊖ Var 1) side_cd (Lit (pos 0)) refl h k

-- ---- segments whose ends lie on opposite sides of each other, or on it

-- from lo to hi t falls against s and s rises against t, through 0, and the lines differ
pub record Falls (s t : Seg) : Type 0 where
  pub t_lo : pos 0 ≤ℤ turn_of s.lo s.hi t.lo
  pub t_hi : turn_of s.lo s.hi t.hi ≤ℤ pos 0
  pub s_lo : turn_of t.lo t.hi s.lo ≤ℤ pos 0
  pub s_hi : pos 0 ≤ℤ turn_of t.lo t.hi s.hi
  pub differ : turn_of s.lo s.hi t.hi <ℤ turn_of s.lo s.hi t.lo

-- the segments have one common point, which is an end of one just where that end is on the line of the other
pub record MeetOnce (s t : Seg) : Type 0 where
  pub at : Point
  pub only : IsOnlyCommon s t at
  pub is_end : (turn_of t.lo t.hi s.lo ≡ pos 0) ⊎ (turn_of t.lo t.hi s.hi ≡ pos 0) → IsEnd s at
  pub is_end_of_other : (turn_of s.lo s.hi t.lo ≡ pos 0) ⊎ (turn_of s.lo s.hi t.hi ≡ pos 0) → IsEnd t at

-- the common point: the mean of lo and hi of s with the turns against t as weights, whose sum is w
unfoldable pub meeting : (s t : Seg) (w : ℕ) → 1 ≤ w → Point
meeting s t w positive = record {
  x = (turn_of t.lo t.hi s.hi *ℤ s.lo.x) -ℤ (turn_of t.lo t.hi s.lo *ℤ s.hi.x);
  y = (turn_of t.lo t.hi s.hi *ℤ s.lo.y) -ℤ (turn_of t.lo t.hi s.lo *ℤ s.hi.y);
  d = w;
  positive = positive;
}

-- over plain variables: the difference of two products as a combination
combination : (d c p q x : ℤ) → x ≡ (d *ℤ p) -ℤ (c *ℤ q) → pos 1 *ℤ x ≡ (d *ℤ p) +ℤ (neg_ℤ c *ℤ q)
combination d c p q x e =
    by_one (d ∷ c ∷ p ∷ q ∷ x ∷ []) (Lit (pos 1) ⊗ Var 4) (Var 0 ⊗ Var 2 ⊕ Neg (Var 1) ⊗ Var 3) (Lit (pos 1)) (Var 4) (Var 0 ⊗ Var 2 ⊖ Var 1 ⊗ Var 3) refl e

weight : (d c w : ℤ) → w ≡ d -ℤ c → pos 1 *ℤ w ≡ (d *ℤ pos 1) +ℤ (neg_ℤ c *ℤ pos 1)
weight d c w e = combination d c (pos 1) (pos 1) w (e ∙ omega (arith, lin, mul_one d, mul_one c))

add_comm : (x y : ℤ) → x +ℤ y ≡ y +ℤ x
add_comm x y = omega (arith, lin)

pub meeting_on : (s t : Seg) (w : ℕ) (positive : 1 ≤ w) → turn_of t.lo t.hi s.hi -ℤ turn_of t.lo t.hi s.lo ≡ pos w → Falls s t → IsOn s (meeting s t w positive)
unfolding meeting
meeting_on s t w positive e f =
    let d = turn_of t.lo t.hi s.hi in
    let c = turn_of t.lo t.hi s.lo in
    let up = f.s_hi in
    let down = f.s_lo in
    between_by (meeting s t w positive) (at_coord s.lo) (at_coord s.hi) (pos 1) d (neg_ℤ c)
    up (omega (arith, lin)) (omega (arith, lin))
    (combination d c s.lo.x s.hi.x _ refl) (combination d c s.lo.y s.hi.y _ refl) (weight d c (pos w) (sym e))

pub meeting_on_other : (s t : Seg) (w : ℕ) (positive : 1 ≤ w) → turn_of t.lo t.hi s.hi -ℤ turn_of t.lo t.hi s.lo ≡ pos w → Falls s t → IsOn t (meeting s t w positive)
unfolding meeting
meeting_on_other s t w positive e f =
    let a = turn_of s.lo s.hi t.lo in
    let b = turn_of s.lo s.hi t.hi in
    let up = f.t_lo in
    let down = f.t_hi in
    let balance = turns-balance s.lo s.hi t.lo t.hi in
    between_by (meeting s t w positive) (at_coord t.lo) (at_coord t.hi) (pos 1) (neg_ℤ b) a
    (omega (arith, lin)) up (omega (arith, lin))
    (combination a b t.hi.x t.lo.x _ (meeting-x s.lo s.hi t.lo t.hi) ∙ add_comm (a *ℤ t.hi.x) (neg_ℤ b *ℤ t.lo.x))
    (combination a b t.hi.y t.lo.y _ (meeting-y s.lo s.hi t.lo t.hi) ∙ add_comm (a *ℤ t.hi.y) (neg_ℤ b *ℤ t.lo.y))
    (weight a b (pos w) (sym e ∙ sym balance) ∙ add_comm (a *ℤ pos 1) (neg_ℤ b *ℤ pos 1))

pub meeting_only : (s t : Seg) (w : ℕ) (positive : 1 ≤ w) → turn_of t.lo t.hi s.hi -ℤ turn_of t.lo t.hi s.lo ≡ pos w → (q : Point) → IsCommon s t q → SamePoint q (meeting s t w positive)
unfolding meeting
meeting_only s t w positive e q common =
    let on_s = side_zero-on s q common.0 in
    let on_t = side_zero-on t q common.1 in
    (ap (λ v. q.x *ℤ v) (sym e) ∙ only-x s t q on_s on_t, ap (λ v. q.y *ℤ v) (sym e) ∙ only-y s t q on_s on_t)

-- over plain variables: the mean of p and q with the weights d and -c, where one of them is 0
mean_first : (d c p q w : ℤ) → d -ℤ c ≡ w → c ≡ pos 0 → ((d *ℤ p) -ℤ (c *ℤ q)) *ℤ pos 1 ≡ p *ℤ w
mean_first d c p q w e z =
    by_two (d ∷ c ∷ p ∷ q ∷ w ∷ []) ((Var 0 ⊗ Var 2 ⊖ Var 1 ⊗ Var 3) ⊗ Lit (pos 1)) (Var 2 ⊗ Var 4)
    (Var 2) (Var 0 ⊖ Var 1) (Var 4) (Var 2 ⊖ Var 3) (Var 1) (Lit (pos 0)) refl e z

mean_second : (d c p q w : ℤ) → d -ℤ c ≡ w → d ≡ pos 0 → ((d *ℤ p) -ℤ (c *ℤ q)) *ℤ pos 1 ≡ q *ℤ w
mean_second d c p q w e z =
    by_two (d ∷ c ∷ p ∷ q ∷ w ∷ []) ((Var 0 ⊗ Var 2 ⊖ Var 1 ⊗ Var 3) ⊗ Lit (pos 1)) (Var 3 ⊗ Var 4)
    (Var 3) (Var 0 ⊖ Var 1) (Var 4) (Var 2 ⊖ Var 3) (Var 0) (Lit (pos 0)) refl e z

meeting_end : (s t : Seg) (w : ℕ) (positive : 1 ≤ w) → turn_of t.lo t.hi s.hi -ℤ turn_of t.lo t.hi s.lo ≡ pos w
    → (turn_of t.lo t.hi s.lo ≡ pos 0) ⊎ (turn_of t.lo t.hi s.hi ≡ pos 0) → IsEnd s (meeting s t w positive)
unfolding meeting
meeting_end s t w positive e h =
    let d = turn_of t.lo t.hi s.hi in
    let c = turn_of t.lo t.hi s.lo in
    elim h [
      | inl z ↦ inl (mean_first d c s.lo.x s.hi.x (pos w) e z, mean_first d c s.lo.y s.hi.y (pos w) e z)
      | inr z ↦ inr (mean_second d c s.lo.x s.hi.x (pos w) e z, mean_second d c s.lo.y s.hi.y (pos w) e z)
    ]

meeting_end_of_other : (s t : Seg) (w : ℕ) (positive : 1 ≤ w) → turn_of t.lo t.hi s.hi -ℤ turn_of t.lo t.hi s.lo ≡ pos w
    → (turn_of s.lo s.hi t.lo ≡ pos 0) ⊎ (turn_of s.lo s.hi t.hi ≡ pos 0) → IsEnd t (meeting s t w positive)
unfolding meeting
meeting_end_of_other s t w positive e h =
    let a = turn_of s.lo s.hi t.lo in
    let b = turn_of s.lo s.hi t.hi in
    let balance : a -ℤ b ≡ pos w = turns-balance s.lo s.hi t.lo t.hi ∙ e in
    let x = ap (λ v. v *ℤ pos 1) (meeting-x s.lo s.hi t.lo t.hi) in
    let y = ap (λ v. v *ℤ pos 1) (meeting-y s.lo s.hi t.lo t.hi) in
    elim h [
      | inl z ↦ inl (x ∙ mean_second a b t.hi.x t.lo.x (pos w) balance z, y ∙ mean_second a b t.hi.y t.lo.y (pos w) balance z)
      | inr z ↦ inr (x ∙ mean_first a b t.hi.x t.lo.x (pos w) balance z, y ∙ mean_first a b t.hi.y t.lo.y (pos w) balance z)
    ]

meet_once_from : (s t : Seg) → Falls s t → (w : ℕ) → 1 ≤ w → turn_of t.lo t.hi s.hi -ℤ turn_of t.lo t.hi s.lo ≡ pos w → MeetOnce s t
meet_once_from s t f w positive e = record {
  at = meeting s t w positive;
  only = record { common = (meeting_on s t w positive e f, meeting_on_other s t w positive e f); only = meeting_only s t w positive e };
  is_end = meeting_end s t w positive e;
  is_end_of_other = meeting_end_of_other s t w positive e;
}

falls_meet : (s t : Seg) → Falls s t → MeetOnce s t
falls_meet s t f =
    let differ = f.differ in
    let balance = turns-balance s.lo s.hi t.lo t.hi in
    let n = positive_natural (turn_of t.lo t.hi s.hi -ℤ turn_of t.lo t.hi s.lo) (omega (arith, lin)) in
    meet_once_from s t f n.0 n.1 n.2

-- the segments change places
exchange : (s t : Seg) → MeetOnce t s → MeetOnce s t
exchange s t m = record {
  at = m.at;
  only = record { common = (m.only.common.1, m.only.common.0); only = λ q c. m.only.only q (c.1, c.0) };
  is_end = m.is_end_of_other;
  is_end_of_other = m.is_end;
}

-- x and y are of opposite signs, or one of them is 0
abbrev pub AreOpposite : ℤ → ℤ → Type 0
AreOpposite x y = ((x ≤ℤ pos 0) × (pos 0 ≤ℤ y)) ⊎ ((pos 0 ≤ℤ x) × (y ≤ℤ pos 0))

falls_from : (a b c d : ℤ) → AreOpposite a b → AreOpposite c d → a -ℤ b ≡ d -ℤ c → b <ℤ a → (pos 0 ≤ℤ a) × (b ≤ℤ pos 0) × (c ≤ℤ pos 0) × (pos 0 ≤ℤ d)
falls_from a b c d (inl h) k e l = absurd (omega (arith, lin))
falls_from a b c d (inr h) (inl k) e l = (h.0, h.1, k.0, k.1)
falls_from a b c d (inr h) (inr k) e l = absurd (omega (arith, lin))

-- opposite and equal is 0
pub equal_opposite : (a b : ℤ) → AreOpposite a b → a ≡ b → (a ≡ pos 0) × (b ≡ pos 0)
equal_opposite a b (inl h) e = (omega (arith, lin), omega (arith, lin))
equal_opposite a b (inr h) e = (omega (arith, lin), omega (arith, lin))

falls_if : (s t : Seg) → AreOpposite (turn_of s.lo s.hi t.lo) (turn_of s.lo s.hi t.hi) → AreOpposite (turn_of t.lo t.hi s.lo) (turn_of t.lo t.hi s.hi)
    → turn_of s.lo s.hi t.hi <ℤ turn_of s.lo s.hi t.lo → Falls s t
falls_if s t h k l =
    let f = falls_from (turn_of s.lo s.hi t.lo) (turn_of s.lo s.hi t.hi) (turn_of t.lo t.hi s.lo) (turn_of t.lo t.hi s.hi) h k (turns-balance s.lo s.hi t.lo t.hi) l in
    record { t_lo = f.0; t_hi = f.1; s_lo = f.2; s_hi = f.3; differ = l }

-- of two segments of which neither lies strictly on one side of the other, not parallel, one falls against the other
pub opposite_falls : (s t : Seg) → AreOpposite (turn_of s.lo s.hi t.lo) (turn_of s.lo s.hi t.hi) → AreOpposite (turn_of t.lo t.hi s.lo) (turn_of t.lo t.hi s.hi)
    → ¬ (turn_of s.lo s.hi t.lo ≡ turn_of s.lo s.hi t.hi) → Falls s t ⊎ Falls t s
opposite_falls s t h k n =
    let balance = turns-balance s.lo s.hi t.lo t.hi in
    elim (trichotomy (turn_of s.lo s.hi t.hi) (turn_of s.lo s.hi t.lo)) [
      | inl l ↦ inl (falls_if s t h k l)
      | inr rest ↦ elim rest [
        | inl e ↦ absurd (n (sym e))
        | inr g ↦ inr (falls_if t s k h (omega (arith, lin)))
      ]
    ]

-- so they meet in one point
pub opposite_meet : (s t : Seg) → AreOpposite (turn_of s.lo s.hi t.lo) (turn_of s.lo s.hi t.hi) → AreOpposite (turn_of t.lo t.hi s.lo) (turn_of t.lo t.hi s.hi)
    → ¬ (turn_of s.lo s.hi t.lo ≡ turn_of s.lo s.hi t.hi) → MeetOnce s t
opposite_meet s t h k n =
    elim (opposite_falls s t h k n) [
      | inl f ↦ falls_meet s t f
      | inr f ↦ exchange s t (falls_meet t s f)
    ]

-- ---- a segment strictly on one side of the other

side_of_end : (s : Seg) (c : Coord) → form (side_a s) (side_b s) (side_c s) (at_coord c) ≡ turn_of s.lo s.hi c
side_of_end s c = sym (side-form s (at_coord c)) ∙ side-at_coord s c

-- both ends of t strictly on the left of s, or both on the right: no common point
pub left_apart : (s t : Seg) → pos 0 <ℤ turn_of s.lo s.hi t.lo → pos 0 <ℤ turn_of s.lo s.hi t.hi → (r : Point) → ¬ IsCommon s t r
left_apart s t l h r common =
    let lo = side_of_end s t.lo in
    let hi = side_of_end s t.hi in
    let at = side-form s r in
    let zero = side_zero-on s r common.0 in
    let above = form_positive-between (side_a s) (side_b s) (side_c s) r (at_coord t.lo) (at_coord t.hi) common.1 (omega (arith, lin)) (omega (arith, lin)) in
    omega (arith, lin)

pub right_apart : (s t : Seg) → turn_of s.lo s.hi t.lo <ℤ pos 0 → turn_of s.lo s.hi t.hi <ℤ pos 0 → (r : Point) → ¬ IsCommon s t r
right_apart s t l h r common =
    let lo = side_of_end s t.lo in
    let hi = side_of_end s t.hi in
    let at = side-form s r in
    let zero = side_zero-on s r common.0 in
    let below = form_negative-between (side_a s) (side_b s) (side_c s) r (at_coord t.lo) (at_coord t.hi) common.1 (omega (arith, lin)) (omega (arith, lin)) in
    omega (arith, lin)

-- ---- an end of a segment at a common point

-- an end of s at a point of t is on the line of t
pub end_on_line : (s t : Seg) (r : Point) → IsOn t r → IsEnd s r → (turn_of t.lo t.hi s.lo ≡ pos 0) ⊎ (turn_of t.lo t.hi s.hi ≡ pos 0)
end_on_line s t r on h = elim h [ inl e ↦ inl (at_end s.lo e) | inr e ↦ inr (at_end s.hi e) ]
  where
    at_end : (c : Coord) → SamePoint r (at_coord c) → turn_of t.lo t.hi c ≡ pos 0
    at_end c e =
        let zero = side_zero-on t r on in
        let at = side-at_coord t c in
        let same = side-same t r (at_coord c) e in
        cancel_eq (pos r.d) (turn_of t.lo t.hi c) (pos 0) (d_positive r)
        (mul_comm (pos r.d) (turn_of t.lo t.hi c) ∙ ap (λ v. v *ℤ pos r.d) (sym at) ∙ sym same ∙ ap (λ v. v *ℤ pos 1) zero ∙ zero_mul (pos 1) ∙ sym (mul_zero (pos r.d)))
