-- A closed triangle by weights, and by the signs of its three sides.
use mathlib.Core.List.{[], ◌∷◌}
use Rattle.std.proofs.Common.{◌≡◌, ◌⊎◌, inl, inr, refl, sym, ◌∙◌, ap, ◌+◌, List, ℤ, pos, negsuc, neg_ℤ, ◌+ℤ◌, ◌-ℤ◌, ◌*ℤ◌, ◌<ℤ◌, ◌≤ℤ◌, arith}
use Rattle.integer_laws.proofs.Ring.{lin, by_ring, by_two, Term, Var, Lit, ◌⊕◌, ◌⊖◌, ◌⊗◌, Neg, mul_comm, mul_one, mul_assoc, zero_mul}
use Rattle.integer_laws.proofs.Compare.{lt_or_ge, le_of_eq}
use Rattle.integer_laws.proofs.Order.{cancel_eq}
use Rattle.integer_laws.proofs.Sign.{nonneg_times_nonneg, positive_times_positive, nonneg_factor}
use Rattle.cov_types.specs.declared.coord.Coord.{Coord}
use Rattle.plane.specs.Point.{Point, SamePoint, IsBetween, at_coord}
use Rattle.plane.specs.Segment.{turn_of}
use Rattle.plane.proofs.Forms.{form, form-neg}
use Rattle.plane.proofs.Meeting.{turn_term}
use Rattle.plane.proofs.Points.{d_positive, between_by}
use Rattle.plane.proofs.Sides.{turn-round, turn-same_ends, turn-same_last}
use Rattle.greedy_run.specs.Run.{Triangle}
use Rattle.removal_laws.specs.Ear.{IsWithin, IsStrictlyWithin}
use Rattle.removal_laws.proofs.Cuts.{HalfPlane, depth, IsInAll}

-- ---- forms at means of three points

-- over plain variables: p is the mean of three grid points with the weights i, j and k
form_of_three : (la lb lc ax ay bx by cx cy px py pd i j k : ℤ)
    → px *ℤ ((i +ℤ j) +ℤ k) ≡ pd *ℤ (((i *ℤ ax) +ℤ (j *ℤ bx)) +ℤ (k *ℤ cx))
    → py *ℤ ((i +ℤ j) +ℤ k) ≡ pd *ℤ (((i *ℤ ay) +ℤ (j *ℤ by)) +ℤ (k *ℤ cy))
    → (((la *ℤ px) +ℤ (lb *ℤ py)) +ℤ (lc *ℤ pd)) *ℤ ((i +ℤ j) +ℤ k)
    ≡ pd *ℤ (((i *ℤ (((la *ℤ ax) +ℤ (lb *ℤ ay)) +ℤ (lc *ℤ pos 1))) +ℤ (j *ℤ (((la *ℤ bx) +ℤ (lb *ℤ by)) +ℤ (lc *ℤ pos 1)))) +ℤ (k *ℤ (((la *ℤ cx) +ℤ (lb *ℤ cy)) +ℤ (lc *ℤ pos 1))))
form_of_three la lb lc ax ay bx by cx cy px py pd i j k h g =
    let at = λ (x y d : Term). (Var 0 ⊗ x ⊕ Var 1 ⊗ y) ⊕ Var 2 ⊗ d in
    let total = (Var 12 ⊕ Var 13) ⊕ Var 14 in
    let sum = λ (x y z : Term). (Var 12 ⊗ x ⊕ Var 13 ⊗ y) ⊕ Var 14 ⊗ z in
    by_two (la ∷ lb ∷ lc ∷ ax ∷ ay ∷ bx ∷ by ∷ cx ∷ cy ∷ px ∷ py ∷ pd ∷ i ∷ j ∷ k ∷ [])
    (at (Var 9) (Var 10) (Var 11) ⊗ total)
    (Var 11 ⊗ sum (at (Var 3) (Var 4) (Lit (pos 1))) (at (Var 5) (Var 6) (Lit (pos 1))) (at (Var 7) (Var 8) (Lit (pos 1))))
    (Var 0) (Var 9 ⊗ total) (Var 11 ⊗ sum (Var 3) (Var 5) (Var 7))
    (Var 1) (Var 10 ⊗ total) (Var 11 ⊗ sum (Var 4) (Var 6) (Var 8)) refl h g

depth-within : (l : HalfPlane) (t : Triangle) (p : Point) (h : IsWithin t p)
    → depth l p *ℤ pos (h.first + h.second + h.third)
    ≡ pos p.d *ℤ (((pos h.first *ℤ depth l (at_coord t.a)) +ℤ (pos h.second *ℤ depth l (at_coord t.b))) +ℤ (pos h.third *ℤ depth l (at_coord t.c)))
unfolding form
depth-within l t p h = form_of_three l.a l.b l.c t.a.x t.a.y t.b.x t.b.y t.c.x t.c.y p.x p.y (pos p.d) (pos h.first) (pos h.second) (pos h.third) h.x h.y

-- not negative at the three corners: not negative in the triangle
pub within_not_negative : (l : HalfPlane) (t : Triangle) (p : Point) → IsWithin t p
    → pos 0 ≤ℤ depth l (at_coord t.a) → pos 0 ≤ℤ depth l (at_coord t.b) → pos 0 ≤ℤ depth l (at_coord t.c) → pos 0 ≤ℤ depth l p
within_not_negative l t p h ha hb hc =
    let w = h.weighted in
    let e = depth-within l t p h in
    let first = nonneg_times_nonneg {x = pos h.first} {y = depth l (at_coord t.a)} (omega (arith, lin)) ha in
    let second = nonneg_times_nonneg {x = pos h.second} {y = depth l (at_coord t.b)} (omega (arith, lin)) hb in
    let third = nonneg_times_nonneg {x = pos h.third} {y = depth l (at_coord t.c)} (omega (arith, lin)) hc in
    let sum = nonneg_times_nonneg {x = pos p.d} {y = ((pos h.first *ℤ depth l (at_coord t.a)) +ℤ (pos h.second *ℤ depth l (at_coord t.b))) +ℤ (pos h.third *ℤ depth l (at_coord t.c))}
    (omega (arith, lin)) (omega (arith, lin)) in
    nonneg_factor (pos (h.first + h.second + h.third)) (depth l p) (omega (arith, lin)) (omega (arith, lin, mul_comm (depth l p) (pos (h.first + h.second + h.third))))

-- the other side of the line
abbrev pub opposite : HalfPlane → HalfPlane
opposite l = record { a = neg_ℤ l.a; b = neg_ℤ l.b; c = neg_ℤ l.c }

-- not positive at the three corners: not positive in the triangle
pub within_not_positive : (l : HalfPlane) (t : Triangle) (p : Point) → IsWithin t p
    → depth l (at_coord t.a) ≤ℤ pos 0 → depth l (at_coord t.b) ≤ℤ pos 0 → depth l (at_coord t.c) ≤ℤ pos 0 → depth l p ≤ℤ pos 0
within_not_positive l t p h ha hb hc =
    let at = form-neg l.a l.b l.c in
    let other = within_not_negative (opposite l) t p h (omega (arith, lin, at (at_coord t.a))) (omega (arith, lin, at (at_coord t.b))) (omega (arith, lin, at (at_coord t.c))) in
    omega (arith, lin, at p)

-- over plain variables: the mean p/d, and r/e is the same number
moved_mean : (p d r e w mean : ℤ) → pos 0 <ℤ d → p *ℤ e ≡ r *ℤ d → p *ℤ w ≡ d *ℤ mean → r *ℤ w ≡ e *ℤ mean
moved_mean p d r e w mean positive same h =
    cancel_eq d (r *ℤ w) (e *ℤ mean) positive
    (by_two (p ∷ d ∷ r ∷ e ∷ w ∷ mean ∷ []) (Var 1 ⊗ (Var 2 ⊗ Var 4)) (Var 1 ⊗ (Var 3 ⊗ Var 5))
    (Neg (Var 4)) (Var 0 ⊗ Var 3) (Var 2 ⊗ Var 1)
    (Var 3) (Var 0 ⊗ Var 4) (Var 1 ⊗ Var 5) refl same h)

-- a point of the triangle stays so as another fraction
pub within-same : (t : Triangle) (p q : Point) → SamePoint p q → IsWithin t p → IsWithin t q
within-same t p q same h =
    let w = pos (h.first + h.second + h.third) in
    record {
      first = h.first;
      second = h.second;
      third = h.third;
      weighted = h.weighted;
      x = moved_mean p.x (pos p.d) q.x (pos q.d) w ((pos h.first *ℤ t.a.x) +ℤ (pos h.second *ℤ t.b.x) +ℤ (pos h.third *ℤ t.c.x)) (d_positive p) same.0 h.x;
      y = moved_mean p.y (pos p.d) q.y (pos q.d) w ((pos h.first *ℤ t.a.y) +ℤ (pos h.second *ℤ t.b.y) +ℤ (pos h.third *ℤ t.c.y)) (d_positive p) same.1 h.y;
    }

-- ---- the sides

-- the points on the left of the line from u to v, and on it
abbrev pub left_of : Coord → Coord → HalfPlane
left_of u v = record { a = neg_ℤ (v.y -ℤ u.y); b = v.x -ℤ u.x; c = ((v.y -ℤ u.y) *ℤ u.x) -ℤ ((v.x -ℤ u.x) *ℤ u.y) }

abbrev pub left_term : (ux uy vx vy px py pd : Term) → Term
left_term ux uy vx vy px py pd = (Neg (vy ⊖ uy) ⊗ px ⊕ (vx ⊖ ux) ⊗ py) ⊕ ((vy ⊖ uy) ⊗ ux ⊖ (vx ⊖ ux) ⊗ uy) ⊗ pd

pub left-turn : (u v w : Coord) → depth (left_of u v) (at_coord w) ≡ turn_of u v w
unfolding form turn_of
left-turn u v w =
    by_ring (u.x ∷ u.y ∷ v.x ∷ v.y ∷ w.x ∷ w.y ∷ []) (left_term (Var 0) (Var 1) (Var 2) (Var 3) (Var 4) (Var 5) (Lit (pos 1)))
    (turn_term (Var 0) (Var 1) (Var 2) (Var 3) (Var 4) (Var 5)) refl

pub left-first : (u v : Coord) → depth (left_of u v) (at_coord u) ≡ pos 0
left-first u v = left-turn u v u ∙ turn-same_ends u v

pub left-second : (u v : Coord) → depth (left_of u v) (at_coord v) ≡ pos 0
left-second u v = left-turn u v v ∙ turn-same_last u v

pub left-exchanged : (u v : Coord) (p : Point) → depth (left_of v u) p ≡ neg_ℤ (depth (left_of u v) p)
unfolding form
left-exchanged u v p =
    by_ring (u.x ∷ u.y ∷ v.x ∷ v.y ∷ p.x ∷ p.y ∷ pos p.d ∷ [])
    (left_term (Var 2) (Var 3) (Var 0) (Var 1) (Var 4) (Var 5) (Var 6)) (Neg (left_term (Var 0) (Var 1) (Var 2) (Var 3) (Var 4) (Var 5) (Var 6))) refl

-- twice the area of the triangle, positive where c is on the left of a to b
abbrev pub area : Triangle → ℤ
area t = turn_of t.a t.b t.c

abbrev pub to_a : Triangle → HalfPlane
to_a t = left_of t.b t.c

abbrev pub to_b : Triangle → HalfPlane
to_b t = left_of t.c t.a

abbrev pub to_c : Triangle → HalfPlane
to_c t = left_of t.a t.b

-- p is on the left of the three sides, or on them
abbrev pub IsInside : Triangle → Point → Type 0
IsInside t p = IsInAll (to_a t) (to_b t) (to_c t) p

pub depth-a : (t : Triangle) → depth (to_a t) (at_coord t.a) ≡ area t
depth-a t = left-turn t.b t.c t.a ∙ turn-round t.a t.b t.c

pub depth-b : (t : Triangle) → depth (to_b t) (at_coord t.b) ≡ area t
depth-b t = left-turn t.c t.a t.b ∙ turn-round t.b t.c t.a ∙ turn-round t.a t.b t.c

pub depth-c : (t : Triangle) → depth (to_c t) (at_coord t.c) ≡ area t
depth-c t = left-turn t.a t.b t.c

pub within-inside : (t : Triangle) (p : Point) → pos 0 ≤ℤ area t → IsWithin t p → IsInside t p
within-inside t p positive h = record {
  first =
      within_not_negative (to_a t) t p h (omega (arith, lin, depth-a t)) (le_of_eq (sym (left-first t.b t.c))) (le_of_eq (sym (left-second t.b t.c)));
  second =
      within_not_negative (to_b t) t p h (le_of_eq (sym (left-second t.c t.a))) (omega (arith, lin, depth-b t)) (le_of_eq (sym (left-first t.c t.a)));
  third =
      within_not_negative (to_c t) t p h (le_of_eq (sym (left-first t.a t.b))) (le_of_eq (sym (left-second t.a t.b))) (omega (arith, lin, depth-c t));
}

-- ---- the sides as weights

abbrev pub points_of : (t : Triangle) (p : Point) → List ℤ
points_of t p = t.a.x ∷ t.a.y ∷ t.b.x ∷ t.b.y ∷ t.c.x ∷ t.c.y ∷ p.x ∷ p.y ∷ pos p.d ∷ []

abbrev pub a_term : Term
a_term = left_term (Var 2) (Var 3) (Var 4) (Var 5) (Var 6) (Var 7) (Var 8)

abbrev pub b_term : Term
b_term = left_term (Var 4) (Var 5) (Var 0) (Var 1) (Var 6) (Var 7) (Var 8)

abbrev pub c_term : Term
c_term = left_term (Var 0) (Var 1) (Var 2) (Var 3) (Var 6) (Var 7) (Var 8)

abbrev area_term : Term
area_term = turn_term (Var 0) (Var 1) (Var 2) (Var 3) (Var 4) (Var 5)

pub split-x : (t : Triangle) (p : Point) → area t *ℤ p.x ≡ ((depth (to_a t) p *ℤ t.a.x) +ℤ (depth (to_b t) p *ℤ t.b.x)) +ℤ (depth (to_c t) p *ℤ t.c.x)
unfolding form turn_of
split-x t p = by_ring (points_of t p) (area_term ⊗ Var 6) ((a_term ⊗ Var 0 ⊕ b_term ⊗ Var 2) ⊕ c_term ⊗ Var 4) refl

pub split-y : (t : Triangle) (p : Point) → area t *ℤ p.y ≡ ((depth (to_a t) p *ℤ t.a.y) +ℤ (depth (to_b t) p *ℤ t.b.y)) +ℤ (depth (to_c t) p *ℤ t.c.y)
unfolding form turn_of
split-y t p = by_ring (points_of t p) (area_term ⊗ Var 7) ((a_term ⊗ Var 1 ⊕ b_term ⊗ Var 3) ⊕ c_term ⊗ Var 5) refl

pub split-d : (t : Triangle) (p : Point) → area t *ℤ pos p.d ≡ (depth (to_a t) p +ℤ depth (to_b t) p) +ℤ depth (to_c t) p
unfolding form turn_of
split-d t p = by_ring (points_of t p) (area_term ⊗ Var 8) ((a_term ⊕ b_term) ⊕ c_term) refl

-- over plain variables: a combination with the weights i, j and l, times some k
combined : (k r d p q s i j l : ℤ) → k *ℤ r ≡ ((i *ℤ p) +ℤ (j *ℤ q)) +ℤ (l *ℤ s) → k *ℤ d ≡ (i +ℤ j) +ℤ l
    → r *ℤ ((i +ℤ j) +ℤ l) ≡ d *ℤ (((i *ℤ p) +ℤ (j *ℤ q)) +ℤ (l *ℤ s))
combined k r d p q s i j l h g =
    let total = (Var 6 ⊕ Var 7) ⊕ Var 8 in
    let sum = (Var 6 ⊗ Var 3 ⊕ Var 7 ⊗ Var 4) ⊕ Var 8 ⊗ Var 5 in
    by_two (k ∷ r ∷ d ∷ p ∷ q ∷ s ∷ i ∷ j ∷ l ∷ []) (Var 1 ⊗ total) (Var 2 ⊗ sum)
    (Var 2) (Var 0 ⊗ Var 1) sum (Neg (Var 1)) (Var 0 ⊗ Var 2) total refl h g

-- k times the vector of p is the sum of the corners with these weights
pub within_by : (t : Triangle) (p : Point) (k i j l : ℤ) → pos 0 ≤ℤ i → pos 0 ≤ℤ j → pos 0 ≤ℤ l → pos 0 <ℤ ((i +ℤ j) +ℤ l)
    → k *ℤ p.x ≡ ((i *ℤ t.a.x) +ℤ (j *ℤ t.b.x)) +ℤ (l *ℤ t.c.x) → k *ℤ p.y ≡ ((i *ℤ t.a.y) +ℤ (j *ℤ t.b.y)) +ℤ (l *ℤ t.c.y)
    → k *ℤ pos p.d ≡ (i +ℤ j) +ℤ l → IsWithin t p
within_by t p k (pos i) (pos j) (pos l) hi hj hl positive x y d = record {
  first = i;
  second = j;
  third = l;
  weighted = omega (arith, lin);
  x = combined k p.x (pos p.d) t.a.x t.b.x t.c.x (pos i) (pos j) (pos l) x d;
  y = combined k p.y (pos p.d) t.a.y t.b.y t.c.y (pos i) (pos j) (pos l) y d;
}
within_by t p k (pos i) (pos j) (negsuc l) hi hj hl positive x y d = absurd hl.le
within_by t p k (pos i) (negsuc j) l hi hj hl positive x y d = absurd hj.le
within_by t p k (negsuc i) j l hi hj hl positive x y d = absurd hi.le

pub inside-within : (t : Triangle) (p : Point) → pos 0 <ℤ area t → IsInside t p → IsWithin t p
inside-within t p positive h =
    let total = positive_times_positive {x = area t} {y = pos p.d} positive (d_positive p) in
    let split = split-d t p in
    within_by t p (area t) (depth (to_a t) p) (depth (to_b t) p) (depth (to_c t) p) h.first h.second h.third (omega (arith, lin)) (split-x t p) (split-y t p) split

-- a point of the triangle on the line of ab is on ab
pub on_first : (t : Triangle) (p : Point) → pos 0 <ℤ area t → IsInside t p → depth (to_c t) p ≡ pos 0 → IsBetween p (at_coord t.a) (at_coord t.b)
on_first t p positive h zero =
    let total = positive_times_positive {x = area t} {y = pos p.d} positive (d_positive p) in
    let split = split-d t p in
    let x_part = ap (λ z. z *ℤ t.c.x) zero ∙ zero_mul t.c.x in
    let y_part = ap (λ z. z *ℤ t.c.y) zero ∙ zero_mul t.c.y in
    between_by p (at_coord t.a) (at_coord t.b) (area t) (depth (to_a t) p) (depth (to_b t) p) h.first h.second (omega (arith, lin))
    (omega (arith, lin, split-x t p)) (omega (arith, lin, split-y t p)) (omega (arith, lin, mul_one (depth (to_a t) p), mul_one (depth (to_b t) p)))

-- and on the line of bc, on bc
pub on_second : (t : Triangle) (p : Point) → pos 0 <ℤ area t → IsInside t p → depth (to_a t) p ≡ pos 0 → IsBetween p (at_coord t.b) (at_coord t.c)
on_second t p positive h zero =
    let total = positive_times_positive {x = area t} {y = pos p.d} positive (d_positive p) in
    let split = split-d t p in
    let x_part = ap (λ z. z *ℤ t.a.x) zero ∙ zero_mul t.a.x in
    let y_part = ap (λ z. z *ℤ t.a.y) zero ∙ zero_mul t.a.y in
    between_by p (at_coord t.b) (at_coord t.c) (area t) (depth (to_b t) p) (depth (to_c t) p) h.second h.third (omega (arith, lin))
    (omega (arith, lin, split-x t p)) (omega (arith, lin, split-y t p)) (omega (arith, lin, mul_one (depth (to_b t) p), mul_one (depth (to_c t) p)))

-- a point is in all three half-planes or it is not
pub inside_or_not : (k l m : HalfPlane) (p : Point) → IsInAll k l m p ⊎ ¬ IsInAll k l m p
inside_or_not k l m p =
    elim (lt_or_ge (depth k p) (pos 0)) [
      | inl out ↦ inr (λ h. let first = h.first in omega (arith, lin))
      | inr first ↦ elim (lt_or_ge (depth l p) (pos 0)) [
        | inl out ↦ inr (λ h. let second = h.second in omega (arith, lin))
        | inr second ↦ elim (lt_or_ge (depth m p) (pos 0)) [
          | inl out ↦ inr (λ h. let third = h.third in omega (arith, lin))
          | inr third ↦ inl (record { first = first; second = second; third = third })
        ]
      ]
    ]

-- the same with positive weights
pub strictly_by : (t : Triangle) (p : Point) (k i j l : ℤ) → pos 0 <ℤ i → pos 0 <ℤ j → pos 0 <ℤ l → ¬ (area t ≡ pos 0)
    → k *ℤ p.x ≡ ((i *ℤ t.a.x) +ℤ (j *ℤ t.b.x)) +ℤ (l *ℤ t.c.x) → k *ℤ p.y ≡ ((i *ℤ t.a.y) +ℤ (j *ℤ t.b.y)) +ℤ (l *ℤ t.c.y)
    → k *ℤ pos p.d ≡ (i +ℤ j) +ℤ l → IsStrictlyWithin t p
strictly_by t p k (pos i) (pos j) (pos l) hi hj hl bent x y d = record {
  within = record {
    first = i;
    second = j;
    third = l;
    weighted = omega (arith, lin);
    x = combined k p.x (pos p.d) t.a.x t.b.x t.c.x (pos i) (pos j) (pos l) x d;
    y = combined k p.y (pos p.d) t.a.y t.b.y t.c.y (pos i) (pos j) (pos l) y d;
  };
  first = omega (arith, lin);
  second = omega (arith, lin);
  third = omega (arith, lin);
  bent = bent;
}
strictly_by t p k (pos i) (pos j) (negsuc l) hi hj hl bent x y d = absurd hl.lt
strictly_by t p k (pos i) (negsuc j) l hi hj hl bent x y d = absurd hj.lt
strictly_by t p k (negsuc i) j l hi hj hl bent x y d = absurd hi.lt

-- a point of the triangle on the line of ac is on ac
pub on_third : (t : Triangle) (p : Point) → pos 0 <ℤ area t → IsInside t p → depth (to_b t) p ≡ pos 0 → IsBetween p (at_coord t.a) (at_coord t.c)
on_third t p positive h zero =
    let total = positive_times_positive {x = area t} {y = pos p.d} positive (d_positive p) in
    let split = split-d t p in
    let x_part = ap (λ z. z *ℤ t.b.x) zero ∙ zero_mul t.b.x in
    let y_part = ap (λ z. z *ℤ t.b.y) zero ∙ zero_mul t.b.y in
    between_by p (at_coord t.a) (at_coord t.c) (area t) (depth (to_a t) p) (depth (to_c t) p) h.first h.third (omega (arith, lin))
    (omega (arith, lin, split-x t p)) (omega (arith, lin, split-y t p)) (omega (arith, lin, mul_one (depth (to_a t) p), mul_one (depth (to_c t) p)))

-- a point on the lines of ab and of ac is a
pub first_corner : (t : Triangle) (p : Point) → pos 0 <ℤ area t → depth (to_b t) p ≡ pos 0 → depth (to_c t) p ≡ pos 0 → SamePoint p (at_coord t.a)
first_corner t p positive on_b on_c =
    let split = split-d t p in
    let a = depth (to_a t) p in
    let depth_a : area t *ℤ pos p.d ≡ a = omega (arith, lin) in
    let x_b = ap (λ z. z *ℤ t.b.x) on_b ∙ zero_mul t.b.x in
    let x_c = ap (λ z. z *ℤ t.c.x) on_c ∙ zero_mul t.c.x in
    let y_b = ap (λ z. z *ℤ t.b.y) on_b ∙ zero_mul t.b.y in
    let y_c = ap (λ z. z *ℤ t.c.y) on_c ∙ zero_mul t.c.y in (
      cancel_eq (area t) (p.x *ℤ pos 1) (t.a.x *ℤ pos p.d) positive (omega (arith, lin, ap (λ z. area t *ℤ z) (mul_one p.x), split-x t p, ap (λ z. z *ℤ t.a.x) depth_a, mul_assoc (area t) (pos p.d) t.a.x, ap (λ z. area t *ℤ z) (mul_comm (pos p.d) t.a.x))),
      cancel_eq (area t) (p.y *ℤ pos 1) (t.a.y *ℤ pos p.d) positive (omega (arith, lin, ap (λ z. area t *ℤ z) (mul_one p.y), split-y t p, ap (λ z. z *ℤ t.a.y) depth_a, mul_assoc (area t) (pos p.d) t.a.y, ap (λ z. area t *ℤ z) (mul_comm (pos p.d) t.a.y))),
    )
