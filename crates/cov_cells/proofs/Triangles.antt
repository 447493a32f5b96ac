-- The closed triangle of grid points, by the turns of its three sides, and by the order of coordinates where it is flat.
use mathlib.Core.List.{[], ◌∷◌}
use Rattle.std.proofs.Common.{◌≡◌, inl, inr, refl, sym, ap, subst, ◌+◌, ◌^◌, List, ℤ, pos, negsuc, neg_ℤ, ◌+ℤ◌, ◌-ℤ◌, ◌*ℤ◌, ◌<ℤ◌, ◌≤ℤ◌, Bool, true, false, ◌&&◌, ◌||◌, not, int_le, IsTrue, ◌↔◌, arith}
use Rattle.std.proofs.lemmas.Bool.{and_parts, and_from, or_cases, or_left, or_right}
use Rattle.integer_laws.proofs.Ring.{lin, by_ring, by_one, by_two, by_equations, Term, Var, Lit, ◌⊕◌, ◌⊖◌, ◌⊗◌, Neg, mul_comm, one_mul, minus_one_mul, zero_mul}
use Rattle.integer_laws.proofs.Compare.{lt_or_ge, le_of_eq, int_le_is}
use Rattle.integer_laws.proofs.Sign.{nonneg_times_nonneg, nonneg_factor}
use Rattle.cov_types.specs.declared.coord.Coord.{Coord}
use Rattle.cov_types.specs.Coord.{is_before}
use Rattle.cov_types.specs.Range.{IsInRange}
use Rattle.plane.specs.Point.{at_coord}
use Rattle.plane.specs.Segment.{turn_of}
use Rattle.plane.specs.Ray.{sweep}
use Rattle.plane.proofs.Meeting.{turn_term}
use Rattle.plane.proofs.Sides.{turn-first_two, turn-round}
use Rattle.plane.proofs.Sweeps.{sweep-before, before-sweep, sweep-one_to_one}
use Rattle.box_tree.specs.Rect.{IsInside, box_of_point}
use Rattle.box_tree.specs.declared.rect.Rect.{Rect}
use Rattle.greedy_run.specs.Run.{Triangle, IsInTriangle}
use Rattle.cov_cells.specs.Tests.{are_one_way, is_amid}

-- ---- linear forms at means of three points

form_of_mean : (l m n ax ay bx by cx cy px py i j k : ℤ)
    → px *ℤ ((i +ℤ j) +ℤ k) ≡ ((i *ℤ ax) +ℤ (j *ℤ bx)) +ℤ (k *ℤ cx)
    → py *ℤ ((i +ℤ j) +ℤ k) ≡ ((i *ℤ ay) +ℤ (j *ℤ by)) +ℤ (k *ℤ cy)
    → (((l *ℤ px) +ℤ (m *ℤ py)) +ℤ n) *ℤ ((i +ℤ j) +ℤ k)
    ≡ ((i *ℤ (((l *ℤ ax) +ℤ (m *ℤ ay)) +ℤ n)) +ℤ (j *ℤ (((l *ℤ bx) +ℤ (m *ℤ by)) +ℤ n))) +ℤ (k *ℤ (((l *ℤ cx) +ℤ (m *ℤ cy)) +ℤ n))
form_of_mean l m n ax ay bx by cx cy px py i j k h g =
    let at = λ (x y : Term). (Var 0 ⊗ x ⊕ Var 1 ⊗ y) ⊕ Var 2 in
    let total = (Var 11 ⊕ Var 12) ⊕ Var 13 in
    let sum = λ (x y z : Term). (Var 11 ⊗ x ⊕ Var 12 ⊗ y) ⊕ Var 13 ⊗ z in
    by_two (l ∷ m ∷ n ∷ ax ∷ ay ∷ bx ∷ by ∷ cx ∷ cy ∷ px ∷ py ∷ i ∷ j ∷ k ∷ [])
    (at (Var 9) (Var 10) ⊗ total) (sum (at (Var 3) (Var 4)) (at (Var 5) (Var 6)) (at (Var 7) (Var 8)))
    (Var 0) (Var 9 ⊗ total) (sum (Var 3) (Var 5) (Var 7))
    (Var 1) (Var 10 ⊗ total) (sum (Var 4) (Var 6) (Var 8)) refl h g

abbrev value : ℤ → ℤ → ℤ → Coord → ℤ
value l m n q = ((l *ℤ q.x) +ℤ (m *ℤ q.y)) +ℤ n

-- not negative at the corners: not negative in the triangle
not_negative : (l m n : ℤ) (t : Triangle) (p : Coord) → IsInTriangle t p → pos 0 ≤ℤ value l m n t.a → pos 0 ≤ℤ value l m n t.b → pos 0 ≤ℤ value l m n t.c → pos 0 ≤ℤ value l m n p
not_negative l m n t p h ha hb hc =
    let w = h.weighted in
    let e = form_of_mean l m n t.a.x t.a.y t.b.x t.b.y t.c.x t.c.y p.x p.y (pos h.first) (pos h.second) (pos h.third) h.x h.y in
    let first = nonneg_times_nonneg {x = pos h.first} {y = value l m n t.a} (omega (arith, lin)) ha in
    let second = nonneg_times_nonneg {x = pos h.second} {y = value l m n t.b} (omega (arith, lin)) hb in
    let third = nonneg_times_nonneg {x = pos h.third} {y = value l m n t.c} (omega (arith, lin)) hc in
    nonneg_factor (pos (h.first + h.second + h.third)) (value l m n p) (omega (arith, lin)) (omega (arith, lin, mul_comm (value l m n p) (pos (h.first + h.second + h.third))))

-- ---- turns and sweep values are such forms

abbrev coordinates : Coord → Coord → Coord → List ℤ
coordinates a b c = a.x ∷ a.y ∷ b.x ∷ b.y ∷ c.x ∷ c.y ∷ []

-- the turn of q against u and v
turn_value : (u v q : Coord) → value (neg_ℤ (v.y -ℤ u.y)) (v.x -ℤ u.x) (((v.y -ℤ u.y) *ℤ u.x) -ℤ ((v.x -ℤ u.x) *ℤ u.y)) q ≡ turn_of u v q
unfolding turn_of
turn_value u v q =
    by_ring (coordinates u v q)
    ((Neg (Var 3 ⊖ Var 1) ⊗ Var 4 ⊕ (Var 2 ⊖ Var 0) ⊗ Var 5) ⊕ ((Var 3 ⊖ Var 1) ⊗ Var 0 ⊖ (Var 2 ⊖ Var 0) ⊗ Var 1))
    (turn_term (Var 0) (Var 1) (Var 2) (Var 3) (Var 4) (Var 5)) refl

turn_not_negative : (u v : Coord) (t : Triangle) (p : Coord) → IsInTriangle t p → pos 0 ≤ℤ turn_of u v t.a → pos 0 ≤ℤ turn_of u v t.b → pos 0 ≤ℤ turn_of u v t.c → pos 0 ≤ℤ turn_of u v p
turn_not_negative u v t p h ha hb hc =
    let l = neg_ℤ (v.y -ℤ u.y) in
    let m = v.x -ℤ u.x in
    let n = ((v.y -ℤ u.y) *ℤ u.x) -ℤ ((v.x -ℤ u.x) *ℤ u.y) in
    let back = λ (q : Coord) (k : pos 0 ≤ℤ turn_of u v q). subst (λ z. pos 0 ≤ℤ z) (sym (turn_value u v q)) k in
    subst (λ z. pos 0 ≤ℤ z) (turn_value u v p) (not_negative l m n t p h (back t.a ha) (back t.b hb) (back t.c hc))

-- how far the sweep value is above k
sweep_value : (k : ℤ) (q : Coord) → value (pos (2 ^ 30)) (pos 1) (neg_ℤ k) q ≡ sweep (at_coord q) -ℤ k
unfolding sweep
sweep_value k q = by_ring (pos (2 ^ 30) ∷ q.x ∷ q.y ∷ k ∷ []) ((Var 0 ⊗ Var 1 ⊕ Lit (pos 1) ⊗ Var 2) ⊕ Neg (Var 3)) ((Var 0 ⊗ Var 1 ⊕ Var 2) ⊖ Var 3) refl

-- and how far it is below k
sweep_value_down : (k : ℤ) (q : Coord) → value (neg_ℤ (pos (2 ^ 30))) (neg_ℤ (pos 1)) k q ≡ k -ℤ sweep (at_coord q)
unfolding sweep
sweep_value_down k q = by_ring (pos (2 ^ 30) ∷ q.x ∷ q.y ∷ k ∷ []) ((Neg (Var 0) ⊗ Var 1 ⊕ Neg (Lit (pos 1)) ⊗ Var 2) ⊕ Var 3) (Var 3 ⊖ (Var 0 ⊗ Var 1 ⊕ Var 2)) refl

sweep_at_least : (k : ℤ) (t : Triangle) (p : Coord) → IsInTriangle t p → k ≤ℤ sweep (at_coord t.a) → k ≤ℤ sweep (at_coord t.b) → k ≤ℤ sweep (at_coord t.c) → k ≤ℤ sweep (at_coord p)
sweep_at_least k t p h ha hb hc =
    let up = not_negative (pos (2 ^ 30)) (pos 1) (neg_ℤ k) t p h
    (let e = sweep_value k t.a in omega (arith, lin)) (let e = sweep_value k t.b in omega (arith, lin)) (let e = sweep_value k t.c in omega (arith, lin)) in
    let e = sweep_value k p in omega (arith, lin)

sweep_at_most : (k : ℤ) (t : Triangle) (p : Coord) → IsInTriangle t p → sweep (at_coord t.a) ≤ℤ k → sweep (at_coord t.b) ≤ℤ k → sweep (at_coord t.c) ≤ℤ k → sweep (at_coord p) ≤ℤ k
sweep_at_most k t p h ha hb hc =
    let up = not_negative (neg_ℤ (pos (2 ^ 30))) (neg_ℤ (pos 1)) k t p h
    (let e = sweep_value_down k t.a in omega (arith, lin)) (let e = sweep_value_down k t.b in omega (arith, lin)) (let e = sweep_value_down k t.c in omega (arith, lin)) in
    let e = sweep_value_down k p in omega (arith, lin)

-- an end of u and v is on their line
ends : (u v : Coord) → (turn_of u v u ≡ pos 0) × (turn_of u v v ≡ pos 0)
unfolding turn_of
ends u v = (
  by_ring (u.x ∷ u.y ∷ v.x ∷ v.y ∷ []) (turn_term (Var 0) (Var 1) (Var 2) (Var 3) (Var 0) (Var 1)) (Lit (pos 0)) refl,
  by_ring (u.x ∷ u.y ∷ v.x ∷ v.y ∷ []) (turn_term (Var 0) (Var 1) (Var 2) (Var 3) (Var 2) (Var 3)) (Lit (pos 0)) refl,
)

-- ---- weights from numbers

by_weights : (t : Triangle) (p : Coord) (i j k : ℤ) → pos 0 ≤ℤ i → pos 0 ≤ℤ j → pos 0 ≤ℤ k → pos 0 <ℤ ((i +ℤ j) +ℤ k)
    → p.x *ℤ ((i +ℤ j) +ℤ k) ≡ ((i *ℤ t.a.x) +ℤ (j *ℤ t.b.x)) +ℤ (k *ℤ t.c.x)
    → p.y *ℤ ((i +ℤ j) +ℤ k) ≡ ((i *ℤ t.a.y) +ℤ (j *ℤ t.b.y)) +ℤ (k *ℤ t.c.y) → IsInTriangle t p
by_weights t p (pos i) (pos j) (pos k) hi hj hk positive x y = record { first = i; second = j; third = k; weighted = omega (arith, lin); x = x; y = y }
by_weights t p (pos i) (pos j) (negsuc k) hi hj hk positive x y = absurd hk.le
by_weights t p (pos i) (negsuc j) k hi hj hk positive x y = absurd hj.le
by_weights t p (negsuc i) j k hi hj hk positive x y = absurd hi.le

-- the turns of p against the three sides
abbrev points_of : Triangle → Coord → List ℤ
points_of t p = t.a.x ∷ t.a.y ∷ t.b.x ∷ t.b.y ∷ t.c.x ∷ t.c.y ∷ p.x ∷ p.y ∷ []

abbrev to_a : Term
to_a = turn_term (Var 2) (Var 3) (Var 4) (Var 5) (Var 6) (Var 7)

abbrev to_b : Term
to_b = turn_term (Var 4) (Var 5) (Var 0) (Var 1) (Var 6) (Var 7)

abbrev to_c : Term
to_c = turn_term (Var 0) (Var 1) (Var 2) (Var 3) (Var 6) (Var 7)

-- their sum is the turn of the triangle
turns_sum : (t : Triangle) (p : Coord) → (turn_of t.b t.c p +ℤ turn_of t.c t.a p) +ℤ turn_of t.a t.b p ≡ turn_of t.a t.b t.c
unfolding turn_of
turns_sum t p = by_ring (points_of t p) ((to_a ⊕ to_b) ⊕ to_c) (turn_term (Var 0) (Var 1) (Var 2) (Var 3) (Var 4) (Var 5)) refl

split_x : (t : Triangle) (p : Coord)
    → p.x *ℤ ((turn_of t.b t.c p +ℤ turn_of t.c t.a p) +ℤ turn_of t.a t.b p) ≡ ((turn_of t.b t.c p *ℤ t.a.x) +ℤ (turn_of t.c t.a p *ℤ t.b.x)) +ℤ (turn_of t.a t.b p *ℤ t.c.x)
unfolding turn_of
split_x t p = by_ring (points_of t p) (Var 6 ⊗ ((to_a ⊕ to_b) ⊕ to_c)) ((to_a ⊗ Var 0 ⊕ to_b ⊗ Var 2) ⊕ to_c ⊗ Var 4) refl

split_y : (t : Triangle) (p : Coord)
    → p.y *ℤ ((turn_of t.b t.c p +ℤ turn_of t.c t.a p) +ℤ turn_of t.a t.b p) ≡ ((turn_of t.b t.c p *ℤ t.a.y) +ℤ (turn_of t.c t.a p *ℤ t.b.y)) +ℤ (turn_of t.a t.b p *ℤ t.c.y)
unfolding turn_of
split_y t p = by_ring (points_of t p) (Var 7 ⊗ ((to_a ⊕ to_b) ⊕ to_c)) ((to_a ⊗ Var 1 ⊕ to_b ⊗ Var 3) ⊕ to_c ⊗ Var 5) refl

-- the same with all signs turned
turned : (r i j k u v w : ℤ) → r *ℤ ((i +ℤ j) +ℤ k) ≡ ((i *ℤ u) +ℤ (j *ℤ v)) +ℤ (k *ℤ w)
    → r *ℤ ((neg_ℤ i +ℤ neg_ℤ j) +ℤ neg_ℤ k) ≡ ((neg_ℤ i *ℤ u) +ℤ (neg_ℤ j *ℤ v)) +ℤ (neg_ℤ k *ℤ w)
turned r i j k u v w h =
    by_one (r ∷ i ∷ j ∷ k ∷ u ∷ v ∷ w ∷ []) (Var 0 ⊗ ((Neg (Var 1) ⊕ Neg (Var 2)) ⊕ Neg (Var 3))) ((Neg (Var 1) ⊗ Var 4 ⊕ Neg (Var 2) ⊗ Var 5) ⊕ Neg (Var 3) ⊗ Var 6)
    (Lit (negsuc 0)) (Var 0 ⊗ ((Var 1 ⊕ Var 2) ⊕ Var 3)) ((Var 1 ⊗ Var 4 ⊕ Var 2 ⊗ Var 5) ⊕ Var 3 ⊗ Var 6) refl h

-- ---- flat triangles

-- one of the corners
data Corner : Type 0 where
  first : Corner
  second : Corner
  third : Corner

abbrev at : Triangle → Corner → Coord
at t first = t.a
at t second = t.b
at t third = t.c

abbrev one_a : Corner → ℤ
one_a first = pos 1
one_a second = pos 0
one_a third = pos 0

abbrev one_b : Corner → ℤ
one_b first = pos 0
one_b second = pos 1
one_b third = pos 0

abbrev one_c : Corner → ℤ
one_c first = pos 0
one_c second = pos 0
one_c third = pos 1

sum_one : (u : Corner) → (one_a u +ℤ one_b u) +ℤ one_c u ≡ pos 1
sum_one first = refl
sum_one second = refl
sum_one third = refl

record AreNatural (u : Corner) : Type 0 where
  a : pos 0 ≤ℤ one_a u
  b : pos 0 ≤ℤ one_b u
  c : pos 0 ≤ℤ one_c u

are_natural : (u : Corner) → AreNatural u
are_natural first = record { a = omega (arith, lin); b = omega (arith, lin); c = omega (arith, lin) }
are_natural second = record { a = omega (arith, lin); b = omega (arith, lin); c = omega (arith, lin) }
are_natural third = record { a = omega (arith, lin); b = omega (arith, lin); c = omega (arith, lin) }

corner_x : (t : Triangle) (u : Corner) → (at t u).x ≡ ((one_a u *ℤ t.a.x) +ℤ (one_b u *ℤ t.b.x)) +ℤ (one_c u *ℤ t.c.x)
corner_x t first = omega (arith, lin, one_mul t.a.x, zero_mul t.b.x, zero_mul t.c.x)
corner_x t second = omega (arith, lin, zero_mul t.a.x, one_mul t.b.x, zero_mul t.c.x)
corner_x t third = omega (arith, lin, zero_mul t.a.x, zero_mul t.b.x, one_mul t.c.x)

corner_y : (t : Triangle) (u : Corner) → (at t u).y ≡ ((one_a u *ℤ t.a.y) +ℤ (one_b u *ℤ t.b.y)) +ℤ (one_c u *ℤ t.c.y)
corner_y t first = omega (arith, lin, one_mul t.a.y, zero_mul t.b.y, zero_mul t.c.y)
corner_y t second = omega (arith, lin, zero_mul t.a.y, one_mul t.b.y, zero_mul t.c.y)
corner_y t third = omega (arith, lin, zero_mul t.a.y, zero_mul t.b.y, one_mul t.c.y)

-- over plain variables: a mean of two means
mean_of_means : (r m n u v w u' v' w' x y z p q : ℤ)
    → (u +ℤ v) +ℤ w ≡ pos 1 → (u' +ℤ v') +ℤ w' ≡ pos 1
    → p ≡ ((u *ℤ x) +ℤ (v *ℤ y)) +ℤ (w *ℤ z) → q ≡ ((u' *ℤ x) +ℤ (v' *ℤ y)) +ℤ (w' *ℤ z)
    → r *ℤ (m +ℤ n) ≡ (m *ℤ p) +ℤ (n *ℤ q)
    → r *ℤ ((((m *ℤ u) +ℤ (n *ℤ u')) +ℤ ((m *ℤ v) +ℤ (n *ℤ v'))) +ℤ ((m *ℤ w) +ℤ (n *ℤ w')))
    ≡ ((((m *ℤ u) +ℤ (n *ℤ u')) *ℤ x) +ℤ (((m *ℤ v) +ℤ (n *ℤ v')) *ℤ y)) +ℤ (((m *ℤ w) +ℤ (n *ℤ w')) *ℤ z)
mean_of_means r m n u v w u' v' w' x y z p q one one' is is' h =
    let i = Var 1 ⊗ Var 3 ⊕ Var 2 ⊗ Var 6 in
    let j = Var 1 ⊗ Var 4 ⊕ Var 2 ⊗ Var 7 in
    let k = Var 1 ⊗ Var 5 ⊕ Var 2 ⊗ Var 8 in
    by_equations (r ∷ m ∷ n ∷ u ∷ v ∷ w ∷ u' ∷ v' ∷ w' ∷ x ∷ y ∷ z ∷ p ∷ q ∷ [])
    (Var 0 ⊗ ((i ⊕ j) ⊕ k)) ((i ⊗ Var 9 ⊕ j ⊗ Var 10) ⊕ k ⊗ Var 11)
    (
    (Var 0 ⊗ Var 1, (Var 3 ⊕ Var 4) ⊕ Var 5, Lit (pos 1))
    ∷ (Var 0 ⊗ Var 2, (Var 6 ⊕ Var 7) ⊕ Var 8, Lit (pos 1))
    ∷ (Var 1, Var 12, (Var 3 ⊗ Var 9 ⊕ Var 4 ⊗ Var 10) ⊕ Var 5 ⊗ Var 11)
    ∷ (Var 2, Var 13, (Var 6 ⊗ Var 9 ⊕ Var 7 ⊗ Var 10) ⊕ Var 8 ⊗ Var 11)
    ∷ (Lit (pos 1), Var 0 ⊗ (Var 1 ⊕ Var 2), Var 1 ⊗ Var 12 ⊕ Var 2 ⊗ Var 13)
    ∷ [])
    refl (one, (one', (is, (is', (h, tt)))))

sum_of_means : (m n u v w u' v' w' : ℤ) → (u +ℤ v) +ℤ w ≡ pos 1 → (u' +ℤ v') +ℤ w' ≡ pos 1
    → (((m *ℤ u) +ℤ (n *ℤ u')) +ℤ ((m *ℤ v) +ℤ (n *ℤ v'))) +ℤ ((m *ℤ w) +ℤ (n *ℤ w')) ≡ m +ℤ n
sum_of_means m n u v w u' v' w' one one' =
    by_two (m ∷ n ∷ u ∷ v ∷ w ∷ u' ∷ v' ∷ w' ∷ [])
    (((Var 0 ⊗ Var 2 ⊕ Var 1 ⊗ Var 5) ⊕ (Var 0 ⊗ Var 3 ⊕ Var 1 ⊗ Var 6)) ⊕ (Var 0 ⊗ Var 4 ⊕ Var 1 ⊗ Var 7)) (Var 0 ⊕ Var 1)
    (Var 0) ((Var 2 ⊕ Var 3) ⊕ Var 4) (Lit (pos 1)) (Var 1) ((Var 5 ⊕ Var 6) ⊕ Var 7) (Lit (pos 1)) refl one one'

both_natural : (m n u v : ℤ) → pos 0 ≤ℤ m → pos 0 ≤ℤ n → pos 0 ≤ℤ u → pos 0 ≤ℤ v → pos 0 ≤ℤ ((m *ℤ u) +ℤ (n *ℤ v))
both_natural m n u v hm hn hu hv =
    let first = nonneg_times_nonneg {x = m} {y = u} hm hu in
    let second = nonneg_times_nonneg {x = n} {y = v} hn hv in
    omega (arith, lin)

-- a mean of two corners is in the triangle
mean_in : (t : Triangle) (p : Coord) (u v : Corner) (m n : ℤ) → pos 0 ≤ℤ m → pos 0 ≤ℤ n → pos 0 <ℤ (m +ℤ n)
    → p.x *ℤ (m +ℤ n) ≡ (m *ℤ (at t u).x) +ℤ (n *ℤ (at t v).x) → p.y *ℤ (m +ℤ n) ≡ (m *ℤ (at t u).y) +ℤ (n *ℤ (at t v).y) → IsInTriangle t p
mean_in t p u v m n hm hn positive x y =
    let hu = are_natural u in
    let hv = are_natural v in
    let sum = sum_of_means m n (one_a u) (one_b u) (one_c u) (one_a v) (one_b v) (one_c v) (sum_one u) (sum_one v) in
    by_weights t p ((m *ℤ one_a u) +ℤ (n *ℤ one_a v)) ((m *ℤ one_b u) +ℤ (n *ℤ one_b v)) ((m *ℤ one_c u) +ℤ (n *ℤ one_c v))
    (both_natural m n (one_a u) (one_a v) hm hn hu.a hv.a) (both_natural m n (one_b u) (one_b v) hm hn hu.b hv.b) (both_natural m n (one_c u) (one_c v) hm hn hu.c hv.c)
    (subst (λ z. pos 0 <ℤ z) (sym sum) positive)
    (mean_of_means p.x m n (one_a u) (one_b u) (one_c u) (one_a v) (one_b v) (one_c v) t.a.x t.b.x t.c.x (at t u).x (at t v).x (sum_one u) (sum_one v) (corner_x t u) (corner_x t v) x)
    (mean_of_means p.y m n (one_a u) (one_b u) (one_c u) (one_a v) (one_b v) (one_c v) t.a.y t.b.y t.c.y (at t u).y (at t v).y (sum_one u) (sum_one v) (corner_y t u) (corner_y t v) y)

-- a point of the line through u and v, by its sweep value
on_line_x : (u v p : Coord) → turn_of u v p ≡ pos 0
    → p.x *ℤ ((sweep (at_coord v) -ℤ sweep (at_coord p)) +ℤ (sweep (at_coord p) -ℤ sweep (at_coord u)))
    ≡ ((sweep (at_coord v) -ℤ sweep (at_coord p)) *ℤ u.x) +ℤ ((sweep (at_coord p) -ℤ sweep (at_coord u)) *ℤ v.x)
unfolding turn_of sweep
on_line_x u v p zero =
    let s = λ (x y : Term). Var 6 ⊗ x ⊕ y in
    by_one (u.x ∷ u.y ∷ v.x ∷ v.y ∷ p.x ∷ p.y ∷ pos (2 ^ 30) ∷ [])
    (Var 4 ⊗ ((s (Var 2) (Var 3) ⊖ s (Var 4) (Var 5)) ⊕ (s (Var 4) (Var 5) ⊖ s (Var 0) (Var 1))))
    ((s (Var 2) (Var 3) ⊖ s (Var 4) (Var 5)) ⊗ Var 0 ⊕ (s (Var 4) (Var 5) ⊖ s (Var 0) (Var 1)) ⊗ Var 2)
    (Lit (negsuc 0)) (turn_term (Var 0) (Var 1) (Var 2) (Var 3) (Var 4) (Var 5)) (Lit (pos 0)) refl zero

on_line_y : (u v p : Coord) → turn_of u v p ≡ pos 0
    → p.y *ℤ ((sweep (at_coord v) -ℤ sweep (at_coord p)) +ℤ (sweep (at_coord p) -ℤ sweep (at_coord u)))
    ≡ ((sweep (at_coord v) -ℤ sweep (at_coord p)) *ℤ u.y) +ℤ ((sweep (at_coord p) -ℤ sweep (at_coord u)) *ℤ v.y)
unfolding turn_of sweep
on_line_y u v p zero =
    let s = λ (x y : Term). Var 6 ⊗ x ⊕ y in
    by_one (u.x ∷ u.y ∷ v.x ∷ v.y ∷ p.x ∷ p.y ∷ pos (2 ^ 30) ∷ [])
    (Var 5 ⊗ ((s (Var 2) (Var 3) ⊖ s (Var 4) (Var 5)) ⊕ (s (Var 4) (Var 5) ⊖ s (Var 0) (Var 1))))
    ((s (Var 2) (Var 3) ⊖ s (Var 4) (Var 5)) ⊗ Var 1 ⊕ (s (Var 4) (Var 5) ⊖ s (Var 0) (Var 1)) ⊗ Var 3)
    (Var 6) (turn_term (Var 0) (Var 1) (Var 2) (Var 3) (Var 4) (Var 5)) (Lit (pos 0)) refl zero

once : (r s : ℤ) → r ≡ s → r *ℤ (pos 1 +ℤ pos 0) ≡ (pos 1 *ℤ s) +ℤ (pos 0 *ℤ s)
once r s h = by_one (r ∷ s ∷ []) (Var 0 ⊗ (Lit (pos 1) ⊕ Lit (pos 0))) (Lit (pos 1) ⊗ Var 1 ⊕ Lit (pos 0) ⊗ Var 1) (Lit (pos 1)) (Var 0) (Var 1) refl h

module _ (t : Triangle) (p : Coord) (ra : IsInRange t.a) (rb : IsInRange t.b) (rc : IsInRange t.c) (rp : IsInRange p) where
  in_range : (u : Corner) → IsInRange (at t u)
  in_range first = ra
  in_range second = rb
  in_range third = rc

  abbrev s : Coord → ℤ
  s q = sweep (at_coord q)

  between_in : (u v : Corner) → turn_of (at t u) (at t v) p ≡ pos 0 → s (at t u) ≤ℤ s p → s p ≤ℤ s (at t v) → IsInTriangle t p
  between_in u v zero low high =
      elim (lt_or_ge (s (at t u)) (s (at t v))) [
        | inl less ↦ mean_in t p u v (s (at t v) -ℤ s p) (s p -ℤ s (at t u)) (omega (arith, lin)) (omega (arith, lin)) (omega (arith, lin)) (on_line_x (at t u) (at t v) p zero) (on_line_y (at t u) (at t v) p zero)
        | inr same ↦ (
            let one : p ≡ at t u = sweep-one_to_one p (at t u) rp (in_range u) (omega (arith, lin)) in
            mean_in t p u u (pos 1) (pos 0) (omega (arith, lin)) (omega (arith, lin)) (omega (arith, lin)) (once p.x (at t u).x (ap (λ (q : Coord). q.x) one)) (once p.y (at t u).y (ap (λ (q : Coord). q.y) one)))
      ]

  -- where the three turns are 0, so is that of p against any two corners
  own_zero : (u : Coord) → turn_of u u p ≡ pos 0
  unfolding turn_of
  own_zero u = by_ring (u.x ∷ u.y ∷ p.x ∷ p.y ∷ []) (turn_term (Var 0) (Var 1) (Var 0) (Var 1) (Var 2) (Var 3)) (Lit (pos 0)) refl

  back_zero : (u v : Coord) → turn_of u v p ≡ pos 0 → turn_of v u p ≡ pos 0
  back_zero u v zero = let e = turn-first_two u v p in omega (arith, lin)

  zero_of : turn_of t.a t.b p ≡ pos 0 → turn_of t.b t.c p ≡ pos 0 → turn_of t.c t.a p ≡ pos 0 → (u v : Corner) → turn_of (at t u) (at t v) p ≡ pos 0
  zero_of ab bc ca first first = own_zero t.a
  zero_of ab bc ca first second = ab
  zero_of ab bc ca first third = back_zero t.c t.a ca
  zero_of ab bc ca second first = back_zero t.a t.b ab
  zero_of ab bc ca second second = own_zero t.b
  zero_of ab bc ca second third = bc
  zero_of ab bc ca third first = ca
  zero_of ab bc ca third second = back_zero t.b t.c bc
  zero_of ab bc ca third third = own_zero t.c

  -- ---- the order of coordinates

  not_before : (u v : Coord) → IsInRange u → IsInRange v → not (is_before u v) ≡ true → s v ≤ℤ s u
  not_before u v ru rv h =
      elim (lt_or_ge (s u) (s v)) [
        | inl less ↦ absurd (let k = before-sweep u v ru rv less in let e = ap not k in cc)
        | inr ge ↦ ge
      ]

  is_not_before : (x : Bool) → (x ≡ true → ⊥) → not x ≡ true
  is_not_before true h = absurd (h refl)
  is_not_before false h = refl

  some_of : (x y z : Bool) → (x ≡ true → y ≡ true → z ≡ true → ⊥) → (not x || not y || not z) ≡ true
  some_of true true true h = absurd (h refl refl refl)
  some_of true true false h = refl
  some_of true false z h = by z
    where
      by : (z : Bool) → (not true || not false || not z) ≡ true
      by true = refl
      by false = refl
  some_of false y z h = by y z
    where
      by : (y z : Bool) → (not false || not y || not z) ≡ true
      by true true = refl
      by true false = refl
      by false true = refl
      by false false = refl

  low_corner : (not (is_before p t.a) || not (is_before p t.b) || not (is_before p t.c)) ≡ true → (u : Corner) × (s (at t u) ≤ℤ s p)
  low_corner h =
      elim (or_cases (not (is_before p t.a) || not (is_before p t.b)) (not (is_before p t.c)) h) [
        | inl k ↦ elim (or_cases (not (is_before p t.a)) (not (is_before p t.b)) k) [
          | inl e ↦ (first, not_before p t.a rp ra e)
          | inr e ↦ (second, not_before p t.b rp rb e)
        ]
        | inr e ↦ (third, not_before p t.c rp rc e)
      ]

  high_corner : (not (is_before t.a p) || not (is_before t.b p) || not (is_before t.c p)) ≡ true → (u : Corner) × (s p ≤ℤ s (at t u))
  high_corner h =
      elim (or_cases (not (is_before t.a p) || not (is_before t.b p)) (not (is_before t.c p)) h) [
        | inl k ↦ elim (or_cases (not (is_before t.a p)) (not (is_before t.b p)) k) [
          | inl e ↦ (first, not_before t.a p ra rp e)
          | inr e ↦ (second, not_before t.b p rb rp e)
        ]
        | inr e ↦ (third, not_before t.c p rc rp e)
      ]

  flat_in : turn_of t.a t.b p ≡ pos 0 → turn_of t.b t.c p ≡ pos 0 → turn_of t.c t.a p ≡ pos 0 → is_amid t.a t.b t.c p ≡ true → IsInTriangle t p
  flat_in ab bc ca amid =
      let parts = and_parts (not (is_before p t.a) || not (is_before p t.b) || not (is_before p t.c)) (not (is_before t.a p) || not (is_before t.b p) || not (is_before t.c p)) amid in
      let low = low_corner parts.0 in
      let high = high_corner parts.1 in
      between_in low.0 high.0 (zero_of ab bc ca low.0 high.0) low.1 high.1

  amid_of : IsInTriangle t p → is_amid t.a t.b t.c p ≡ true
  amid_of h =
      and_from _ _
      (some_of (is_before p t.a) (is_before p t.b) (is_before p t.c) (λ a b c. (
      let la = sweep-before p t.a rp ra a in
      let lb = sweep-before p t.b rp rb b in
      let lc = sweep-before p t.c rp rc c in
      let above = sweep_at_least (s p +ℤ pos 1) t p h (omega (arith, lin)) (omega (arith, lin)) (omega (arith, lin)) in
      omega (arith, lin))))
      (some_of (is_before t.a p) (is_before t.b p) (is_before t.c p) (λ a b c. (
      let la = sweep-before t.a p ra rp a in
      let lb = sweep-before t.b p rb rp b in
      let lc = sweep-before t.c p rc rp c in
      let below = sweep_at_most (s p -ℤ pos 1) t p h (omega (arith, lin)) (omega (arith, lin)) (omega (arith, lin)) in
      omega (arith, lin))))

  -- ---- the signs of the turns

  all_at_least : (x y z : ℤ) → pos 0 ≤ℤ x → pos 0 ≤ℤ y → pos 0 ≤ℤ z → are_one_way x y z ≡ true
  all_at_least x y z hx hy hz =
      or_left (int_le (pos 0) x && int_le (pos 0) y && int_le (pos 0) z) (int_le x (pos 0) && int_le y (pos 0) && int_le z (pos 0))
      (and_from (int_le (pos 0) x && int_le (pos 0) y) (int_le (pos 0) z) (and_from (int_le (pos 0) x) (int_le (pos 0) y) ((int_le_is (pos 0) x).1 hx) ((int_le_is (pos 0) y).1 hy)) ((int_le_is (pos 0) z).1 hz))

  all_at_most : (x y z : ℤ) → x ≤ℤ pos 0 → y ≤ℤ pos 0 → z ≤ℤ pos 0 → are_one_way x y z ≡ true
  all_at_most x y z hx hy hz =
      or_right (int_le (pos 0) x && int_le (pos 0) y && int_le (pos 0) z) (int_le x (pos 0) && int_le y (pos 0) && int_le z (pos 0))
      (and_from (int_le x (pos 0) && int_le y (pos 0)) (int_le z (pos 0)) (and_from (int_le x (pos 0)) (int_le y (pos 0)) ((int_le_is x (pos 0)).1 hx) ((int_le_is y (pos 0)).1 hy)) ((int_le_is z (pos 0)).1 hz))

  one_way_of : IsInTriangle t p → are_one_way (turn_of t.a t.b p) (turn_of t.b t.c p) (turn_of t.c t.a p) ≡ true
  one_way_of h =
      elim (lt_or_ge (turn_of t.a t.b t.c) (pos 0)) [
        | inr left ↦ all_at_least _ _ _
            (turn_not_negative t.a t.b t p h (le_of_eq (sym (ends t.a t.b).0)) (le_of_eq (sym (ends t.a t.b).1)) left)
            (turn_not_negative t.b t.c t p h (let e = turn-round t.a t.b t.c in omega (arith, lin)) (le_of_eq (sym (ends t.b t.c).0)) (le_of_eq (sym (ends t.b t.c).1)))
            (turn_not_negative t.c t.a t p h (le_of_eq (sym (ends t.c t.a).1)) (let e = turn-round t.b t.c t.a in let f = turn-round t.a t.b t.c in omega (arith, lin)) (le_of_eq (sym (ends t.c t.a).0)))
        | inl right ↦ all_at_most _ _ _
            (positive_back t.a t.b p (turn_not_negative t.b t.a t p h (le_of_eq (sym (ends t.b t.a).1)) (le_of_eq (sym (ends t.b t.a).0)) (let e = turn-first_two t.a t.b t.c in omega (arith, lin))))
            (positive_back t.b t.c p (turn_not_negative t.c t.b t p h (let e = turn-round t.a t.b t.c in let f = turn-first_two t.b t.c t.a in omega (arith, lin)) (le_of_eq (sym (ends t.c t.b).1)) (le_of_eq (sym (ends t.c t.b).0))))
            (positive_back t.c t.a p (turn_not_negative t.a t.c t p h (le_of_eq (sym (ends t.a t.c).0)) (let e = turn-round t.b t.c t.a in let f = turn-round t.a t.b t.c in let g = turn-first_two t.c t.a t.b in omega (arith, lin)) (le_of_eq (sym (ends t.a t.c).1))))
      ]
    where
      positive_back : (u v q : Coord) → pos 0 ≤ℤ turn_of v u q → turn_of u v q ≤ℤ pos 0
      positive_back u v q h = let e = turn-first_two u v q in omega (arith, lin)

  left_in : pos 0 ≤ℤ turn_of t.a t.b p → pos 0 ≤ℤ turn_of t.b t.c p → pos 0 ≤ℤ turn_of t.c t.a p → is_amid t.a t.b t.c p ≡ true → IsInTriangle t p
  left_in ab bc ca amid =
      elim (lt_or_ge (pos 0) ((turn_of t.b t.c p +ℤ turn_of t.c t.a p) +ℤ turn_of t.a t.b p)) [
        | inl bent ↦ by_weights t p (turn_of t.b t.c p) (turn_of t.c t.a p) (turn_of t.a t.b p) bc ca ab bent (split_x t p) (split_y t p)
        | inr flat ↦ flat_in (omega (arith, lin)) (omega (arith, lin)) (omega (arith, lin)) amid
      ]

  right_in : turn_of t.a t.b p ≤ℤ pos 0 → turn_of t.b t.c p ≤ℤ pos 0 → turn_of t.c t.a p ≤ℤ pos 0 → is_amid t.a t.b t.c p ≡ true → IsInTriangle t p
  right_in ab bc ca amid =
      elim (lt_or_ge ((turn_of t.b t.c p +ℤ turn_of t.c t.a p) +ℤ turn_of t.a t.b p) (pos 0)) [
        | inl bent ↦ by_weights t p (neg_ℤ (turn_of t.b t.c p)) (neg_ℤ (turn_of t.c t.a p)) (neg_ℤ (turn_of t.a t.b p)) (omega (arith, lin)) (omega (arith, lin)) (omega (arith, lin)) (omega (arith, lin))
            (turned p.x (turn_of t.b t.c p) (turn_of t.c t.a p) (turn_of t.a t.b p) t.a.x t.b.x t.c.x (split_x t p))
            (turned p.y (turn_of t.b t.c p) (turn_of t.c t.a p) (turn_of t.a t.b p) t.a.y t.b.y t.c.y (split_y t p))
        | inr flat ↦ flat_in (omega (arith, lin)) (omega (arith, lin)) (omega (arith, lin)) amid
      ]

  three : (x y z : Bool) → (x && y && z) ≡ true → (x ≡ true) × (y ≡ true) × (z ≡ true)
  three x y z h = let outer = and_parts (x && y) z h in let inner = and_parts x y outer.0 in (inner.0, inner.1, outer.1)

  tests_in : are_one_way (turn_of t.a t.b p) (turn_of t.b t.c p) (turn_of t.c t.a p) ≡ true → is_amid t.a t.b t.c p ≡ true → IsInTriangle t p
  tests_in one_way amid =
      let x = turn_of t.a t.b p in
      let y = turn_of t.b t.c p in
      let z = turn_of t.c t.a p in
      elim (or_cases (int_le (pos 0) x && int_le (pos 0) y && int_le (pos 0) z) (int_le x (pos 0) && int_le y (pos 0) && int_le z (pos 0)) one_way) [
        | inl left ↦ (let k = three _ _ _ left in left_in ((int_le_is (pos 0) x).0 k.0) ((int_le_is (pos 0) y).0 k.1) ((int_le_is (pos 0) z).0 k.2) amid)
        | inr right ↦ (let k = three _ _ _ right in right_in ((int_le_is x (pos 0)).0 k.0) ((int_le_is y (pos 0)).0 k.1) ((int_le_is z (pos 0)).0 k.2) amid)
      ]

  -- the two tests tell whether p is in the closed triangle
  pub in_triangle_is : IsTrue (are_one_way (turn_of t.a t.b p) (turn_of t.b t.c p) (turn_of t.c t.a p) && is_amid t.a t.b t.c p) ↔ IsInTriangle t p
  in_triangle_is = (
    λ h. (let k = and_parts (are_one_way (turn_of t.a t.b p) (turn_of t.b t.c p) (turn_of t.c t.a p)) (is_amid t.a t.b t.c p) h in tests_in k.0 k.1),
    λ h. and_from (are_one_way (turn_of t.a t.b p) (turn_of t.b t.c p) (turn_of t.c t.a p)) (is_amid t.a t.b t.c p) (one_way_of h) (amid_of h),
  )

-- ---- boxes

times_one : (k x y : ℤ) → value (pos 1) (pos 0) (neg_ℤ k) (record { x = x; y = y }) ≡ x -ℤ k
times_one k x y = omega (arith, lin, one_mul x, zero_mul y)

less_one : (k x y : ℤ) → value (negsuc 0) (pos 0) k (record { x = x; y = y }) ≡ k -ℤ x
less_one k x y = omega (arith, lin, minus_one_mul x, zero_mul y)

second_one : (k x y : ℤ) → value (pos 0) (pos 1) (neg_ℤ k) (record { x = x; y = y }) ≡ y -ℤ k
second_one k x y = omega (arith, lin, zero_mul x, one_mul y)

second_less_one : (k x y : ℤ) → value (pos 0) (negsuc 0) k (record { x = x; y = y }) ≡ k -ℤ y
second_less_one k x y = omega (arith, lin, zero_mul x, minus_one_mul y)

-- a box that has the corners has the triangle
pub box_has : (t : Triangle) (p : Coord) (box : Rect) → IsInside (box_of_point t.a) box → IsInside (box_of_point t.b) box → IsInside (box_of_point t.c) box → IsInTriangle t p → IsInside (box_of_point p) box
box_has t p box a b c h = record {
  left = (
      let k = box.lo.x in
      let up = not_negative (pos 1) (pos 0) (neg_ℤ k) t p h
      (let e = times_one k t.a.x t.a.y in let f = a.left in omega (arith, lin)) (let e = times_one k t.b.x t.b.y in let f = b.left in omega (arith, lin)) (let e = times_one k t.c.x t.c.y in let f = c.left in omega (arith, lin)) in
      let e = times_one k p.x p.y in omega (arith, lin));
  right = (
      let k = box.hi.x in
      let up = not_negative (negsuc 0) (pos 0) k t p h
      (let e = less_one k t.a.x t.a.y in let f = a.right in omega (arith, lin)) (let e = less_one k t.b.x t.b.y in let f = b.right in omega (arith, lin)) (let e = less_one k t.c.x t.c.y in let f = c.right in omega (arith, lin)) in
      let e = less_one k p.x p.y in omega (arith, lin));
  bottom = (
      let k = box.lo.y in
      let up = not_negative (pos 0) (pos 1) (neg_ℤ k) t p h
      (let e = second_one k t.a.x t.a.y in let f = a.bottom in omega (arith, lin)) (let e = second_one k t.b.x t.b.y in let f = b.bottom in omega (arith, lin)) (let e = second_one k t.c.x t.c.y in let f = c.bottom in omega (arith, lin)) in
      let e = second_one k p.x p.y in omega (arith, lin));
  top = (
      let k = box.hi.y in
      let up = not_negative (pos 0) (negsuc 0) k t p h
      (let e = second_less_one k t.a.x t.a.y in let f = a.top in omega (arith, lin)) (let e = second_less_one k t.b.x t.b.y in let f = b.top in omega (arith, lin)) (let e = second_less_one k t.c.x t.c.y in let f = c.top in omega (arith, lin)) in
      let e = second_less_one k p.x p.y in omega (arith, lin));
}
