-- Whether an edge is over a point, from the vectors that lead from its ends to the point.
use mathlib.Core.List.{[], ◌∷◌}
use Rattle.std.proofs.Common.{◌≡◌, refl, sym, ◌∙◌, ◌^◌, Bool, true, false, IsTrue, ℤ, pos, ◌+ℤ◌, ◌-ℤ◌, ◌*ℤ◌, ◌<ℤ◌, ◌≤ℤ◌, int_lt, arith}
use Rattle.integer_laws.proofs.Ring.{lin, by_ring, Var, ◌⊕◌, ◌⊖◌, ◌⊗◌}
use Rattle.integer_laws.proofs.Compare.{int_lt_is}
use Rattle.cov_types.specs.declared.coord.Coord.{Coord}
use Rattle.cov_types.specs.declared.seg.Seg.{Seg}
use Rattle.plane.specs.Point.{Point, at_coord}
use Rattle.plane.specs.Segment.{side}
use Rattle.plane.specs.Ray.{sweep, is_over}
use Rattle.plane.specs.Below.{sweep_rise}
use Rattle.plane.proofs.Over.{over-is}
use Rattle.plane.proofs.Same.{same_tests}
use Rattle.grid_pred.specs.declared.ray.RationalPoint.{RationalPoint}
use Rattle.grid_pred.specs.declared.ray.Vector.{Vector}
use Rattle.grid_pred.specs.Ray.{Writes}

false_from : (b : Bool) → ¬ IsTrue b → b ≡ false
false_from true h = absurd (h refl)
false_from false h = refl

-- the sweep value of q above that of c, times the denominator
rise_is : (c : Coord) (q : Point) → (pos (2 ^ 30) *ℤ (q.x -ℤ (c.x *ℤ pos q.d))) +ℤ (q.y -ℤ (c.y *ℤ pos q.d)) ≡ sweep q -ℤ (sweep (at_coord c) *ℤ pos q.d)
unfolding sweep
rise_is c q =
    by_ring (pos (2 ^ 30) ∷ c.x ∷ c.y ∷ q.x ∷ q.y ∷ pos q.d ∷ [])
    (Var 0 ⊗ (Var 3 ⊖ Var 1 ⊗ Var 5) ⊕ (Var 4 ⊖ Var 2 ⊗ Var 5))
    ((Var 0 ⊗ Var 3 ⊕ Var 4) ⊖ (Var 0 ⊗ Var 1 ⊕ Var 2) ⊗ Var 5) refl

-- how much the sweep value grows along a segment, by its width and its height
pub rise_by : (s : Seg) (x y : ℤ) → x ≡ s.hi.x -ℤ s.lo.x → y ≡ s.hi.y -ℤ s.lo.y → (pos (2 ^ 30) *ℤ x) +ℤ y ≡ sweep_rise s
unfolding sweep
rise_by s x y is_x is_y =
    (λ i. (pos (2 ^ 30) *ℤ is_x i) +ℤ is_y i)
    ∙ by_ring (pos (2 ^ 30) ∷ s.lo.x ∷ s.lo.y ∷ s.hi.x ∷ s.hi.y ∷ [])
    (Var 0 ⊗ (Var 3 ⊖ Var 1) ⊕ (Var 4 ⊖ Var 2)) ((Var 0 ⊗ Var 3 ⊕ Var 4) ⊖ (Var 0 ⊗ Var 1 ⊕ Var 2)) refl

-- v leads from c to p, times the denominator of p
pub record Leads (c : Coord) (p : RationalPoint) (v : Vector) : Type 0 where
  pub x : v.x ≡ p.x -ℤ (c.x *ℤ p.d)
  pub y : v.y ≡ p.y -ℤ (c.y *ℤ p.d)

pub rises_by : (c : Coord) (p : RationalPoint) (v : Vector) (q : Point) (r : ℤ) → Leads c p v → Writes p q → r ≡ (pos (2 ^ 30) *ℤ v.x) +ℤ v.y → r ≡ sweep q -ℤ (sweep (at_coord c) *ℤ pos q.d)
rises_by c p v q r l w e =
    e
    ∙ (λ i. (pos (2 ^ 30) *ℤ l.x i) +ℤ l.y i)
    ∙ (λ i. (pos (2 ^ 30) *ℤ (w.x i -ℤ (c.x *ℤ w.d i))) +ℤ (w.y i -ℤ (c.y *ℤ w.d i)))
    ∙ rise_is c q

pub sides_by : (e : Seg) (p : RationalPoint) (v : Vector) (q : Point) (s : ℤ) → Leads e.lo p v → Writes p q
    → s ≡ ((e.hi.x -ℤ e.lo.x) *ℤ v.y) -ℤ ((e.hi.y -ℤ e.lo.y) *ℤ v.x) → s ≡ side e q
unfolding side
sides_by e p v q s l w h =
    h
    ∙ (λ i. ((e.hi.x -ℤ e.lo.x) *ℤ l.y i) -ℤ ((e.hi.y -ℤ e.lo.y) *ℤ l.x i))
    ∙ (λ i. ((e.hi.x -ℤ e.lo.x) *ℤ (w.y i -ℤ (e.lo.y *ℤ w.d i))) -ℤ ((e.hi.y -ℤ e.lo.y) *ℤ (w.x i -ℤ (e.lo.x *ℤ w.d i))))

-- a point before lo has the edge not over it
pub not_over-before_lo : (e : Seg) (p : RationalPoint) (v : Vector) (q : Point) (r : ℤ) → Leads e.lo p v → Writes p q → r ≡ (pos (2 ^ 30) *ℤ v.x) +ℤ v.y → r <ℤ pos 0 → false ≡ is_over e q
not_over-before_lo e p v q r l w h negative =
    let gap = rises_by e.lo p v q r l w h in
    let at = over-is e q in
    sym (false_from (is_over e q) (λ t. (let from = (at.0 t).from in omega (arith, lin))))

-- nor has one that is not before hi
pub not_over-past_hi : (e : Seg) (p : RationalPoint) (v : Vector) (q : Point) (r : ℤ) → Leads e.hi p v → Writes p q → r ≡ (pos (2 ^ 30) *ℤ v.x) +ℤ v.y → pos 0 ≤ℤ r → false ≡ is_over e q
not_over-past_hi e p v q r l w h nonneg =
    let gap = rises_by e.hi p v q r l w h in
    let at = over-is e q in
    sym (false_from (is_over e q) (λ t. (let to = (at.0 t).to in omega (arith, lin))))

-- between them the side decides
pub over-by_side : (e : Seg) (p : RationalPoint) (v u : Vector) (q : Point) (r t s : ℤ) → Leads e.lo p v → Leads e.hi p u → Writes p q
    → r ≡ (pos (2 ^ 30) *ℤ v.x) +ℤ v.y → t ≡ (pos (2 ^ 30) *ℤ u.x) +ℤ u.y → s ≡ ((e.hi.x -ℤ e.lo.x) *ℤ v.y) -ℤ ((e.hi.y -ℤ e.lo.y) *ℤ v.x)
    → pos 0 ≤ℤ r → t <ℤ pos 0 → int_lt s (pos 0) ≡ is_over e q
over-by_side e p v u q r t s l m w hr ht hs from to =
    let low = rises_by e.lo p v q r l w hr in
    let high = rises_by e.hi p u q t m w ht in
    let same = sides_by e p v q s l w hs in
    let at = over-is e q in
    let test = int_lt_is s (pos 0) in
    same_tests (int_lt s (pos 0)) (is_over e q)
    (λ h. at.1 (record { from = omega (arith, lin); to = omega (arith, lin); below = (let b = test.0 h in omega (arith, lin)) }))
    (λ h. test.1 (let b = (at.0 h).below in omega (arith, lin)))
