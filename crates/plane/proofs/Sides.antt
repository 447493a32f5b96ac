-- Turns of three grid points, and the side of a point against a segment.
use mathlib.Core.List.{List, [], ◌∷◌}
use Rattle.std.proofs.Common.{◌≡◌, refl, sym, ◌∙◌, ap, ℤ, pos, neg_ℤ, ◌+ℤ◌, ◌-ℤ◌, ◌*ℤ◌}
use Rattle.integer_laws.proofs.Ring.{by_ring, Term, Var, Lit, ◌⊕◌, ◌⊖◌, ◌⊗◌, Neg}
use Rattle.cov_types.specs.declared.coord.Coord.{Coord}
use Rattle.cov_types.specs.declared.seg.Seg.{Seg}
use Rattle.plane.specs.Point.{Point, SamePoint, at_coord}
use Rattle.plane.specs.Segment.{IsOn, turn_of, side}
use Rattle.plane.proofs.Forms.{form, form_zero-between, form-same}

-- ---- turns

-- the turn of three points whose coordinates are numbered
abbrev turn_term : Term → Term → Term → Term → Term → Term → Term
turn_term ax ay bx by cx cy = (bx ⊖ ax) ⊗ (cy ⊖ ay) ⊖ (by ⊖ ay) ⊗ (cx ⊖ ax)

abbrev abc : Term
abc = turn_term (Var 0) (Var 1) (Var 2) (Var 3) (Var 4) (Var 5)

abbrev coordinates : Coord → Coord → Coord → List ℤ
coordinates a b c = a.x ∷ a.y ∷ b.x ∷ b.y ∷ c.x ∷ c.y ∷ []

-- exchanging two points turns the other way
pub turn-first_two : (a b c : Coord) → turn_of b a c ≡ neg_ℤ (turn_of a b c)
unfolding turn_of
turn-first_two a b c = by_ring (coordinates a b c) (turn_term (Var 2) (Var 3) (Var 0) (Var 1) (Var 4) (Var 5)) (Neg abc) refl

pub turn-last_two : (a b c : Coord) → turn_of a c b ≡ neg_ℤ (turn_of a b c)
unfolding turn_of
turn-last_two a b c = by_ring (coordinates a b c) (turn_term (Var 0) (Var 1) (Var 4) (Var 5) (Var 2) (Var 3)) (Neg abc) refl

pub turn-outer_two : (a b c : Coord) → turn_of c b a ≡ neg_ℤ (turn_of a b c)
unfolding turn_of
turn-outer_two a b c = by_ring (coordinates a b c) (turn_term (Var 4) (Var 5) (Var 2) (Var 3) (Var 0) (Var 1)) (Neg abc) refl

-- going round does not change the turn
pub turn-round : (a b c : Coord) → turn_of b c a ≡ turn_of a b c
unfolding turn_of
turn-round a b c = by_ring (coordinates a b c) (turn_term (Var 2) (Var 3) (Var 4) (Var 5) (Var 0) (Var 1)) abc refl

-- two equal points turn by nothing
pub turn-same_ends : (a b : Coord) → turn_of a b a ≡ pos 0
unfolding turn_of
turn-same_ends a b = by_ring (coordinates a b a) (turn_term (Var 0) (Var 1) (Var 2) (Var 3) (Var 0) (Var 1)) (Lit (pos 0)) refl

pub turn-same_last : (a b : Coord) → turn_of a b b ≡ pos 0
unfolding turn_of
turn-same_last a b = by_ring (coordinates a b b) (turn_term (Var 0) (Var 1) (Var 2) (Var 3) (Var 2) (Var 3)) (Lit (pos 0)) refl

pub turn-same_first : (a b : Coord) → turn_of a a b ≡ pos 0
unfolding turn_of
turn-same_first a b = by_ring (coordinates a a b) (turn_term (Var 0) (Var 1) (Var 0) (Var 1) (Var 4) (Var 5)) (Lit (pos 0)) refl

-- the turns of a fourth point against the three sides add up to the turn of the triangle
pub turn-split : (a b c d : Coord) → (turn_of a b d +ℤ turn_of b c d) +ℤ turn_of c a d ≡ turn_of a b c
unfolding turn_of
turn-split a b c d =
    by_ring (a.x ∷ a.y ∷ b.x ∷ b.y ∷ c.x ∷ c.y ∷ d.x ∷ d.y ∷ [])
    ((turn_term (Var 0) (Var 1) (Var 2) (Var 3) (Var 6) (Var 7) ⊕ turn_term (Var 2) (Var 3) (Var 4) (Var 5) (Var 6) (Var 7)) ⊕ turn_term (Var 4) (Var 5) (Var 0) (Var 1) (Var 6) (Var 7))
    abc refl

-- ---- sides

-- a side is a linear form
abbrev pub side_a : Seg → ℤ
side_a s = neg_ℤ (s.hi.y -ℤ s.lo.y)

abbrev pub side_b : Seg → ℤ
side_b s = s.hi.x -ℤ s.lo.x

abbrev pub side_c : Seg → ℤ
side_c s = ((s.hi.y -ℤ s.lo.y) *ℤ s.lo.x) -ℤ ((s.hi.x -ℤ s.lo.x) *ℤ s.lo.y)

-- the side of the point in variables 4, 5, 6 against the segment in variables 0 to 3
abbrev side_term : Term
side_term = (Var 2 ⊖ Var 0) ⊗ (Var 5 ⊖ Var 1 ⊗ Var 6) ⊖ (Var 3 ⊖ Var 1) ⊗ (Var 4 ⊖ Var 0 ⊗ Var 6)

pub side-form : (s : Seg) (p : Point) → side s p ≡ form (side_a s) (side_b s) (side_c s) p
unfolding side form
side-form s p =
    by_ring (s.lo.x ∷ s.lo.y ∷ s.hi.x ∷ s.hi.y ∷ p.x ∷ p.y ∷ pos p.d ∷ []) side_term
    ((Neg (Var 3 ⊖ Var 1) ⊗ Var 4 ⊕ (Var 2 ⊖ Var 0) ⊗ Var 5) ⊕ ((Var 3 ⊖ Var 1) ⊗ Var 0 ⊖ (Var 2 ⊖ Var 0) ⊗ Var 1) ⊗ Var 6) refl

-- the side of a grid point is its turn
pub side-at_coord : (s : Seg) (c : Coord) → side s (at_coord c) ≡ turn_of s.lo s.hi c
unfolding side turn_of
side-at_coord s c =
    by_ring (s.lo.x ∷ s.lo.y ∷ s.hi.x ∷ s.hi.y ∷ c.x ∷ c.y ∷ [])
    ((Var 2 ⊖ Var 0) ⊗ (Var 5 ⊖ Var 1 ⊗ Lit (pos 1)) ⊖ (Var 3 ⊖ Var 1) ⊗ (Var 4 ⊖ Var 0 ⊗ Lit (pos 1)))
    abc refl

-- the two ends are on the line
pub side-lo : (s : Seg) → side s (at_coord s.lo) ≡ pos 0
side-lo s = side-at_coord s s.lo ∙ turn-same_ends s.lo s.hi

pub side-hi : (s : Seg) → side s (at_coord s.hi) ≡ pos 0
side-hi s = side-at_coord s s.hi ∙ turn-same_last s.lo s.hi

-- and so is each point of the segment
pub side_zero-on : (s : Seg) (r : Point) → IsOn s r → side s r ≡ pos 0
side_zero-on s r h =
    side-form s r
    ∙ form_zero-between (side_a s) (side_b s) (side_c s) r (at_coord s.lo) (at_coord s.hi) h
    (sym (side-form s (at_coord s.lo)) ∙ side-lo s) (sym (side-form s (at_coord s.hi)) ∙ side-hi s)

-- one point has one side, times the other denominator
pub side-same : (s : Seg) (p q : Point) → SamePoint p q → side s p *ℤ pos q.d ≡ side s q *ℤ pos p.d
side-same s p q h =
    ap (λ x. x *ℤ pos q.d) (side-form s p) ∙ form-same (side_a s) (side_b s) (side_c s) p q h ∙ ap (λ x. x *ℤ pos p.d) (sym (side-form s q))
