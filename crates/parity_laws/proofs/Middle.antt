-- The upper side point of a segment and its midpoint: the same edges are over both.
use mathlib.Core.List.{[], ◌∷◌}
use Rattle.std.proofs.Common.{◌≡◌, refl, sym, ◌∙◌, ap, ◌^◌, ℕ, ◌%◌, ◌==◌, Bool, true, false, not, ◌&&◌, cond, ◌↔◌, List, Contains, count_by, IsTrue, int_lt, ℤ, pos, ◌+ℤ◌, ◌*ℤ◌, ◌<ℤ◌, arith}
use Rattle.cov_types.specs.Range.{IsSegInRange}
use Rattle.cov_types.specs.declared.coord.Coord.{Coord}
use Rattle.cov_types.specs.declared.edge_use.EdgeUse.{EdgeUse}
use Rattle.cov_types.specs.declared.seg.Seg.{Seg}
use Rattle.std.proofs.lemmas.List.Sums.{sum_by-cons}
use Rattle.crossing_laws.proofs.Lists.{contains_here, contains_there}
use Rattle.crossing_laws.proofs.Beside.{rise, sweep_sum, sweep-upper}
use Rattle.integer_laws.proofs.Compare.{int_lt_is}
use Rattle.integer_laws.proofs.Ring.{lin, by_ring, Term, Var, Lit, ◌⊕◌, ◌⊖◌, ◌⊗◌, mul_comm, pos_times}
use Rattle.plane.specs.Parity.{member_holds}
use Rattle.plane.specs.Point.{at_coord}
use Rattle.plane.specs.Ray.{sweep, sweep_below, is_over, Rises}
use Rattle.plane.specs.Segment.{side, midpoint, upper}
use Rattle.plane.proofs.Sweeps.{rises-in_range}

abbrev slope : Term
slope = Lit (pos (2 ^ 30))

-- the sweep value of the midpoint, times 2, is the sum of the ends' sweep values
pub sweep-midpoint : (s : Seg) → sweep (midpoint s) ≡ sweep_sum s
unfolding sweep
sweep-midpoint s =
    by_ring (s.lo.x ∷ s.lo.y ∷ s.hi.x ∷ s.hi.y ∷ []) (slope ⊗ (Var 0 ⊕ Var 2) ⊕ (Var 1 ⊕ Var 3)) ((slope ⊗ Var 0 ⊕ Var 1) ⊕ (slope ⊗ Var 2 ⊕ Var 3)) refl

-- from the midpoint to the upper side point the side grows by the rise, as a part of 2^64
side-upper_of : (e s : Seg) → side e (upper s) ≡ (pos (2 ^ 63) *ℤ side e (midpoint s)) +ℤ rise e
unfolding side sweep
side-upper_of e s =
    let half = Lit (pos (2 ^ 63)) in
    let at = λ (x y d : Term). (Var 2 ⊖ Var 0) ⊗ (y ⊖ Var 1 ⊗ d) ⊖ (Var 3 ⊖ Var 1) ⊗ (x ⊖ Var 0 ⊗ d) in
    by_ring (e.lo.x ∷ e.lo.y ∷ e.hi.x ∷ e.hi.y ∷ s.lo.x ∷ s.lo.y ∷ s.hi.x ∷ s.hi.y ∷ [])
    (at (half ⊗ (Var 4 ⊕ Var 6) ⊖ Lit (pos 1)) (half ⊗ (Var 5 ⊕ Var 7) ⊕ slope) (Lit (pos (2 ^ 64))))
    (half ⊗ at (Var 4 ⊕ Var 6) (Var 5 ⊕ Var 7) (Lit (pos 2)) ⊕ ((slope ⊗ Var 2 ⊕ Var 3) ⊖ (slope ⊗ Var 0 ⊕ Var 1))) refl

-- ---- over plain variables

same_tests : (a b : Bool) → IsTrue a ↔ IsTrue b → a ≡ b
same_tests true b h = sym (h.0 refl)
same_tests false true h = h.1 refl
same_tests false false h = refl

-- two fractions of the denominator 2, both times 2^63
same_order : (s u c : ℤ) → u ≡ pos (2 ^ 63) *ℤ s → int_lt (u *ℤ pos 1) (c *ℤ pos (2 ^ 64)) ≡ int_lt (s *ℤ pos 1) (c *ℤ pos 2)
same_order s u c h =
    let a = int_lt_is (u *ℤ pos 1) (c *ℤ pos (2 ^ 64)) in
    let b = int_lt_is (s *ℤ pos 1) (c *ℤ pos 2) in
    same_tests _ _ (
      λ t. let l = a.0 t in b.1 (omega (arith, lin, pos_times (2 ^ 63) s, mul_comm u (pos 1), pos_times 1 u, mul_comm s (pos 1), pos_times 1 s, mul_comm c (pos (2 ^ 64)), pos_times (2 ^ 64) c, mul_comm c (pos 2), pos_times 2 c)),
      λ t. let l = b.0 t in a.1 (omega (arith, lin, pos_times (2 ^ 63) s, mul_comm u (pos 1), pos_times 1 u, mul_comm s (pos 1), pos_times 1 s, mul_comm c (pos (2 ^ 64)), pos_times (2 ^ 64) c, mul_comm c (pos 2), pos_times 2 c)),
    )

-- a number and 2^63 times it, with less than 2^63 added, are below 0 alike
same_sign : (m u r : ℤ) → u ≡ (pos (2 ^ 63) *ℤ m) +ℤ r → pos 0 <ℤ r → r <ℤ pos (2 ^ 63) → int_lt u (pos 0) ≡ int_lt m (pos 0)
same_sign m u r h low high =
    let a = int_lt_is u (pos 0) in
    let b = int_lt_is m (pos 0) in
    same_tests _ _ (
      λ t. let l = a.0 t in b.1 (omega (arith, lin, pos_times (2 ^ 63) m)),
      λ t. let l = b.0 t in a.1 (omega (arith, lin, pos_times (2 ^ 63) m)),
    )

-- the sweep value of a segment in range rises by less than 2^63
rise_small : (e : Seg) → IsSegInRange e → rise e <ℤ pos (2 ^ 63)
unfolding sweep
rise_small e h =
    omega (arith, lin, pos_times (2 ^ 30) e.lo.x, pos_times (2 ^ 30) e.hi.x, h.lo.left, h.lo.bottom, h.hi.right, h.hi.top)

-- ---- the law

-- the sweep values of the two compare alike with that of a grid point
below-upper : (s : Seg) (c : Coord) → sweep_below (upper s) (at_coord c) ≡ sweep_below (midpoint s) (at_coord c)
below-upper s c = same_order (sweep (midpoint s)) (sweep (upper s)) (sweep (at_coord c)) (sweep-upper s ∙ ap (λ x. pos (2 ^ 63) *ℤ x) (sym (sweep-midpoint s)))

-- an edge in range is over both or over none
pub over-upper : (e s : Seg) → IsSegInRange e → is_over e (upper s) ≡ is_over e (midpoint s)
over-upper e s h =
    let up : Rises e = rises-in_range e h in
    let right = same_sign (side e (midpoint s)) (side e (upper s)) (rise e) (side-upper_of e s) (omega (arith, lin)) (rise_small e h) in
    λ i. not (below-upper s e.lo i) && below-upper s e.hi i && right i

-- what two tests that agree on its elements count in a list
pub counts_alike : {X : Type 0} (p q : X → Bool) (xs : List X) → ((x : X) → Contains xs x → p x ≡ q x) → count_by p xs ≡ count_by q xs
counts_alike p q [] h = refl
counts_alike {X} p q (x ∷ xs) h =
    let first = ap {B = ℕ} (λ (t : Bool). cond t 1 0) (h x (contains_here x xs)) in
    let rest = counts_alike p q xs (λ y i. h y (contains_there x y xs i)) in
    omega (arith, first, rest, sum_by-cons (λ (y : X). cond (p y) 1 0) x xs, sum_by-cons (λ (y : X). cond (q y) 1 0) x xs)

-- a member holds the upper side point as it holds the midpoint
pub member_holds-upper : (uses : List EdgeUse) → ((u : EdgeUse) → Contains uses u → IsSegInRange u.seg) → (s : Seg) (member : ℕ)
    → member_holds uses member (upper s) ≡ member_holds uses member (midpoint s)
member_holds-upper uses h s member =
    ap (λ n. n % 2 == 1)
    (counts_alike (λ u. (u.member == member) && is_over u.seg (upper s)) (λ u. (u.member == member) && is_over u.seg (midpoint s)) uses
    (λ u i. ap (λ t. (u.member == member) && t) (over-upper u.seg s (h u i))))

and_false : (a b : Bool) → a && b && false ≡ false
and_false true true = refl
and_false true false = refl
and_false false b = refl

side-own : (s : Seg) → side s (midpoint s) ≡ pos 0
unfolding side
side-own s =
    by_ring (s.lo.x ∷ s.lo.y ∷ s.hi.x ∷ s.hi.y ∷ [])
    ((Var 2 ⊖ Var 0) ⊗ ((Var 1 ⊕ Var 3) ⊖ Var 1 ⊗ Lit (pos 2)) ⊖ (Var 3 ⊖ Var 1) ⊗ ((Var 0 ⊕ Var 2) ⊖ Var 0 ⊗ Lit (pos 2))) (Lit (pos 0)) refl

-- a segment is not over its own midpoint
pub not_over_own : (s : Seg) → is_over s (midpoint s) ≡ false
not_over_own s =
    ap (λ x. not (sweep_below (midpoint s) (at_coord s.lo)) && sweep_below (midpoint s) (at_coord s.hi) && int_lt x (pos 0)) (side-own s)
    ∙ and_false (not (sweep_below (midpoint s) (at_coord s.lo))) (sweep_below (midpoint s) (at_coord s.hi))
