-- Edges with even ends hold a point alike, whether their lesser ends count at its sweep value or the greater.
use mathlib.Core.List.{[], ◌∷◌}
use Rattle.std.proofs.Common.{◌≡◌, refl, ap, ℕ, ◌+◌, ◌%◌, ◌==◌, ◌^◌, Bool, true, false, not, ◌&&◌, cond, List, sum_by, count_by, Contains, ℤ, pos, ◌+ℤ◌, ◌-ℤ◌, ◌*ℤ◌, ◌≤ℤ◌, ◌<ℤ◌, int_lt, arith}
use Rattle.integer_laws.proofs.Ring.{lin, by_one, Term, Var, ◌⊕◌, ◌⊖◌, ◌⊗◌, mul_one}
use Rattle.integer_laws.proofs.Compare.{int_tests, int_lt_is, le_of_lt}
use Rattle.integer_laws.proofs.Order.{lt_mul}
use Rattle.integer_laws.proofs.Sign.{positive_times_negative, negative_factor}
use Rattle.cov_types.specs.declared.coord.Coord.{Coord}
use Rattle.cov_types.specs.declared.edge_use.EdgeUse.{EdgeUse}
use Rattle.cov_types.specs.declared.seg.Seg.{Seg}
use Rattle.cov_types.specs.Coverage.{AllInRange}
use Rattle.cov_types.specs.Uses.{ends_inside, uses_of}
use Rattle.plane.specs.Point.{Point, at_coord}
use Rattle.plane.specs.Segment.{side}
use Rattle.plane.specs.Ray.{sweep, sweep_below, is_over, Rises}
use Rattle.plane.specs.Parity.{holds, member_holds}
use Rattle.plane.proofs.Points.{d_positive}
use Rattle.plane.proofs.Same.{same_tests}
use Rattle.crossing_laws.specs.Crossing.{IsSwept, HaveEvenEnds, MemberHasEvenEnds}
use Rattle.crossing_laws.specs.EitherEnd.{is_over_to_hi, holds_to_hi, member_holds_to_hi}
use Rattle.crossing_laws.proofs.Lists.{sum_splits, contains-map}
use Rattle.crossing_laws.proofs.Coverages.{uses_swept, uses_even}

-- ---- an end with the sweep value of p: it is beyond p on the ray exactly where p is below the edge along the ray

abbrev at_term : Term → Term → Term
at_term x y = Var 0 ⊗ x ⊕ y

abbrev rise_term : Term
rise_term = at_term (Var 3) (Var 4) ⊖ at_term (Var 1) (Var 2)

abbrev side_term : Term
side_term = (Var 3 ⊖ Var 1) ⊗ (Var 6 ⊖ Var 2 ⊗ Var 7) ⊖ (Var 4 ⊖ Var 2) ⊗ (Var 5 ⊖ Var 1 ⊗ Var 7)

-- over plain variables: k is 2^30; lx, ly and hx, hy the ends; px, py, pd the point
abbrev rise_of : ℤ → ℤ → ℤ → ℤ → ℤ → ℤ
rise_of k lx ly hx hy = ((k *ℤ hx) +ℤ hy) -ℤ ((k *ℤ lx) +ℤ ly)

abbrev side_of : ℤ → ℤ → ℤ → ℤ → ℤ → ℤ → ℤ → ℤ
side_of lx ly hx hy px py pd = ((hx -ℤ lx) *ℤ (py -ℤ (ly *ℤ pd))) -ℤ ((hy -ℤ ly) *ℤ (px -ℤ (lx *ℤ pd)))

lo_gap : (k lx ly hx hy px py pd : ℤ) → ((k *ℤ lx) +ℤ ly) *ℤ pd ≡ (k *ℤ px) +ℤ py → rise_of k lx ly hx hy *ℤ ((lx *ℤ pd) -ℤ px) ≡ side_of lx ly hx hy px py pd
lo_gap k lx ly hx hy px py pd h =
    by_one (k ∷ lx ∷ ly ∷ hx ∷ hy ∷ px ∷ py ∷ pd ∷ []) (rise_term ⊗ (Var 1 ⊗ Var 7 ⊖ Var 5)) side_term
    (Var 3 ⊖ Var 1) (at_term (Var 1) (Var 2) ⊗ Var 7) (at_term (Var 5) (Var 6)) refl h

hi_gap : (k lx ly hx hy px py pd : ℤ) → ((k *ℤ hx) +ℤ hy) *ℤ pd ≡ (k *ℤ px) +ℤ py → rise_of k lx ly hx hy *ℤ ((hx *ℤ pd) -ℤ px) ≡ side_of lx ly hx hy px py pd
hi_gap k lx ly hx hy px py pd h =
    by_one (k ∷ lx ∷ ly ∷ hx ∷ hy ∷ px ∷ py ∷ pd ∷ []) (rise_term ⊗ (Var 3 ⊗ Var 7 ⊖ Var 5)) side_term
    (Var 3 ⊖ Var 1) (at_term (Var 3) (Var 4) ⊗ Var 7) (at_term (Var 5) (Var 6)) refl h

-- x is how far to the right of p the end is, times the denominator
beyond_tests : (rise x s : ℤ) → pos 0 <ℤ rise → rise *ℤ x ≡ s → int_lt x (pos 0) ≡ int_lt s (pos 0)
beyond_tests rise x s up gap =
    same_tests (int_lt x (pos 0)) (int_lt s (pos 0))
    (λ h. (int_lt_is s (pos 0)).1 (let product = positive_times_negative {x = rise} {y = x} up ((int_lt_is x (pos 0)).0 h) in omega (arith, lin)))
    (λ h. (int_lt_is x (pos 0)).1 (let below = (int_lt_is s (pos 0)).0 h in negative_factor rise x (le_of_lt up) (omega (arith, lin))))

lo_beyond : (e : Seg) (p : Point) → Rises e → sweep (at_coord e.lo) *ℤ pos p.d ≡ sweep p → int_lt ((e.lo.x *ℤ pos p.d) -ℤ p.x) (pos 0) ≡ int_lt (side e p) (pos 0)
unfolding sweep side
lo_beyond e p up level =
    beyond_tests (rise_of (pos (2 ^ 30)) e.lo.x e.lo.y e.hi.x e.hi.y) ((e.lo.x *ℤ pos p.d) -ℤ p.x) (side e p) (omega (arith, lin))
    (lo_gap (pos (2 ^ 30)) e.lo.x e.lo.y e.hi.x e.hi.y p.x p.y (pos p.d) level)

hi_beyond : (e : Seg) (p : Point) → Rises e → sweep (at_coord e.hi) *ℤ pos p.d ≡ sweep p → int_lt ((e.hi.x *ℤ pos p.d) -ℤ p.x) (pos 0) ≡ int_lt (side e p) (pos 0)
unfolding sweep side
hi_beyond e p up level =
    beyond_tests (rise_of (pos (2 ^ 30)) e.lo.x e.lo.y e.hi.x e.hi.y) ((e.hi.x *ℤ pos p.d) -ℤ p.x) (side e p) (omega (arith, lin))
    (hi_gap (pos (2 ^ 30)) e.lo.x e.lo.y e.hi.x e.hi.y p.x p.y (pos p.d) level)

-- ---- the tests of one edge

-- the grid point is on the ray from p, beyond p
abbrev is_beyond : Point → Coord → Bool
is_beyond p c = not (sweep_below p (at_coord c)) && not (sweep_below (at_coord c) p) && int_lt ((c.x *ℤ pos p.d) -ℤ p.x) (pos 0)

-- the edge is over p, and neither end has its sweep value
abbrev is_over_within : Seg → Point → Bool
is_over_within e p = sweep_below (at_coord e.lo) p && sweep_below p (at_coord e.hi) && int_lt (side e p) (pos 0)

before_is : (p : Point) (c : Coord) → sweep_below p (at_coord c) ≡ true → sweep p <ℤ (sweep (at_coord c) *ℤ pos p.d)
before_is p c h = let one = mul_one (sweep p) in omega (arith, lin, int_tests)

not_before_is : (p : Point) (c : Coord) → sweep_below p (at_coord c) ≡ false → (sweep (at_coord c) *ℤ pos p.d) ≤ℤ sweep p
not_before_is p c h = let one = mul_one (sweep p) in omega (arith, lin, int_tests)

after_is : (p : Point) (c : Coord) → sweep_below (at_coord c) p ≡ true → (sweep (at_coord c) *ℤ pos p.d) <ℤ sweep p
after_is p c h = let one = mul_one (sweep p) in omega (arith, lin, int_tests)

not_after_is : (p : Point) (c : Coord) → sweep_below (at_coord c) p ≡ false → sweep p ≤ℤ (sweep (at_coord c) *ℤ pos p.d)
not_after_is p c h = let one = mul_one (sweep p) in omega (arith, lin, int_tests)

-- what the tests of an edge that rises say of one another: p before or after each of its ends by the sweep value, each end to the left of p, and p below the edge
record AreTests (before_lo after_lo before_hi after_hi beyond_lo beyond_hi below : Bool) : Type 0 where
  not_both_lo : before_lo ≡ true → after_lo ≡ true → ⊥
  not_both_hi : before_hi ≡ true → after_hi ≡ true → ⊥
  lo_then_hi : before_lo ≡ false → after_lo ≡ false → before_hi ≡ true
  hi_then_lo : before_hi ≡ false → after_hi ≡ false → after_lo ≡ true
  lo_level : before_lo ≡ false → after_lo ≡ false → beyond_lo ≡ below
  hi_level : before_hi ≡ false → after_hi ≡ false → beyond_hi ≡ below

tests_of : (e : Seg) (p : Point) → Rises e
    → AreTests (sweep_below p (at_coord e.lo)) (sweep_below (at_coord e.lo) p) (sweep_below p (at_coord e.hi)) (sweep_below (at_coord e.hi) p)
    (int_lt ((e.lo.x *ℤ pos p.d) -ℤ p.x) (pos 0)) (int_lt ((e.hi.x *ℤ pos p.d) -ℤ p.x) (pos 0)) (int_lt (side e p) (pos 0))
tests_of e p up =
    let rise = lt_mul (pos p.d) (d_positive p) up in
    let one = mul_one (sweep p) in
    record {
      not_both_lo = λ h k. absurd (omega (arith, lin, before_is p e.lo h, after_is p e.lo k));
      not_both_hi = λ h k. absurd (omega (arith, lin, before_is p e.hi h, after_is p e.hi k));
      lo_then_hi = λ h k. (int_lt_is (sweep p *ℤ pos 1) (sweep (at_coord e.hi) *ℤ pos p.d)).1 (omega (arith, lin, not_before_is p e.lo h, not_after_is p e.lo k));
      hi_then_lo = λ h k. (int_lt_is (sweep (at_coord e.lo) *ℤ pos p.d) (sweep p *ℤ pos 1)).1 (omega (arith, lin, not_before_is p e.hi h, not_after_is p e.hi k));
      lo_level = λ h k. lo_beyond e p up (omega (arith, lin, not_before_is p e.lo h, not_after_is p e.lo k));
      hi_level = λ h k. hi_beyond e p up (omega (arith, lin, not_before_is p e.hi h, not_after_is p e.hi k));
    }

-- over: within, or at lo
count_at_lo : (m a b c d x y r : Bool) → AreTests a b c d x y r
    → cond (m && (not a && c && r)) 1 0 ≡ cond (m && (b && c && r)) 1 0 + cond (m && (not a && not b && x)) 1 0
count_at_lo false a b c d x y r t = refl
count_at_lo true true true c d x y r t = absurd (t.not_both_lo refl refl)
count_at_lo true true false c d x y r t = refl
count_at_lo true false true true d x y true t = refl
count_at_lo true false true true d x y false t = refl
count_at_lo true false true false d x y r t = refl
count_at_lo true false false c d x y r t =
    let count : Bool → ℕ = λ v. cond v 1 0 in
    let from = ap (λ v. count (v && r)) (t.lo_then_hi refl refl) in
    let level = ap count (t.lo_level refl refl) in
    omega arith

-- over, where the greater end counts: within, or at hi
count_at_hi : (m a b c d x y r : Bool) → AreTests a b c d x y r
    → cond (m && (b && not d && r)) 1 0 ≡ cond (m && (b && c && r)) 1 0 + cond (m && (not c && not d && y)) 1 0
count_at_hi false a b c d x y r t = refl
count_at_hi true a b true true x y r t = absurd (t.not_both_hi refl refl)
count_at_hi true a true true false x y true t = refl
count_at_hi true a true true false x y false t = refl
count_at_hi true a false true false x y r t = refl
count_at_hi true a true false true x y r t = refl
count_at_hi true a false false true x y r t = refl
count_at_hi true a b false false x y r t =
    let count : Bool → ℕ = λ v. cond v 1 0 in
    let from = ap (λ v. count (v && true && r)) (t.hi_then_lo refl refl) in
    let none = ap (λ v. count (v && false && r)) (t.hi_then_lo refl refl) in
    let level = ap count (t.hi_level refl refl) in
    omega arith

module _ (m : Bool) (e : Seg) (p : Point) (up : Rises e) where
  over_counts : cond (m && is_over e p) 1 0 ≡ cond (m && is_over_within e p) 1 0 + cond (m && is_beyond p e.lo) 1 0
  over_counts =
      count_at_lo m (sweep_below p (at_coord e.lo)) (sweep_below (at_coord e.lo) p) (sweep_below p (at_coord e.hi)) (sweep_below (at_coord e.hi) p)
      (int_lt ((e.lo.x *ℤ pos p.d) -ℤ p.x) (pos 0)) (int_lt ((e.hi.x *ℤ pos p.d) -ℤ p.x) (pos 0)) (int_lt (side e p) (pos 0)) (tests_of e p up)

  over_to_hi_counts : cond (m && is_over_to_hi e p) 1 0 ≡ cond (m && is_over_within e p) 1 0 + cond (m && is_beyond p e.hi) 1 0
  over_to_hi_counts =
      count_at_hi m (sweep_below p (at_coord e.lo)) (sweep_below (at_coord e.lo) p) (sweep_below p (at_coord e.hi)) (sweep_below (at_coord e.hi) p)
      (int_lt ((e.lo.x *ℤ pos p.d) -ℤ p.x) (pos 0)) (int_lt ((e.hi.x *ℤ pos p.d) -ℤ p.x) (pos 0)) (int_lt (side e p) (pos 0)) (tests_of e p up)

-- ---- a list: of its items, some of which are chosen, each with a segment

ends_count : (m a b : Bool) → cond m (cond a 1 0 + cond b 1 0) 0 ≡ cond (m && a) 1 0 + cond (m && b) 1 0
ends_count true a b = refl
ends_count false a b = refl

module _ {X : Type 0} (seg : X → Seg) (chosen : X → Bool) (items : List X) where
  -- how many of the chosen pass a test
  abbrev count_of : (X → Bool) → ℕ
  count_of passes = count_by (λ x. chosen x && passes x) items

  over_splits : (p : Point) → ((x : X) → Contains items x → Rises (seg x))
      → count_of (λ x. is_over (seg x) p) ≡ count_of (λ x. is_over_within (seg x) p) + count_of (λ x. is_beyond p (seg x).lo)
  over_splits p up =
      sum_splits (λ x. cond (chosen x && is_over (seg x) p) 1 0) (λ x. cond (chosen x && is_over_within (seg x) p) 1 0) (λ x. cond (chosen x && is_beyond p (seg x).lo) 1 0) items
      (λ x i. over_counts (chosen x) (seg x) p (up x i))

  over_to_hi_splits : (p : Point) → ((x : X) → Contains items x → Rises (seg x))
      → count_of (λ x. is_over_to_hi (seg x) p) ≡ count_of (λ x. is_over_within (seg x) p) + count_of (λ x. is_beyond p (seg x).hi)
  over_to_hi_splits p up =
      sum_splits (λ x. cond (chosen x && is_over_to_hi (seg x) p) 1 0) (λ x. cond (chosen x && is_over_within (seg x) p) 1 0) (λ x. cond (chosen x && is_beyond p (seg x).hi) 1 0) items
      (λ x i. over_to_hi_counts (chosen x) (seg x) p (up x i))

  ends_split : (inside : Coord → Bool)
      → sum_by (λ x. cond (chosen x) (ends_inside inside (seg x)) 0) items ≡ count_of (λ x. inside (seg x).lo) + count_of (λ x. inside (seg x).hi)
  ends_split inside =
      sum_splits (λ x. cond (chosen x) (ends_inside inside (seg x)) 0) (λ x. cond (chosen x && inside (seg x).lo) 1 0) (λ x. cond (chosen x && inside (seg x).hi) 1 0) items
      (λ x i. ends_count (chosen x) (inside (seg x).lo) (inside (seg x).hi))

  either_end : ((x : X) → Contains items x → Rises (seg x)) → ((inside : Coord → Bool) → sum_by (λ x. cond (chosen x) (ends_inside inside (seg x)) 0) items % 2 ≡ 0)
      → (p : Point) → count_of (λ x. is_over (seg x) p) % 2 ≡ count_of (λ x. is_over_to_hi (seg x) p) % 2
  either_end up even p =
      let from = over_splits p up in
      let to = over_to_hi_splits p up in
      let ends = ends_split (is_beyond p) in
      let none = even (is_beyond p) in
      omega arith

pub holds-either_end : (edges : List Seg) → IsSwept edges → HaveEvenEnds edges → (p : Point) → holds edges p ≡ holds_to_hi edges p
holds-either_end edges swept even p = ap (λ n. n == 1) (either_end (λ e. e) (λ e. true) edges swept even p)

pub member_holds-either_end : (uses : List EdgeUse) (member : ℕ) → ((u : EdgeUse) → Contains uses u → Rises u.seg) → MemberHasEvenEnds uses member
    → (p : Point) → member_holds uses member p ≡ member_holds_to_hi uses member p
member_holds-either_end uses member up even p = ap (λ n. n == 1) (either_end (λ u. u.seg) (λ u. u.member == member) uses up even p)

pub coverage-either_end : (members : List (List (List (List Coord)))) → AllInRange members
    → (member : ℕ) (p : Point) → member_holds (uses_of members) member p ≡ member_holds_to_hi (uses_of members) member p
coverage-either_end members h member p =
    member_holds-either_end (uses_of members) member (λ u i. uses_swept members h u.seg (contains-map (λ (v : EdgeUse). v.seg) (uses_of members) u i)) (uses_even members member) p
