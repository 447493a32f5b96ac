-- A point off the edges is joined with the upper side point of the nearest edge below it, and is outer where there is none.
use mathlib.Core.List.{[], ◌∷◌}
use mathlib.Core.Bool.{Bool, true, false, not, ◌&&◌}
use Rattle.std.proofs.Common.{lit≤, ◌+◌, ◌≡◌, refl, sym, ◌∙◌, ap, subst, ℕ, ◌*◌, ◌≤◌, ◌^◌, List, Contains, ℤ, pos, negsuc, neg_ℤ, ◌+ℤ◌, ◌-ℤ◌, ◌*ℤ◌, ◌≤ℤ◌, ◌<ℤ◌, inl, inr, IsTrue, ◌↔◌, int_lt, unsigned_abs, arith}
use Rattle.std.proofs.lemmas.List.Elements.{All-contains}
use Rattle.cov_types.specs.declared.seg.Seg.{Seg}
use Rattle.cov_types.specs.Range.{IsSegInRange}
use Rattle.integer_laws.proofs.Bound.{IsWithin, within_abs, within_product, within_difference}
use Rattle.integer_laws.proofs.Cast.{pos_nonneg, positive_natural}
use Rattle.integer_laws.proofs.Compare.{int_lt_is, not_int_lt_is, le_of_lt, lt_or_ge, sign_cases}
use Rattle.integer_laws.proofs.Order.{mul_le, mul_lt}
use Rattle.integer_laws.proofs.Ring.{lin, by_ring, by_one, Var, Lit, ◌⊕◌, ◌⊖◌, ◌⊗◌, Neg, mul_one, one_mul, mul_zero, mul_comm, minus_one_mul, pos_times}
use Rattle.integer_laws.proofs.Sign.{positive_times_positive, positive_times_negative, nonneg_times_nonneg, positive_factor}
use Rattle.plane.specs.Point.{Point, at_coord}
use Rattle.plane.specs.Segment.{side, upper, IsOn}
use Rattle.plane.specs.Ray.{sweep, sweep_below, Rises}
use Rattle.plane.specs.Joined.{IsOff, Joined}
use Rattle.plane.specs.Region.{far_point, IsOuter}
use Rattle.plane.proofs.Points.{d_positive}
use Rattle.plane.proofs.Forms.{form}
use Rattle.plane.proofs.Sides.{side-lo, side-hi}
use Rattle.plane.proofs.Sweeps.{on_from_sweep, rises-in_range}
use Rattle.crossing_laws.proofs.Sides.{Misses}
use Rattle.crossing_laws.proofs.Ways.{joined-trans, joined_by_clear}
use Rattle.sector_laws.specs.Sector.{IsPlanar}
use Rattle.sector_laws.proofs.Lines.{mix_parted, parted_above}
use Rattle.sector_laws.proofs.Near.{length_within}
use Rattle.sector_laws.proofs.Sliver.{IsFlat, IsInSliver, beside_is, rise_within, sliver_from_numbers, sliver_clear, upper_in_sliver}
use Rattle.region_laws.specs.Below.{is_under, sweep_rise, IsNearer, IsNearestBelow, HasNoneBelow}
use Rattle.region_laws.proofs.Down.{tiny, past, past-d, sweep-past, side-past, down, down-y, down-d, sweep-down, side-down, tie}

-- ---- what the test says

-- lo is not past p, hi is, and p is on the left of the edge
pub record IsUnder (e : Seg) (p : Point) : Type 0 where
  pub from : (sweep (at_coord e.lo) *ℤ pos p.d) ≤ℤ sweep p
  pub to : sweep p <ℤ (sweep (at_coord e.hi) *ℤ pos p.d)
  pub above : pos 0 <ℤ side e p

three_true : (a b c : Bool) → IsTrue (a && b && c) → IsTrue a × IsTrue b × IsTrue c
three_true true true true h = (refl, refl, refl)
three_true true true false h = absurd (cc)
three_true true false c h = absurd (cc)
three_true false b c h = absurd (cc)

true_three : (a b c : Bool) → IsTrue a → IsTrue b → IsTrue c → IsTrue (a && b && c)
true_three a b c h k l = cc

pub under-is : (e : Seg) (p : Point) → IsTrue (is_under e p) ↔ IsUnder e p
under-is e p = (
  λ h. (
      let t = three_true (not (sweep_below p (at_coord e.lo))) (sweep_below p (at_coord e.hi)) (int_lt (pos 0) (side e p)) h in
      let one = mul_one (sweep p) in
      let from = (not_int_lt_is (sweep p *ℤ pos 1) (sweep (at_coord e.lo) *ℤ pos p.d)).0 t.0 in
      let to = (int_lt_is (sweep p *ℤ pos 1) (sweep (at_coord e.hi) *ℤ pos p.d)).0 t.1 in
      let above = (int_lt_is (pos 0) (side e p)).0 t.2 in
      record { from = omega (arith, lin); to = omega (arith, lin); above = above }
      ),
  λ h. (
      let one = mul_one (sweep p) in
      true_three (not (sweep_below p (at_coord e.lo))) (sweep_below p (at_coord e.hi)) (int_lt (pos 0) (side e p))
      ((not_int_lt_is (sweep p *ℤ pos 1) (sweep (at_coord e.lo) *ℤ pos p.d)).1 (omega (arith, lin, h.from)))
      ((int_lt_is (sweep p *ℤ pos 1) (sweep (at_coord e.hi) *ℤ pos p.d)).1 (omega (arith, lin, h.to)))
      ((int_lt_is (pos 0) (side e p)).1 h.above)
      ),
)

-- ---- ways that miss an edge: on one side of it, before its lo, or after its hi

beside_parted : (k : ℤ) (f : Seg) (p q : Point) → pos 0 <ℤ (k *ℤ side f p) → pos 0 <ℤ (k *ℤ side f q) → Misses f p q
beside_parted k f p q hp hq =
    let is = λ (r : Point). beside_is k (side f r) (sweep r) (pos r.d) in
    let zero_lo = ap (λ z. k *ℤ z) (side-lo f) ∙ mul_zero k in
    let zero_hi = ap (λ z. k *ℤ z) (side-hi f) ∙ mul_zero k in
    mix_parted (pos 0) k (pos 0) f f p q (omega (arith, lin, is p)) (omega (arith, lin, is q)) (omega (arith, lin, is (at_coord f.lo))) (omega (arith, lin, is (at_coord f.hi)))

left_parted : (f : Seg) (p q : Point) → pos 0 <ℤ side f p → pos 0 <ℤ side f q → Misses f p q
left_parted f p q hp hq = beside_parted (pos 1) f p q (omega (arith, lin, one_mul (side f p))) (omega (arith, lin, one_mul (side f q)))

right_parted : (f : Seg) (p q : Point) → side f p <ℤ pos 0 → side f q <ℤ pos 0 → Misses f p q
right_parted f p q hp hq = beside_parted (negsuc 0) f p q (omega (arith, lin, minus_one_mul (side f p))) (omega (arith, lin, minus_one_mul (side f q)))

before_is : (s t d l : ℤ) → ((negsuc 0 *ℤ t) +ℤ (pos 0 *ℤ s)) +ℤ (l *ℤ d) ≡ (l *ℤ d) -ℤ t
before_is s t d l = by_ring (s ∷ t ∷ d ∷ l ∷ []) (Lit (negsuc 0) ⊗ Var 1 ⊕ Lit (pos 0) ⊗ Var 0 ⊕ Var 3 ⊗ Var 2) (Var 3 ⊗ Var 2 ⊖ Var 1) refl

after_is : (s t d h : ℤ) → ((pos 1 *ℤ t) +ℤ (pos 0 *ℤ s)) +ℤ (neg_ℤ h *ℤ d) ≡ t -ℤ (h *ℤ d)
after_is s t d h = by_ring (s ∷ t ∷ d ∷ h ∷ []) (Lit (pos 1) ⊗ Var 1 ⊕ Lit (pos 0) ⊗ Var 0 ⊕ Neg (Var 3) ⊗ Var 2) (Var 1 ⊖ Var 3 ⊗ Var 2) refl

before_parted : (f : Seg) (p q : Point) → Rises f → sweep p <ℤ (sweep (at_coord f.lo) *ℤ pos p.d) → sweep q <ℤ (sweep (at_coord f.lo) *ℤ pos q.d) → Misses f p q
before_parted f p q up hp hq =
    let l = sweep (at_coord f.lo) in
    let is = λ (r : Point). before_is (side f r) (sweep r) (pos r.d) l in
    mix_parted (negsuc 0) (pos 0) l f f p q (omega (arith, lin, is p)) (omega (arith, lin, is q))
    (omega (arith, lin, is (at_coord f.lo), mul_one l)) (omega (arith, lin, is (at_coord f.hi), mul_one l))

after_parted : (f : Seg) (p q : Point) → Rises f → (sweep (at_coord f.hi) *ℤ pos p.d) <ℤ sweep p → (sweep (at_coord f.hi) *ℤ pos q.d) <ℤ sweep q → Misses f p q
after_parted f p q up hp hq =
    let h = sweep (at_coord f.hi) in
    let is = λ (r : Point). after_is (side f r) (sweep r) (pos r.d) h in
    mix_parted (pos 1) (pos 0) (neg_ℤ h) f f p q (omega (arith, lin, is p)) (omega (arith, lin, is q))
    (omega (arith, lin, is (at_coord f.lo), mul_one h)) (omega (arith, lin, is (at_coord f.hi), mul_one h))

-- ---- over plain variables: t, d are a point's sweep value and denominator, l is a grid point's sweep value

times_tiny : (l d : ℤ) → l *ℤ (tiny *ℤ d) ≡ tiny *ℤ (l *ℤ d)
times_tiny l d = by_ring (l ∷ d ∷ []) (Var 0 ⊗ (Lit tiny ⊗ Var 1)) (Lit tiny ⊗ (Var 0 ⊗ Var 1)) refl

stays_before : (t d l : ℤ) → t <ℤ (l *ℤ d) → ((tiny *ℤ t) +ℤ pos 1) <ℤ (l *ℤ (tiny *ℤ d))
stays_before t d l h = omega (arith, lin, times_tiny l d, pos_times (2 ^ 100) t, pos_times (2 ^ 100) (l *ℤ d))

comes_after : (t d l : ℤ) → (l *ℤ d) ≤ℤ t → (l *ℤ (tiny *ℤ d)) <ℤ ((tiny *ℤ t) +ℤ pos 1)
comes_after t d l h = omega (arith, lin, times_tiny l d, pos_times (2 ^ 100) t, pos_times (2 ^ 100) (l *ℤ d))

stays_left : (s x : ℤ) → IsWithin (2 ^ 29) x → pos 0 <ℤ s → pos 0 <ℤ ((tiny *ℤ s) +ℤ x)
stays_left s x w h = omega (arith, lin, pos_times (2 ^ 100) s, w.low)

stays_right : (s x : ℤ) → IsWithin (2 ^ 29) x → s <ℤ pos 0 → ((tiny *ℤ s) +ℤ x) <ℤ pos 0
stays_right s x w h = omega (arith, lin, pos_times (2 ^ 100) s, w.high)

-- the same k times
before_times : (k t d l : ℤ) → pos 0 <ℤ k → t <ℤ (l *ℤ d) → (k *ℤ t) <ℤ (l *ℤ (k *ℤ d))
before_times k t d l positive h = omega (arith, lin, mul_lt k positive h, left_comm k l d)
  where
    left_comm : (k l d : ℤ) → l *ℤ (k *ℤ d) ≡ k *ℤ (l *ℤ d)
    left_comm k l d = by_ring (k ∷ l ∷ d ∷ []) (Var 1 ⊗ (Var 0 ⊗ Var 2)) (Var 0 ⊗ (Var 1 ⊗ Var 2)) refl

after_times : (k t d l : ℤ) → pos 0 <ℤ k → (l *ℤ d) <ℤ t → (l *ℤ (k *ℤ d)) <ℤ (k *ℤ t)
after_times k t d l positive h = omega (arith, lin, mul_lt k positive h, left_comm k l d)
  where
    left_comm : (k l d : ℤ) → l *ℤ (k *ℤ d) ≡ k *ℤ (l *ℤ d)
    left_comm k l d = by_ring (k ∷ l ∷ d ∷ []) (Var 1 ⊗ (Var 0 ⊗ Var 2)) (Var 0 ⊗ (Var 1 ⊗ Var 2)) refl

-- ---- the point just past p

past_before : (p : Point) (l : ℤ) → sweep p <ℤ (l *ℤ pos p.d) → sweep (past p) <ℤ (l *ℤ pos (past p).d)
past_before p l h = rw (sweep-past p, past-d p) (stays_before (sweep p) (pos p.d) l h)

past_after : (p : Point) (l : ℤ) → (l *ℤ pos p.d) ≤ℤ sweep p → (l *ℤ pos (past p).d) <ℤ sweep (past p)
past_after p l h = rw (sweep-past p, past-d p) (comes_after (sweep p) (pos p.d) l h)

past_left : (f : Seg) (p : Point) → IsSegInRange f → pos 0 <ℤ side f p → pos 0 <ℤ side f (past p)
past_left f p hf h = rw (side-past f p) (stays_left (side f p) (f.hi.x -ℤ f.lo.x) (length_within f hf).0 h)

past_right : (f : Seg) (p : Point) → IsSegInRange f → side f p <ℤ pos 0 → side f (past p) <ℤ pos 0
past_right f p hf h = rw (side-past f p) (stays_right (side f p) (f.hi.x -ℤ f.lo.x) (length_within f hf).0 h)

past_misses : (f : Seg) (p : Point) → IsSegInRange f → (IsOn f p → ⊥) → Misses f p (past p)
past_misses f p hf off =
    let up = rises-in_range f hf in
    let l = sweep (at_coord f.lo) in
    let h = sweep (at_coord f.hi) in
    elim (sign_cases (side f p)) [
      | inl right ↦ right_parted f p (past p) right (past_right f p hf right)
      | inr rest ↦ elim rest [
        | inl on_line ↦ elim (lt_or_ge (sweep p) (l *ℤ pos p.d)) [
          | inl before ↦ before_parted f p (past p) up before (past_before p l before)
          | inr from ↦ elim (lt_or_ge (h *ℤ pos p.d) (sweep p)) [
            | inl after ↦ after_parted f p (past p) up after (past_after p h (le_of_lt after))
            | inr to ↦ absurd (off (on_from_sweep f p up on_line from to))
          ]
        ]
        | inr left ↦ left_parted f p (past p) left (past_left f p hf left)
      ]
    ]

-- ---- down the ray from there, as far as all edges below p stay below

-- over plain variables: what is on the right stays there
still_right : (k s n g : ℤ) → pos 0 <ℤ k → s <ℤ pos 0 → pos 0 ≤ℤ n → pos 0 <ℤ g → ((k *ℤ s) -ℤ (n *ℤ g)) <ℤ pos 0
still_right k s n g hk hs hn hg = omega (arith, lin, positive_times_negative hk hs, nonneg_times_nonneg hn (le_of_lt hg))

down_misses : (f : Seg) (p : Point) (k : ℕ) (h : 1 ≤ k) (n : ℤ) → IsSegInRange f → (IsOn f p → ⊥) → pos 0 ≤ℤ n → (IsUnder f p → pos 0 <ℤ side f (down (past p) k h n))
    → Misses f (past p) (down (past p) k h n)
down_misses f p k h n hf off hn under =
    let up = rises-in_range f hf in
    let q = down (past p) k h n in
    let lo = sweep (at_coord f.lo) in
    let hi = sweep (at_coord f.hi) in
    let positive : pos 0 <ℤ pos k = omega (arith, lin) in
    elim (lt_or_ge (sweep p) (lo *ℤ pos p.d)) [
      | inl before ↦ (
          let first = past_before p lo before in
          before_parted f (past p) q up first (rw (sweep-down (past p) k h n, down-d (past p) k h n) (before_times (pos k) (sweep (past p)) (pos (past p).d) lo positive first))
          )
      | inr from ↦ elim (lt_or_ge (sweep p) (hi *ℤ pos p.d)) [
        | inr after ↦ (
            let first = past_after p hi after in
            after_parted f (past p) q up first (rw (sweep-down (past p) k h n, down-d (past p) k h n) (after_times (pos k) (sweep (past p)) (pos (past p).d) hi positive first))
            )
        | inl to ↦ elim (sign_cases (side f p)) [
          | inl right ↦ (
              let first = past_right f p hf right in
              right_parted f (past p) q first (rw (side-down f (past p) k h n) (still_right (pos k) (side f (past p)) n (sweep_rise f) positive first hn (omega (arith, lin))))
              )
          | inr rest ↦ elim rest [
            | inl on_line ↦ absurd (off (on_from_sweep f p up on_line from (le_of_lt to)))
            | inr left ↦ left_parted f (past p) q (past_left f p hf left) (under (record { from = from; to = to; above = left }))
          ]
        ]
      ]
    ]

-- ---- just above the nearest edge

-- how many parts a step has
abbrev parts : ℤ
parts = pos (2 ^ 61)

-- over plain variables: g, f are the rises of two edges, s, t the sides of p, a, b how far the edges lead in x; k is g times the parts
side_there : (m n k g f s t a b : ℤ) → k ≡ g *ℤ m
    → (k *ℤ ((n *ℤ t) +ℤ b)) -ℤ (((((n *ℤ s) +ℤ a) *ℤ m) -ℤ pos 1) *ℤ f) ≡ (m *ℤ ((n *ℤ ((t *ℤ g) -ℤ (s *ℤ f))) +ℤ ((g *ℤ b) -ℤ (f *ℤ a)))) +ℤ f
side_there m n k g f s t a b h =
    by_one (m ∷ n ∷ k ∷ g ∷ f ∷ s ∷ t ∷ a ∷ b ∷ [])
    (Var 2 ⊗ (Var 1 ⊗ Var 6 ⊕ Var 8) ⊖ ((Var 1 ⊗ Var 5 ⊕ Var 7) ⊗ Var 0 ⊖ Lit (pos 1)) ⊗ Var 4)
    (Var 0 ⊗ (Var 1 ⊗ (Var 6 ⊗ Var 3 ⊖ Var 5 ⊗ Var 4) ⊕ (Var 3 ⊗ Var 8 ⊖ Var 4 ⊗ Var 7)) ⊕ Var 4)
    (Var 1 ⊗ Var 6 ⊕ Var 8) (Var 2) (Var 3 ⊗ Var 0) refl h

above_farther : (gap x f : ℤ) → pos 0 <ℤ gap → IsWithin (2 ^ 60 * 2 ^ 29 + 2 ^ 60 * 2 ^ 29) x → pos 0 <ℤ f → pos 0 <ℤ ((parts *ℤ ((tiny *ℤ gap) +ℤ x)) +ℤ f)
above_farther gap x f h w hf = omega (arith, lin, pos_times (2 ^ 100) gap, w.low, pos_times (2 ^ 61) ((tiny *ℤ gap) +ℤ x))

above_as_far : (gap x f : ℤ) → gap ≡ pos 0 → pos 0 <ℤ x → pos 0 <ℤ f → pos 0 <ℤ ((parts *ℤ ((tiny *ℤ gap) +ℤ x)) +ℤ f)
above_as_far gap x f h hx hf = omega (arith, lin, pos_times (2 ^ 100) gap, pos_times (2 ^ 61) ((tiny *ℤ gap) +ℤ x))

own_side : (m k g s : ℤ) → k ≡ g *ℤ m → (k *ℤ s) -ℤ (((s *ℤ m) -ℤ pos 1) *ℤ g) ≡ g
own_side m k g s h = by_one (m ∷ k ∷ g ∷ s ∷ []) (Var 1 ⊗ Var 3 ⊖ (Var 3 ⊗ Var 0 ⊖ Lit (pos 1)) ⊗ Var 2) (Var 2) (Var 3) (Var 1) (Var 2 ⊗ Var 0) refl h

own_side_down : (e : Seg) (p : Point) (k : ℕ) (h : 1 ≤ k) → pos k ≡ sweep_rise e *ℤ parts → side e (down (past p) k h ((side e (past p) *ℤ parts) -ℤ pos 1)) ≡ sweep_rise e
own_side_down e p k h size = side-down e (past p) k h ((side e (past p) *ℤ parts) -ℤ pos 1) ∙ own_side parts (pos k) (sweep_rise e) (side e (past p)) size

-- in the flat triangle: g is the side, k (n t + 1) the sweep value, k n d the denominator
flat_there : (k g t d l h : ℤ) → pos 0 <ℤ g → k ≡ g *ℤ parts → (l *ℤ d) ≤ℤ t → t <ℤ (h *ℤ d) → IsFlat g (k *ℤ ((tiny *ℤ t) +ℤ pos 1)) (k *ℤ (tiny *ℤ d)) l h
flat_there k g t d l h hg hk from to =
    let size = mul_comm g parts in
    let long = pos_times (2 ^ 61) g in
    let short = pos_times (2 ^ 60) g in
    let hk' : pos 0 ≤ℤ k = omega (arith, lin) in
    let low : pos 1 ≤ℤ ((tiny *ℤ (t -ℤ (l *ℤ d))) +ℤ pos 1) = omega (arith, lin, pos_times (2 ^ 100) (t -ℤ (l *ℤ d))) in
    let high : pos 1 ≤ℤ ((tiny *ℤ ((h *ℤ d) -ℤ t)) -ℤ pos 1) = omega (arith, lin, pos_times (2 ^ 100) ((h *ℤ d) -ℤ t)) in
    record {
      beside = hg;
      after_lo = omega (arith, lin, mul_le k hk' low, mul_one k, after_lo_is tiny k t d l);
      before_hi = omega (arith, lin, mul_le k hk' high, mul_one k, before_hi_is tiny k t d h);
    }
  where
    after_lo_is : (n k t d l : ℤ) → (k *ℤ ((n *ℤ t) +ℤ pos 1)) -ℤ (l *ℤ (k *ℤ (n *ℤ d))) ≡ k *ℤ ((n *ℤ (t -ℤ (l *ℤ d))) +ℤ pos 1)
    after_lo_is n k t d l =
        by_ring (n ∷ k ∷ t ∷ d ∷ l ∷ []) (Var 1 ⊗ (Var 0 ⊗ Var 2 ⊕ Lit (pos 1)) ⊖ Var 4 ⊗ (Var 1 ⊗ (Var 0 ⊗ Var 3))) (Var 1 ⊗ (Var 0 ⊗ (Var 2 ⊖ Var 4 ⊗ Var 3) ⊕ Lit (pos 1))) refl

    before_hi_is : (n k t d h : ℤ) → (h *ℤ (k *ℤ (n *ℤ d))) -ℤ (k *ℤ ((n *ℤ t) +ℤ pos 1)) ≡ k *ℤ ((n *ℤ ((h *ℤ d) -ℤ t)) -ℤ pos 1)
    before_hi_is n k t d h =
        by_ring (n ∷ k ∷ t ∷ d ∷ h ∷ []) (Var 4 ⊗ (Var 1 ⊗ (Var 0 ⊗ Var 3)) ⊖ Var 1 ⊗ (Var 0 ⊗ Var 2 ⊕ Lit (pos 1))) (Var 1 ⊗ (Var 0 ⊗ (Var 4 ⊗ Var 3 ⊖ Var 2) ⊖ Lit (pos 1))) refl

flat_same : (s' s t' t d' d l h : ℤ) → s' ≡ s → t' ≡ t → d' ≡ d → IsFlat s t d l h → IsFlat s' t' d' l h
flat_same s' s t' t d' d l h same_s same_t same_d at = subst (λ x. IsFlat x t' d' l h) (sym same_s) (subst (λ y. IsFlat s y d' l h) (sym same_t) (subst (λ z. IsFlat s t z l h) (sym same_d) at))

-- an edge below p that is not nearer is below the point just above the nearest
farther_below : (e f : Seg) (p : Point) (k : ℕ) (h : 1 ≤ k) → pos k ≡ sweep_rise e *ℤ parts → IsSegInRange e → IsSegInRange f → IsUnder e p → IsNearer p e f
    → pos 0 <ℤ side f (down (past p) k h ((side e (past p) *ℤ parts) -ℤ pos 1))
farther_below e f p k h size he hf under nearer =
    let g = sweep_rise e in
    let rise_f = sweep_rise f in
    let a = e.hi.x -ℤ e.lo.x in
    let b = f.hi.x -ℤ f.lo.x in
    let up_e = rises-in_range e he in
    let up_f = rises-in_range f hf in
    let positive : pos 0 <ℤ rise_f = omega (arith, lin) in
    let gap = (side f p *ℤ g) -ℤ (side e p *ℤ rise_f) in
    let x = (g *ℤ b) -ℤ (rise_f *ℤ a) in
    let width = within_difference (within_product (rise_within e he) (length_within f hf).0) (within_product (rise_within f hf) (length_within e he).0) in
    let there = side_there parts tiny (pos k) g rise_f (side e p) (side f p) a b size in
    let above : pos 0 <ℤ ((parts *ℤ ((tiny *ℤ gap) +ℤ x)) +ℤ rise_f) =
    elim nearer [
      | inl less ↦ above_farther gap x rise_f (omega (arith, lin)) width positive
      | inr as_far ↦ (
          let deep = positive_times_positive {x = g} {y = pos p.d} (omega (arith, lin)) (d_positive p) in
          let product = positive_times_positive {x = g *ℤ pos p.d} {y = side f (at_coord e.hi)} deep as_far.1 in
          let even = as_far.0 in
          let forth = positive_factor ((sweep (at_coord e.hi) *ℤ pos p.d) -ℤ sweep p) x (omega (arith, lin, under.to)) (omega (arith, lin, tie e f p)) in
          above_as_far gap x rise_f (omega (arith, lin)) forth positive
          )
    ] in
    rw (side-down f (past p) k h ((side e (past p) *ℤ parts) -ℤ pos 1), side-past f p, side-past e p, there) above

there_in_sliver : (e : Seg) (p q : Point) (k : ℕ) (g : ℤ) → pos 0 <ℤ g → pos k ≡ g *ℤ parts → IsUnder e p → side e q ≡ g → sweep q ≡ pos k *ℤ sweep (past p) → pos q.d ≡ pos k *ℤ pos (past p).d
    → IsInSliver (pos 1) e q
there_in_sliver e p q k g hg size under own at depth =
    sliver_from_numbers (pos 1) e q
    (flat_same (pos 1 *ℤ side e q) g (sweep q) (pos k *ℤ ((tiny *ℤ sweep p) +ℤ pos 1)) (pos q.d) (pos k *ℤ (tiny *ℤ pos p.d)) (sweep (at_coord e.lo)) (sweep (at_coord e.hi))
    (one_mul (side e q) ∙ own) (at ∙ ap (λ z. pos k *ℤ z) (sweep-past p)) (depth ∙ ap (λ z. pos k *ℤ z) (past-d p))
    (flat_there (pos k) g (sweep p) (pos p.d) (sweep (at_coord e.lo)) (sweep (at_coord e.hi)) hg size under.from under.to))

pub below_joined : (edges : List Seg) → IsPlanar edges → (p : Point) → IsOff edges p → (e : Seg) → IsNearestBelow edges p e → Joined edges p (upper e)
below_joined edges planar p off e nearest =
    let in_range = λ (f : Seg) (c : Contains edges f). All-contains IsSegInRange edges f planar.in_range c in
    let c = nearest.below.among in
    let he = in_range e c in
    let up = rises-in_range e he in
    let under = (under-is e p).0 nearest.below.under in
    let g = sweep_rise e in
    let hg : pos 0 <ℤ g = omega (arith, lin) in
    let s = side e (past p) in
    let hs = past_left e p he under.above in
    let (k, h, size) = positive_natural (g *ℤ parts) (positive_times_positive {x = g} {y = parts} hg (omega (arith, lin))) in
    let steps = (s *ℤ parts) -ℤ pos 1 in
    let q = down (past p) k h steps in
    let forth : pos 0 ≤ℤ steps = omega (arith, lin, positive_times_positive {x = s} {y = parts} hs (omega (arith, lin))) in
    let own : side e q ≡ g = own_side_down e p k h (sym size) in
    let below = λ (f : Seg) (i : Contains edges f) (u : IsUnder f p). elim (nearest.nearest f (record { among = i; under = (under-is f p).1 u })) as (λ _. pos 0 <ℤ side f q) [
      | inl same ↦ subst (λ x. pos 0 <ℤ side x q) same (rw own hg)
      | inr nearer ↦ farther_below e f p k h (sym size) he (in_range f i) under nearer
    ] in
    let inside = there_in_sliver e p q k g hg (sym size) under own (sweep-down (past p) k h steps) (down-d (past p) k h steps) in
    joined-trans edges p (past p) (upper e)
    (joined_by_clear edges p (past p) (λ f i. (past_misses f p (in_range f i) (off f i)).none))
    (joined-trans edges (past p) q (upper e)
    (joined_by_clear edges (past p) q (λ f i. (down_misses f p k h steps (in_range f i) (off f i) forth (below f i)).none))
    (joined_by_clear edges q (upper e) (sliver_clear (pos 1) e edges q (upper e) in_range planar.noded c inside (upper_in_sliver e up))))

-- ---- no edge below: down below the range, and round to the far point

-- a point below the range and to the right of it
abbrev corner : Point
corner = record { x = pos (2 ^ 30); y = neg_ℤ (pos (2 ^ 29)); d = 1; positive = lit≤ tt }

under_range : (f : Seg) (p q : Point) → IsSegInRange f → (p.y <ℤ neg_ℤ (pos (2 ^ 28) *ℤ pos p.d)) → (q.y <ℤ neg_ℤ (pos (2 ^ 28) *ℤ pos q.d)) → Misses f p q
unfolding form
under_range f p q hf hp hq =
    let is = λ (r : Point). is_of (neg_ℤ (pos (2 ^ 28))) r.x r.y (pos r.d) in
    let turned = λ (r : Point). neg_times (pos (2 ^ 28)) (pos r.d) in
    parted_above (pos 0) (negsuc 0) (neg_ℤ (pos (2 ^ 28))) f p q (omega (arith, lin, is p, turned p)) (omega (arith, lin, is q, turned q))
    (omega (arith, lin, is (at_coord f.lo), hf.lo.bottom)) (omega (arith, lin, is (at_coord f.hi), hf.hi.bottom))
  where
    is_of : (c x y d : ℤ) → ((pos 0 *ℤ x) +ℤ (negsuc 0 *ℤ y)) +ℤ (c *ℤ d) ≡ (c *ℤ d) -ℤ y
    is_of c x y d = by_ring (c ∷ x ∷ y ∷ d ∷ []) (Lit (pos 0) ⊗ Var 1 ⊕ Lit (negsuc 0) ⊗ Var 2 ⊕ Var 0 ⊗ Var 3) (Var 0 ⊗ Var 3 ⊖ Var 2) refl

    neg_times : (c d : ℤ) → neg_ℤ c *ℤ d ≡ neg_ℤ (c *ℤ d)
    neg_times c d = by_ring (c ∷ d ∷ []) (Neg (Var 0) ⊗ Var 1) (Neg (Var 0 ⊗ Var 1)) refl

right_of_range : (f : Seg) → IsSegInRange f → Misses f corner far_point
unfolding form
right_of_range f hf =
    let is = λ (x y : ℤ). is_of (neg_ℤ (pos (2 ^ 28))) x y in
    parted_above (pos 1) (pos 0) (neg_ℤ (pos (2 ^ 28))) f corner far_point (omega (arith, lin)) (omega (arith, lin))
    (omega (arith, lin, is f.lo.x f.lo.y, hf.lo.right)) (omega (arith, lin, is f.hi.x f.hi.y, hf.hi.right))
  where
    is_of : (c x y : ℤ) → ((pos 1 *ℤ x) +ℤ (pos 0 *ℤ y)) +ℤ (c *ℤ pos 1) ≡ x +ℤ c
    is_of c x y = by_ring (c ∷ x ∷ y ∷ []) (Lit (pos 1) ⊗ Var 1 ⊕ Lit (pos 0) ⊗ Var 2 ⊕ Var 0 ⊗ Lit (pos 1)) (Var 1 ⊕ Var 0) refl

-- over plain variables: m + d steps from the height y, at the depth d, lead below the range
deep_enough : (y d m u v : ℤ) → pos 0 <ℤ d → y ≤ℤ m → pos 0 ≤ℤ m → u ≡ (pos 1 *ℤ y) -ℤ (pos (2 ^ 30) *ℤ (m +ℤ d)) → v ≡ pos 1 *ℤ d → u <ℤ neg_ℤ (pos (2 ^ 28) *ℤ v)
deep_enough y d m u v hd le hm at_u at_v = omega (arith, lin, one_mul y, one_mul d, pos_times (2 ^ 30) (m +ℤ d), pos_times (2 ^ 28) v)

pub none_below_outer : (edges : List Seg) → IsPlanar edges → (p : Point) → IsOff edges p → HasNoneBelow edges p → IsOuter edges p
none_below_outer edges planar p off none =
    let in_range = λ (f : Seg) (c : Contains edges f). All-contains IsSegInRange edges f planar.in_range c in
    let start = past p in
    let m = pos (unsigned_abs start.y) in
    let steps = m +ℤ pos start.d in
    let h : 1 ≤ 1 = lit≤ tt in
    let q = down start 1 h steps in
    let far : q.y <ℤ neg_ℤ (pos (2 ^ 28) *ℤ pos q.d) =
    deep_enough start.y (pos start.d) m q.y (pos q.d) (d_positive start) (within_abs start.y).high (pos_nonneg (unsigned_abs start.y)) (down-y start 1 h steps) (down-d start 1 h steps) in
    let forth : pos 0 ≤ℤ steps = omega (arith, lin, d_positive start, pos_nonneg (unsigned_abs start.y)) in
    joined-trans edges p start far_point
    (joined_by_clear edges p start (λ f i. (past_misses f p (in_range f i) (off f i)).none))
    (joined-trans edges start q far_point
    (joined_by_clear edges start q (λ f i. (down_misses f p 1 h steps (in_range f i) (off f i) forth (λ u. absurd (none f (record { among = i; under = (under-is f p).1 u })))).none))
    (joined-trans edges q corner far_point
    (joined_by_clear edges q corner (λ f i. (under_range f q corner (in_range f i) far (omega (arith, lin))).none))
    (joined_by_clear edges corner far_point (λ f i. (right_of_range f (in_range f i)).none))))
