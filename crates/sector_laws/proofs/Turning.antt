-- The order of directions: the turn orders all edges, taken from lo to hi, since each of them leads to the right or straight up.
use mathlib.Core.List.{[], ◌∷◌}
use Rattle.std.proofs.Common.{◌≡◌, refl, sym, ◌∙◌, ap, subst, ◌⊎◌, inl, inr, ℤ, pos, neg_ℤ, ◌+ℤ◌, ◌-ℤ◌, ◌*ℤ◌, ◌<ℤ◌, ◌+◌, suc, unsigned_abs, arith}
use Rattle.std.specs.Cmp.{IsTotalOrder, int_ranks, int_cmp_is, on_total, then_total, back_total, bool_cmp_total}
use Rattle.std.specs.Ordering.{int_cmp, ordering_reverse, MatchOrdering}
use Rattle.std.specs.declared.cmp.Ordering.{Ordering}
use Rattle.std.specs.declared.cmp.Ordering.TheVariants.{Less, Equal, Greater}
use Rattle.integer_laws.proofs.Bound.{within_abs}
use Rattle.integer_laws.proofs.Cast.{pos_lt}
use Rattle.integer_laws.proofs.Compare.{le_of_lt}
use Rattle.integer_laws.proofs.Order.{mul_le}
use Rattle.integer_laws.proofs.Ring.{lin, by_ring, Var, ◌⊕◌, ◌⊖◌, ◌⊗◌, Neg, mul_one, mul_zero}
use Rattle.integer_laws.proofs.Sign.{positive_times_positive, positive_times_negative, positive_factor}
use Rattle.cov_types.specs.declared.seg.Seg.{Seg}
use Rattle.cov_types.proofs.Order.{cases_before}
use Rattle.plane.specs.Segment.{turn_of}
use Rattle.sector_laws.proofs.Near.{cross}
use Rattle.sector_laws.specs.Direction.{turn_cmp, direction_cmp}
use Rattle.sector_laws.specs.Sector.{HalfEdge}

-- ---- signs

match_map : {P Q R U V W : Type 0} (r : Ordering) → (P → U) → (Q → V) → (R → W) → MatchOrdering r P Q R → MatchOrdering r U V W
match_map Less f g h p = f p
match_map Equal f g h p = g p
match_map Greater f g h p = h p

match_back : {P Q R U V W : Type 0} (r : Ordering) → (P → W) → (Q → V) → (R → U) → MatchOrdering r P Q R → MatchOrdering (ordering_reverse r) U V W
match_back Less f g h p = f p
match_back Equal f g h p = g p
match_back Greater f g h p = h p

-- how 0 compares with the number
abbrev sign : ℤ → Ordering
sign x = int_cmp (pos 0) x

sign_gap : (x y d : ℤ) → d ≡ y -ℤ x → int_cmp x y ≡ sign d
sign_gap x y d gap = int_cmp_is (pos 0) d (int_cmp x y) (match_map (int_cmp x y) (λ (p : x <ℤ y). omega (arith, lin)) (λ (p : x ≡ y). omega (arith, lin)) (λ (p : y <ℤ x). omega (arith, lin)) (int_ranks x y))

sign_neg : (x y : ℤ) → y ≡ neg_ℤ x → sign x ≡ ordering_reverse (sign y)
sign_neg x y turned =
    sym (int_cmp_is (pos 0) x (ordering_reverse (sign y))
    (match_back (sign y) (λ (p : pos 0 <ℤ y). omega (arith, lin)) (λ (p : pos 0 ≡ y). omega (arith, lin)) (λ (p : y <ℤ pos 0). omega (arith, lin)) (int_ranks (pos 0) y)))

-- a positive multiple has the same sign
sign_times : (k x y : ℤ) → pos 0 <ℤ k → y ≡ k *ℤ x → sign y ≡ sign x
sign_times k x y positive product =
    sym (int_cmp_is (pos 0) y (sign x)
    (match_map (sign x)
    (λ (p : pos 0 <ℤ x). let q = positive_times_positive positive p in omega (arith, lin))
    (λ (p : pos 0 ≡ x). sym (product ∙ ap (λ z. k *ℤ z) (sym p) ∙ mul_zero k))
    (λ (p : x <ℤ pos 0). let q = positive_times_negative positive p in omega (arith, lin))
    (int_ranks (pos 0) x)))

sign_positive : (x : ℤ) → sign x ≡ Less → pos 0 <ℤ x
sign_positive x less = subst (λ r. MatchOrdering r (pos 0 <ℤ x) (pos 0 ≡ x) (x <ℤ pos 0)) less (int_ranks (pos 0) x)

sign_zero : (x : ℤ) → sign x ≡ Equal → pos 0 ≡ x
sign_zero x equal = subst (λ r. MatchOrdering r (pos 0 <ℤ x) (pos 0 ≡ x) (x <ℤ pos 0)) equal (int_ranks (pos 0) x)

sign_less : (x : ℤ) → pos 0 <ℤ x → sign x ≡ Less
sign_less x positive = sym (int_cmp_is (pos 0) x Less positive)

-- ---- ways to the right or straight up

IsAhead : ℤ → ℤ → Type 0
IsAhead x y = (pos 0 <ℤ x) ⊎ ((x ≡ pos 0) × (pos 0 <ℤ y))

-- where k is large, k times the way to the right and the way up are positive together
abbrev weight : ℤ → ℤ → ℤ → ℤ
weight k x y = (k *ℤ x) +ℤ y

weight_positive : (k x y : ℤ) → pos (unsigned_abs y) <ℤ k → IsAhead x y → pos 0 <ℤ weight k x y
unfolding IsAhead
weight_positive k x y large ahead =
    let low = (within_abs y).low in
    elim ahead [
      | inl right ↦ (let wide = mul_le {x = pos 1} {y = x} k (omega (arith, lin)) (omega (arith, lin)) in omega (arith, lin, mul_one k))
      | inr up ↦ (let flat = ap (λ z. k *ℤ z) up.0 ∙ mul_zero k in let high = up.1 in omega (arith, lin))
    ]

-- three ways, of which the second is between the others by weight
between : (k ax ay bx by cx cy : ℤ) → weight k bx by *ℤ cross ax ay cx cy ≡ (weight k ax ay *ℤ cross bx by cx cy) +ℤ (weight k cx cy *ℤ cross ax ay bx by)
between k ax ay bx by cx cy =
    by_ring (k ∷ ax ∷ ay ∷ bx ∷ by ∷ cx ∷ cy ∷ [])
    ((Var 0 ⊗ Var 3 ⊕ Var 4) ⊗ (Var 1 ⊗ Var 6 ⊖ Var 2 ⊗ Var 5))
    ((Var 0 ⊗ Var 1 ⊕ Var 2) ⊗ (Var 3 ⊗ Var 6 ⊖ Var 4 ⊗ Var 5) ⊕ (Var 0 ⊗ Var 5 ⊕ Var 6) ⊗ (Var 1 ⊗ Var 4 ⊖ Var 2 ⊗ Var 3)) refl

both_positive : (a b c : ℤ) → c ≡ a +ℤ b → pos 0 <ℤ a → pos 0 <ℤ b → pos 0 <ℤ c
both_positive a b c total first second = omega (arith, lin)

first_alone : (a b c : ℤ) → c ≡ a +ℤ b → b ≡ pos 0 → c ≡ a
first_alone a b c total none = omega (arith, lin)

module _ (ax ay bx by cx cy : ℤ) (ahead_a : IsAhead ax ay) (ahead_b : IsAhead bx by) (ahead_c : IsAhead cx cy) where
  abbrev large : ℤ
  large = pos (suc (unsigned_abs ay + unsigned_abs by + unsigned_abs cy))

  positive_a : pos 0 <ℤ weight large ax ay
  positive_a = weight_positive large ax ay ((pos_lt (unsigned_abs ay) _).1 (omega arith)) ahead_a

  positive_b : pos 0 <ℤ weight large bx by
  positive_b = weight_positive large bx by ((pos_lt (unsigned_abs by) _).1 (omega arith)) ahead_b

  positive_c : pos 0 <ℤ weight large cx cy
  positive_c = weight_positive large cx cy ((pos_lt (unsigned_abs cy) _).1 (omega arith)) ahead_c

  sign_trans : sign (cross ax ay bx by) ≡ Less → sign (cross bx by cx cy) ≡ Less → sign (cross ax ay cx cy) ≡ Less
  sign_trans first second =
      let left = positive_times_positive positive_a (sign_positive (cross bx by cx cy) second) in
      let right = positive_times_positive positive_c (sign_positive (cross ax ay bx by) first) in
      sign_less (cross ax ay cx cy)
      (positive_factor (weight large bx by) (cross ax ay cx cy) (le_of_lt positive_b) (both_positive (weight large ax ay *ℤ cross bx by cx cy) (weight large cx cy *ℤ cross ax ay bx by) _ (between large ax ay bx by cx cy) left right))

  sign_congr : sign (cross ax ay bx by) ≡ Equal → sign (cross ax ay cx cy) ≡ sign (cross bx by cx cy)
  sign_congr level =
      let none : weight large cx cy *ℤ cross ax ay bx by ≡ pos 0 = ap (λ z. weight large cx cy *ℤ z) (sym (sign_zero (cross ax ay bx by) level)) ∙ mul_zero (weight large cx cy) in
      sym (sign_times (weight large bx by) (cross ax ay cx cy) (weight large bx by *ℤ cross ax ay cx cy) positive_b refl)
      ∙ sign_times (weight large ax ay) (cross bx by cx cy) (weight large bx by *ℤ cross ax ay cx cy) positive_a
      (first_alone (weight large ax ay *ℤ cross bx by cx cy) (weight large cx cy *ℤ cross ax ay bx by) _ (between large ax ay bx by cx cy) none)

-- ---- edges

abbrev dx : Seg → ℤ
dx s = s.hi.x -ℤ s.lo.x

abbrev dy : Seg → ℤ
dy s = s.hi.y -ℤ s.lo.y

seg_ahead : (s : Seg) → IsAhead (dx s) (dy s)
unfolding IsAhead
seg_ahead s =
    elim (cases_before s.lo s.hi s.ordered) [
      | inl right ↦ inl (omega (arith, lin))
      | inr up ↦ (let same = up.0 in let high = up.1 in inr (omega (arith, lin), omega (arith, lin)))
    ]

gap_is : (s t : Seg) → cross (dx s) (dy s) (dx t) (dy t) ≡ turn_of s.lo s.hi t.hi -ℤ turn_of s.lo s.hi t.lo
unfolding turn_of
gap_is s t =
    by_ring (s.lo.x ∷ s.lo.y ∷ s.hi.x ∷ s.hi.y ∷ t.lo.x ∷ t.lo.y ∷ t.hi.x ∷ t.hi.y ∷ [])
    ((Var 2 ⊖ Var 0) ⊗ (Var 7 ⊖ Var 5) ⊖ (Var 3 ⊖ Var 1) ⊗ (Var 6 ⊖ Var 4))
    (((Var 2 ⊖ Var 0) ⊗ (Var 7 ⊖ Var 1) ⊖ (Var 3 ⊖ Var 1) ⊗ (Var 6 ⊖ Var 0)) ⊖ ((Var 2 ⊖ Var 0) ⊗ (Var 5 ⊖ Var 1) ⊖ (Var 3 ⊖ Var 1) ⊗ (Var 4 ⊖ Var 0))) refl

swap_is : (s t : Seg) → cross (dx t) (dy t) (dx s) (dy s) ≡ neg_ℤ (cross (dx s) (dy s) (dx t) (dy t))
swap_is s t = by_ring (dx s ∷ dy s ∷ dx t ∷ dy t ∷ []) (Var 2 ⊗ Var 1 ⊖ Var 3 ⊗ Var 0) (Neg (Var 0 ⊗ Var 3 ⊖ Var 1 ⊗ Var 2)) refl

turn_is : (s t : Seg) → turn_cmp s t ≡ sign (cross (dx s) (dy s) (dx t) (dy t))
turn_is s t = sign_gap (turn_of s.lo s.hi t.lo) (turn_of s.lo s.hi t.hi) (cross (dx s) (dy s) (dx t) (dy t)) (gap_is s t)

turn_total : IsTotalOrder turn_cmp
turn_total = record {
  antisymm = λ s t. turn_is s t ∙ sign_neg (cross (dx s) (dy s) (dx t) (dy t)) (cross (dx t) (dy t) (dx s) (dy s)) (swap_is s t) ∙ ap ordering_reverse (sym (turn_is t s));
  trans = λ s t u first second.
      turn_is s u ∙ sign_trans (dx s) (dy s) (dx t) (dy t) (dx u) (dy u) (seg_ahead s) (seg_ahead t) (seg_ahead u) (sym (turn_is s t) ∙ first) (sym (turn_is t u) ∙ second);
  congr = λ s t u level.
      turn_is s u ∙ sign_congr (dx s) (dy s) (dx t) (dy t) (dx u) (dy u) (seg_ahead s) (seg_ahead t) (seg_ahead u) (sym (turn_is s t) ∙ level) ∙ sym (turn_is t u);
}

-- ---- directions

pub direction_total : IsTotalOrder direction_cmp
direction_total = then_total (back_total (on_total (λ (h : HalfEdge). h.forwards) bool_cmp_total)) (on_total (λ (h : HalfEdge). h.edge) turn_total)
