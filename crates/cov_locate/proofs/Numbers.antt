-- Numbers of a line that are capped one past the range.
use Rattle.std.proofs.Common.{◌≡◌, sym, ◌∙◌, ap, subst, ◌+◌, ◌-◌, ◌*◌, ℕ, ◌<◌, Bool, true, false, ◌&&◌, cond, List, length, get_or, take, int_le, ℤ, neg_ℤ, ◌≤ℤ◌, arith, inl, inr}
use Rattle.std.specs.Prelude.{Some}
use Prim.Native.Nat.{min}
use Rattle.std.proofs.lemmas.Bool.{cases_Bool, cases_lt, and_parts, and_from}
use Rattle.std.proofs.lemmas.List.{take_more}
use Rattle.std.proofs.lemmas.List.Sums.{fold_push}
use Rattle.cov_locate.specs.Points.{is_within, two_numbers}
use Rattle.cov_locate.specs.declared.line.Line.TheVariants.{Point, OutOfRange}
use Rattle.cov_types.specs.Range.{IsInRange}
use Rattle.cov_types.specs.declared.coord.Coord.{Coord}
use Rattle.cov_types.specs.declared.coord.TheConstants.{LIMIT}
use Rattle.geo_text.specs.Token.{number_from, signed}
use Rattle.integer_laws.proofs.Compare.{int_le_is}
use Rattle.integer_laws.proofs.Ring.{lin}

abbrev cap : ℕ
cap = 268435457

-- one digit more
pub digit_more : (digits : List ℕ) (i size more d : ℕ) → i < length digits → size ≡ min cap (number_from 0 (take i digits)) → more ≡ min cap (10 * size + (get_or digits i d - 48))
    → more ≡ min cap (number_from 0 (take (i + 1) digits))
digit_more digits i size more d within so_far is =
    let before = number_from 0 (take i digits) in
    let next : number_from 0 (take (i + 1) digits) ≡ 10 * before + (get_or digits i d - 48) =
    ap (number_from 0) (take_more digits i d within) ∙ fold_push (λ m b. 10 * m + (b - 48)) 0 (take i digits) (get_or digits i d) in
    omega (arith, so_far, is, next)

-- ---- in range

within_is : (z : ℤ) → is_within z ≡ true → ((neg_ℤ LIMIT) ≤ℤ z) × (z ≤ℤ LIMIT)
within_is z h =
    let parts = and_parts (int_le (neg_ℤ LIMIT) z) (int_le z LIMIT) h in
    ((int_le_is (neg_ℤ LIMIT) z).0 parts.0, (int_le_is z LIMIT).0 parts.1)

is_within_from : (z : ℤ) → (neg_ℤ LIMIT) ≤ℤ z → z ≤ℤ LIMIT → is_within z ≡ true
is_within_from z low high = and_from (int_le (neg_ℤ LIMIT) z) (int_le z LIMIT) ((int_le_is (neg_ℤ LIMIT) z).1 low) ((int_le_is z LIMIT).1 high)

-- a number whose capped size is in range is not capped
not_capped : (a : Bool) (m : ℕ) → (neg_ℤ LIMIT) ≤ℤ signed a (min cap m) → signed a (min cap m) ≤ℤ LIMIT → min cap m ≡ m
not_capped true m low high = elim (cases_lt m cap) [ inl small ↦ omega (arith, small) | inr great ↦ (let capped : min cap m ≡ cap = omega (arith, great) in absurd (omega (arith, lin, low, capped))) ]
not_capped false m low high = elim (cases_lt m cap) [ inl small ↦ omega (arith, small) | inr great ↦ (let capped : min cap m ≡ cap = omega (arith, great) in absurd (omega (arith, lin, high, capped))) ]

-- nor is one that is in range
in_cap : (a : Bool) (m : ℕ) → (neg_ℤ LIMIT) ≤ℤ signed a m → signed a m ≤ℤ LIMIT → min cap m ≡ m
in_cap true m low high = elim (cases_lt m cap) [ inl small ↦ omega (arith, small) | inr great ↦ absurd (omega (arith, lin, low, great)) ]
in_cap false m low high = elim (cases_lt m cap) [ inl small ↦ omega (arith, small) | inr great ↦ absurd (omega (arith, lin, high, great)) ]

pub point_in : (p : Coord) (a b : Bool) (m n : ℕ) → p.x ≡ signed a (min cap m) → p.y ≡ signed b (min cap n) → IsInRange p → Point p ≡ two_numbers (Some (signed a m)) (Some (signed b n))
point_in p a b m n x y range =
    let same_m : min cap m ≡ m = not_capped a m (subst (λ (z : ℤ). (neg_ℤ LIMIT) ≤ℤ z) x range.left) (subst (λ (z : ℤ). z ≤ℤ LIMIT) x range.right) in
    let same_n : min cap n ≡ n = not_capped b n (subst (λ (z : ℤ). (neg_ℤ LIMIT) ≤ℤ z) y range.bottom) (subst (λ (z : ℤ). z ≤ℤ LIMIT) y range.top) in
    let x_is : p.x ≡ signed a m = x ∙ ap (signed a) same_m in
    let y_is : p.y ≡ signed b n = y ∙ ap (signed b) same_n in
    let inside : is_within (signed a m) && is_within (signed b n) ≡ true =
    and_from (is_within (signed a m)) (is_within (signed b n))
    (subst (λ (z : ℤ). is_within z ≡ true) x_is (is_within_from p.x range.left range.right)) (subst (λ (z : ℤ). is_within z ≡ true) y_is (is_within_from p.y range.bottom range.top)) in
    (λ i. Point (record { x = x_is i; y = y_is i })) ∙ sym (ap (λ t. cond t (Point (record { x = signed a m; y = signed b n })) OutOfRange) inside)

pub point_out : (p : Coord) (a b : Bool) (m n : ℕ) → p.x ≡ signed a (min cap m) → p.y ≡ signed b (min cap n) → ¬ IsInRange p → OutOfRange ≡ two_numbers (Some (signed a m)) (Some (signed b n))
point_out p a b m n x y out =
    elim (cases_Bool (is_within (signed a m) && is_within (signed b n))) [
      | inl inside ↦
          let parts = and_parts (is_within (signed a m)) (is_within (signed b n)) inside in
          let of_x = within_is (signed a m) parts.0 in
          let of_y = within_is (signed b n) parts.1 in
          let x_is : signed a m ≡ p.x = ap (signed a) (sym (in_cap a m of_x.0 of_x.1)) ∙ sym x in
          let y_is : signed b n ≡ p.y = ap (signed b) (sym (in_cap b n of_y.0 of_y.1)) ∙ sym y in
          absurd (out (record {
            left = subst (λ (z : ℤ). (neg_ℤ LIMIT) ≤ℤ z) x_is of_x.0;
            right = subst (λ (z : ℤ). z ≤ℤ LIMIT) x_is of_x.1;
            bottom = subst (λ (z : ℤ). (neg_ℤ LIMIT) ≤ℤ z) y_is of_y.0;
            top = subst (λ (z : ℤ). z ≤ℤ LIMIT) y_is of_y.1;
          }))
      | inr outside ↦ sym (ap (λ t. cond t (Point (record { x = signed a m; y = signed b n })) OutOfRange) outside)
    ]
