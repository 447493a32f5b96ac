-- What the reader keeps of the digits of a number is its value, read no further than the cap.
use Rattle.std.proofs.Common.{◌≡◌, ℕ, zero, suc, ◌+◌, ◌-◌, ◌*◌, ◌^◌, ◌<◌, ◌≤◌, Bool, true, false, eqb, ltb, lt-ltb, List, [], ◌∷◌, ◌++◌, length, fold, Option, Some, None, ℤ, pos, ◌*ℤ◌, sym, refl, ap, ap₂, ◌∙◌, subst, arith, if◌then◌else◌, ◌⊎◌, inl, inr}
use Rattle.std.proofs.lemmas.Bool.{cases_lt}
use Rattle.std.proofs.lemmas.Bool.Decides.{nat_tests}
use Rattle.std.proofs.lemmas.Int.{ints}
use Rattle.std.proofs.lemmas.Grind.{fold-append}
use Rattle.std.proofs.Math.Nat.{mul_comm, mul_left_comm, mul-one, mul-zero, mul-le-mul_left, one-le-pow}
use Rattle.geo_text.specs.Token.{Numeral, AreDigits, number_from, signed}
use Rattle.geo_text.specs.Decimal.{nearest, value}
use Rattle.geo_text.specs.Number.{Precision, capped, no_fraction, fraction_on, size_on, rounds_up, rounded}
use Rattle.geo_text.specs.declared.fraction.Fraction.{Fraction}
use Rattle.geo_text.specs.declared.fraction.Fraction.TheVariants.{Unscaled, Scaled}
use Rattle.geo_text.specs.declared.fraction.Tail.{Tail}
use Rattle.geo_text.specs.declared.fraction.Tail.TheVariants.{Empty}
use Rattle.geo_text.proofs.Limits.{limit, limit-signed, capped-from, capped-capped}
use Rattle.geo_text.proofs.Decimals.{ten_more, number_split, Beside, tail_from, beside_from, Says, beside_says, says_ten}
use Rattle.geo_text.proofs.Nearest.{rounds}

-- ---- digits of a fraction, one after the other

abbrev pub fraction_from : Fraction → List ℕ → Fraction
fraction_from f digits = fold fraction_on f digits

abbrev pub size_from : ℕ → Fraction → ℕ → List ℕ → ℕ
size_from cap f size [] = size
size_from cap f size (d ∷ ds) = size_from cap (fraction_on f d) (size_on cap f size d) ds

-- without a scale no digit goes into the size
unscaled_size : (cap : ℕ) (ds : List ℕ) (zero_so_far : Bool) (size : ℕ) → size_from cap (Unscaled zero_so_far) size ds ≡ size
unscaled_size cap [] z size = refl
unscaled_size cap (d ∷ ds) z size = unscaled_size cap ds _ size

unscaled_from : (ds : List ℕ) (z : Bool) → (w : Bool) × (fraction_from (Unscaled z) ds ≡ Unscaled w)
unscaled_from [] z = (z, refl)
unscaled_from (d ∷ ds) z = unscaled_from ds _

-- nor where no place is left
full_size : (cap : ℕ) (ds : List ℕ) (t : Tail) (size : ℕ) → size_from cap (Scaled 0 t) size ds ≡ size
full_size cap [] t size = refl
full_size cap (d ∷ ds) t size = full_size cap ds _ size

full_from : (ds : List ℕ) (t : Tail) → fraction_from (Scaled 0 t) ds ≡ Scaled 0 (tail_from t ds)
full_from [] t = refl
full_from (d ∷ ds) t = full_from ds _

-- where a place is left, the digit goes into the size
open_from : (left d : ℕ) → fraction_on (Scaled (suc left) Empty) d ≡ Scaled left Empty
open_from left d =
    let some : eqb (suc left) 0 ≡ false = grind (arith, nat_tests) in
    let less : suc left - 1 ≡ left = omega arith in
    rw (some, less) refl

open_size : (cap left size d : ℕ) → size_on cap (Scaled (suc left) Empty) size d ≡ capped cap (10 * size + (d - 48))
open_size cap left size d = let some : ltb 0 (suc left) ≡ true = lt-ltb 0 (suc left) (omega arith) in rw some refl

-- ---- what digits come to

-- behind the digits that write n, with so many places left: the digits as a number of this many units, and what is left
record Kept (cap left size n : ℕ) (ds : List ℕ) : Type 0 where
  left_after : ℕ
  tail : Tail
  whole : ℕ
  rest : ℕ
  fraction_is : fraction_from (Scaled left Empty) ds ≡ Scaled left_after tail
  size_is : capped cap (size_from cap (Scaled left Empty) size ds) ≡ capped cap whole
  digits_are : number_from n ds * 10 ^ left ≡ whole * 10 ^ left_after * 10 ^ length ds + rest
  below : rest < 10 ^ length ds
  says : Says tail rest (10 ^ length ds)

kept_full : (cap size n : ℕ) (ds : List ℕ) → AreDigits ds → capped cap size ≡ capped cap n → Kept cap 0 size n ds
kept_full cap size n ds h e =
    let b = beside_from ds Empty 0 1 h (omega arith) (refl, refl) in
    let one : 1 * 10 ^ length ds ≡ 10 ^ length ds = omega arith in
    let unit_one : number_from n ds * 10 ^ 0 ≡ number_from n ds = mul-one (number_from n ds) in
    let whole_one : n * 10 ^ 0 * 10 ^ length ds ≡ n * 10 ^ length ds = ap (λ k. k * 10 ^ length ds) (mul-one n) in
    record {
      left_after = 0;
      tail = tail_from Empty ds;
      whole = n;
      rest = number_from 0 ds;
      fraction_is = full_from ds Empty;
      size_is = ap (capped cap) (full_size cap ds Empty size) ∙ e;
      digits_are = omega (arith, unit_one, whole_one, number_split ds n);
      below = omega (arith, b.0, one);
      says = beside_says (tail_from Empty ds) (number_from 0 ds) (10 ^ length ds) (subst (λ (q : ℕ). Beside (tail_from Empty ds) (number_from 0 ds) q) one b.1);
    }

kept : (cap : ℕ) (ds : List ℕ) (left size n : ℕ) → AreDigits ds → capped cap size ≡ capped cap n → Kept cap left size n ds
kept cap [] left size n h e = record {
  left_after = left;
  tail = Empty;
  whole = n;
  rest = 0;
  fraction_is = refl;
  size_is = e;
  digits_are = omega (arith, mul-one (n * 10 ^ left));
  below = omega arith;
  says = refl;
}
kept cap (d ∷ ds) zero size n h e = kept_full cap size n (d ∷ ds) h e
kept cap (d ∷ ds) (suc left) size n h e =
    let size_next = capped cap (10 * size + (d - 48)) in
    let n_next = 10 * n + (d - 48) in
    let same : capped cap (10 * size + (d - 48)) ≡ capped cap n_next = capped-from cap (d ∷ []) size n e in
    let k = kept cap ds left size_next n_next h.1 (capped-capped cap (10 * size + (d - 48)) ∙ same) in
    let f = open_from left d in
    let q = 10 ^ length ds in
    let more : 10 ^ suc (length ds) ≡ 10 * q = ten_more (length ds) in
    record {
      left_after = k.left_after;
      tail = k.tail;
      whole = k.whole;
      rest = 10 * k.rest;
      fraction_is = ap (λ g. fraction_from g ds) f ∙ k.fraction_is;
      size_is = ap₂ (λ g s. capped cap (size_from cap g s ds)) f (open_size cap left size d) ∙ k.size_is;
      digits_are = times_ten (number_from n_next ds) (10 ^ left) (10 ^ suc left) (k.whole * 10 ^ k.left_after) q (10 ^ suc (length ds)) k.rest k.digits_are (ten_more left) more;
      below = omega (arith, k.below, more);
      says = subst (λ (r : ℕ). Says k.tail (10 * k.rest) r) (sym more) (says_ten k.tail k.rest q k.says);
    }
  where
    times_ten : (n p p' m q q' r : ℕ) → n * p ≡ m * q + r → p' ≡ 10 * p → q' ≡ 10 * q → n * p' ≡ m * q' + 10 * r
    times_ten n p p' m q q' r e ep eq =
        let left_side : n * p' ≡ 10 * (n * p) = ap (λ x. n * x) ep ∙ mul_left_comm n 10 p in
        let right_side : m * q' ≡ 10 * (m * q) = ap (λ x. m * x) eq ∙ mul_left_comm m 10 q in
        omega (arith, left_side, right_side, e)

-- ---- the value

capped_units : (cap size whole p up : ℕ) → 0 < p → capped cap size ≡ capped cap whole → capped cap (size * p + up) ≡ capped cap (whole * p + up)
capped_units cap size whole p up some e =
    by_cases (cases_lt size cap)
  where
    by_cases : (size < cap) ⊎ (cap ≤ size) → capped cap (size * p + up) ≡ capped cap (whole * p + up)
    by_cases (inr h) =
        let much : cap ≤ whole = omega (arith, e, h) in
        let a : size * 1 ≤ size * p = mul-le-mul_left size some in
        let b : whole * 1 ≤ whole * p = mul-le-mul_left whole some in
        omega (arith, a, b, h, much)
    by_cases (inl h) = let same : size ≡ whole = omega (arith, e, h) in ap (λ n. capped cap (n * p + up)) same

pub times_signed : (p n : ℕ) (negative : Bool) → pos p *ℤ signed negative n ≡ signed negative (p * n)
times_signed p n false = refl
times_signed p zero true = rw (mul-zero p) refl
times_signed p (suc n) true = omega (arith, ints)

-- the value that is seen of the digits before and behind the point
abbrev pub seen_value : Precision → Numeral → ℤ
seen_value precision n =
    signed n.negative (rounded precision.cap n.negative (fraction_from (no_fraction precision.scale) n.fraction) (size_from precision.cap (no_fraction precision.scale) (capped precision.cap (number_from 0 n.whole)) n.fraction))

unscaled_value : (cap : ℕ) (n : Numeral) → seen_value (record { scale = None; cap = cap }) n ≡ limit cap (value None n)
unscaled_value cap n =
    let size = capped cap (number_from 0 n.whole) in
    let fraction = unscaled_from n.fraction true in
    let one : capped cap (size * 1 + 0) ≡ size = omega arith in
    ap₂ (λ (f : Fraction) (s : ℕ). signed n.negative (rounded cap n.negative f s)) fraction.1 (unscaled_size cap n.fraction true size)
    ∙ ap (signed n.negative) one
    ∙ sym (limit-signed cap n.negative (number_from 0 n.whole))

scaled_value : (cap k : ℕ) (n : Numeral) → AreDigits n.fraction → seen_value (record { scale = Some k; cap = cap }) n ≡ limit cap (value (Some k) n)
scaled_value cap k n h =
    let size = capped cap (number_from 0 n.whole) in
    let w = kept cap n.fraction k size (number_from 0 n.whole) h (capped-capped cap (number_from 0 n.whole)) in
    let q = 10 ^ length n.fraction in
    let m = w.whole * 10 ^ w.left_after in
    let up : ℕ = if rounds_up n.negative (Scaled w.left_after w.tail) then 1 else 0 in
    let all = number_from 0 (n.whole ++ n.fraction) in
    let digits : all ≡ number_from (number_from 0 n.whole) n.fraction = fold-append (λ i b. 10 * i + (b - 48)) 0 n.whole n.fraction in
    let scaled : 10 ^ k * all ≡ m * q + w.rest = mul_comm (10 ^ k) all ∙ ap (λ i. i * 10 ^ k) digits ∙ w.digits_are in
    let some : 0 < q = one-le-pow (length n.fraction) 10 (omega arith) in
    let unit_some : 0 < 10 ^ w.left_after = one-le-pow w.left_after 10 (omega arith) in
    let whole_value : value (Some k) n ≡ signed n.negative (m + up)
    = ap (λ z. nearest z q) (times_signed (10 ^ k) all n.negative ∙ ap (signed n.negative) scaled)
    ∙ rounds n.negative w.tail w.left_after m w.rest q some w.below w.says in
    ap (λ (f : Fraction). signed n.negative (rounded cap n.negative f (size_from cap (Scaled k Empty) size n.fraction))) w.fraction_is
    ∙ ap (signed n.negative) (capped_units cap (size_from cap (Scaled k Empty) size n.fraction) w.whole (10 ^ w.left_after) up unit_some w.size_is)
    ∙ sym (limit-signed cap n.negative (m + up))
    ∙ ap (limit cap) (sym whole_value)

pub seen_value_is : (precision : Precision) (n : Numeral) → AreDigits n.fraction → seen_value precision n ≡ limit precision.cap (value precision.scale n)
seen_value_is precision n h = by_scale precision.scale refl
  where
    by_scale : (scale : Option ℕ) → precision.scale ≡ scale → seen_value precision n ≡ limit precision.cap (value precision.scale n)
    by_scale None e = rw e (unscaled_value precision.cap n)
    by_scale (Some k) e = rw e (scaled_value precision.cap k n h)
