-- What the text of a number is: digits without a leading zero, behind a `-` where it is negative.
use Rattle.std.proofs.Common.{◌≡◌, ◌≢◌, ◌++◌, ◌+◌, ◌-◌, ◌*◌, ◌^◌, ◌<◌, ℕ, zero, suc, Bool, true, false, List, [], ◌∷◌, length, get_or, fold, refl, ap, arith, rules, ℤ, pos, negsuc, neg_ℤ}
use Rattle.std.specs.Prelude.{None, IsTrue, ◌&&◌, nat_le, if◌then◌else◌}
use Rattle.std.specs.List.{AllByRecursion}
use Rattle.std.specs.Fmt.{decimal}
use Rattle.std.proofs.lemmas.Fmt.{decimal_nonempty, decimal_digit, first_decimal, digits_decimal, digits_value-decimal}
use Rattle.std.proofs.lemmas.Str.Parse.{IsNumeralModel, numerals_by_fold}
use lib.Signed.{mag}
use Rattle.cov_write.specs.Written.{number_text}

-- each byte is a digit
abbrev pub AreDigits : List ℕ → Type 0
AreDigits bytes = AllByRecursion (λ b. IsTrue (nat_le 48 b && nat_le b 57)) bytes

-- the number that digits write, behind digits that write n
abbrev pub number_from : ℕ → List ℕ → ℕ
number_from n digits = fold (λ m b. 10 * m + (b - 48)) n digits

-- the digits write n, and no zero stands before another digit
pub record IsDecimal (digits : List ℕ) (n : ℕ) : Type 0 where
  pub some_digit : 0 < length digits
  pub each_digit : AreDigits digits
  pub value : number_from 0 digits ≡ n
  pub no_leading_zero : 1 < length digits → get_or digits 0 0 ≢ 48

-- the bytes write z: the digits of its size, behind a `-` exactly where z is negative
pub record IsSignedDecimal (bytes : List ℕ) (z : ℤ) : Type 0 where
  pub negative : Bool
  pub digits : List ℕ
  pub size : ℕ
  pub decimal : IsDecimal digits size
  pub spelling : bytes ≡ (if negative then 45 ∷ [] else []) ++ digits
  pub value : z ≡ (if negative then neg_ℤ (pos size) else pos size)
  pub some_size : IsTrue negative → 0 < size

own : IsNumeralModel AreDigits (number_from 0)
own = numerals_by_fold AreDigits (search rules) number_from (search rules)

decimal_no_leading_zero : (n : ℕ) → n < 2 ^ 64 → 1 < length (decimal n) → get_or (decimal n) 0 0 ≢ 48
decimal_no_leading_zero zero fits long first = omega (arith, ap length (decimal_digit 0 (omega arith)))
decimal_no_leading_zero (suc n) fits long first = omega (arith, first_decimal (suc n) (omega arith) fits)

pub decimal_is_IsDecimal : (n : ℕ) → n < 2 ^ 64 → IsDecimal (decimal n) n
decimal_is_IsDecimal n fits = record {
  some_digit = decimal_nonempty n fits;
  each_digit = digits_decimal own n fits;
  value = digits_value-decimal own n fits;
  no_leading_zero = decimal_no_leading_zero n fits;
}

-- the text of any number of 64 bits
pub number_text_is_IsSignedDecimal : (z : ℤ) → mag z < 2 ^ 63 → IsSignedDecimal (number_text None z) z
number_text_is_IsSignedDecimal (pos n) fits = record {
  negative = false;
  digits = decimal n;
  size = n;
  decimal = decimal_is_IsDecimal n (omega arith);
  spelling = refl;
  value = refl;
  some_size = λ t. absurd (cc);
}
number_text_is_IsSignedDecimal (negsuc n) fits = record {
  negative = true;
  digits = decimal (suc n);
  size = suc n;
  decimal = decimal_is_IsDecimal (suc n) (omega arith);
  spelling = refl;
  value = refl;
  some_size = λ t. omega arith;
}
