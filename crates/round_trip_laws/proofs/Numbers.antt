-- The text of a number is a numeral, and its value is the number.
use Rattle.std.proofs.Common.{◌≡◌, ℕ, zero, suc, ◌+◌, ◌-◌, ◌*◌, ◌/◌, ◌%◌, ◌^◌, ◌<◌, ◌≤◌, Bool, true, false, eqb, cond, List, [], ◌∷◌, ◌++◌, length, length-append, Option, Some, None, ℤ, pos, negsuc, neg_ℤ, ◌*ℤ◌, ◌≤ℤ◌, ◌⊎◌, inl, inr, ⊎_elim, sym, refl, ap, ap₂, ◌∙◌, subst, arith, append-nil, append_assoc, codes}
use Rattle.std.specs.Prelude.{unsigned_abs}
use Rattle.std.specs.List.{AllByRecursion, list_all}
use Rattle.std.specs.Fmt.{decimal, signed_decimal}
use Rattle.std.proofs.lemmas.Bool.{and_parts}
use Rattle.std.proofs.lemmas.Bool.Decides.{nat_tests}
use Rattle.std.proofs.lemmas.Grind.{fold-append}
use Rattle.std.proofs.lemmas.Int.{ints}
use Rattle.std.proofs.lemmas.Nat.{div-add-mod', mod_below}
use Rattle.std.proofs.Math.Nat.{add-mul, mul-add, mul_assoc, mul_comm, mul_left_comm, mul-one, mul-zero, one-le-pow, pow-succ', div-le_self}
use Rattle.cov_types.specs.declared.coord.TheConstants.{LIMIT}
use Rattle.geo_text.specs.Token.{Numeral, AreDigits, is_digit, IsNumeral, IsSign, IsPoint, number_from, signed}
use Rattle.geo_text.specs.Decimal.{nearest, value}
use Rattle.geo_text.proofs.Fractions.{times_signed}
use Rattle.geo_text.proofs.Nearest.{nearest_exact}
use Rattle.cov_write.specs.Written.{places, without_end_zeros, fraction_text, sign_text, number_text}
use Rattle.cov_write.proofs.Decimal.{decimal_is_IsDecimal}
use Rattle.cov_write.proofs.Places.{some_power, nothing_left, first_place, digit_small, rest_below}

-- the number lies from -LIMIT to LIMIT
pub record IsSmall (z : ℤ) : Type 0 where
  pub low : (neg_ℤ LIMIT) ≤ℤ z
  pub high : z ≤ℤ LIMIT

pub small_size : (z : ℤ) → IsSmall z → unsigned_abs z < 2 ^ 64
small_size (pos n) h = omega (arith, ints, h.high)
small_size (negsuc n) h = omega (arith, ints, h.low)

abbrev is_negative : ℤ → Bool
is_negative (pos n) = false
is_negative (negsuc n) = true

signed_size : (z : ℤ) → signed (is_negative z) (unsigned_abs z) ≡ z
signed_size (pos n) = refl
signed_size (negsuc n) = refl

-- ---- the digits of a remainder

abbrev fraction_digits : ℕ → ℕ → List ℕ
fraction_digits k r = without_end_zeros (places k r)

-- nothing is left, or there is a first digit
by_rest : {P : Type 0} (r : ℕ) → (r ≡ 0 → P) → (0 < r → P) → P
by_rest zero none some = none refl
by_rest (suc r) none some = some (omega arith)

digits_are : (k r : ℕ) → r < 10 ^ k → AreDigits (fraction_digits k r)
digits_are zero r h = tt
digits_are (suc k) r h =
    by_rest r (λ none. subst AreDigits (sym (ap (fraction_digits (suc k)) none ∙ nothing_left (suc k))) tt)
    (λ some. subst AreDigits (sym (first_place k r some h)) (digit_test (r / 10 ^ k) (digit_small k r h), digits_are k (r % 10 ^ k) (rest_below k r)))
  where
    digit_test : (d : ℕ) → d ≤ 9 → is_digit (48 + d) ≡ true
    digit_test d h = grind (arith, nat_tests)

-- digits behind n come to n and the remainder
abbrev ComesTo : ℕ → ℕ → ℕ → List ℕ → Type 0
ComesTo n k r digits = number_from n digits * 10 ^ k ≡ (n * 10 ^ k + r) * 10 ^ length digits

come_to_none : (n k : ℕ) → ComesTo n k 0 []
come_to_none n k = omega (arith, mul-one (n * 10 ^ k + 0))

come_to : (k r n : ℕ) → r < 10 ^ k → ComesTo n k r (fraction_digits k r)
come_to zero r n h = let none : r ≡ 0 = omega (arith, h) in subst (λ (i : ℕ). ComesTo n 0 i []) (sym none) (come_to_none n 0)
come_to (suc k) r n h =
    by_rest r (λ none. subst (λ (i : ℕ). ComesTo n (suc k) i (fraction_digits (suc k) i)) (sym none) (subst (ComesTo n (suc k) 0) (sym (nothing_left (suc k))) (come_to_none n (suc k))))
    (λ some. subst (ComesTo n (suc k) r) (sym (first_place k r some h)) (one_more (fraction_digits k (r % 10 ^ k)) (come_to k (r % 10 ^ k) (10 * n + r / 10 ^ k) (rest_below k r))))
  where
    one_more : (ds : List ℕ) → ComesTo (10 * n + r / 10 ^ k) k (r % 10 ^ k) ds → ComesTo n (suc k) r ((48 + r / 10 ^ k) ∷ ds)
    one_more ds e =
        let p = 10 ^ k in
        let q = 10 ^ length ds in
        let next = 10 * n + r / p in
        let digit : 48 + r / p - 48 ≡ r / p = omega arith in
        let here : number_from n ((48 + r / p) ∷ ds) ≡ number_from next ds = ap (λ d. number_from (10 * n + d) ds) digit in
        let parts : next * p + r % p ≡ n * 10 ^ suc k + r = omega (arith, add-mul (10 * n) (r / p) p, mul_assoc 10 n p, ap (λ x. n * x) (pow-succ' 10 k), mul_left_comm n 10 p, div-add-mod' r p) in
        ap₂ (λ x y. x * y) here (pow-succ' 10 k)
        ∙ mul_left_comm (number_from next ds) 10 p
        ∙ ap (λ x. 10 * x) (e ∙ ap (λ x. x * q) parts)
        ∙ mul_left_comm 10 (n * 10 ^ suc k + r) q
        ∙ ap (λ x. (n * 10 ^ suc k + r) * x) (sym (pow-succ' 10 (length ds)))

-- ---- the numeral of a number

abbrev whole_digits : Option ℕ → ℕ → List ℕ
whole_digits None n = decimal n
whole_digits (Some k) n = decimal (n / 10 ^ k)

abbrev digits_behind : Option ℕ → ℕ → List ℕ
digits_behind None n = []
digits_behind (Some k) n = fraction_digits k (n % 10 ^ k)

abbrev pub number_at : Option ℕ → ℕ → ℤ → Numeral
number_at scale at z = record { at = at; negative = is_negative z; whole = whole_digits scale (unsigned_abs z); fraction = digits_behind scale (unsigned_abs z) }

sign_is : (z : ℤ) → IsSign (sign_text z) (is_negative z)
sign_is (pos n) = inr refl
sign_is (negsuc n) = refl

signed_decimal_is : (z : ℤ) → signed_decimal z ≡ sign_text z ++ decimal (unsigned_abs z)
signed_decimal_is (pos n) = refl
signed_decimal_is (negsuc n) = refl

-- the point of a remainder, where there is one, and the digits behind it
record IsBehind (k r : ℕ) : Type 0 where
  point : List ℕ
  is_point : IsPoint point (fraction_digits k r)
  spelling : fraction_text k r ≡ point ++ fraction_digits k r

behind : (k r : ℕ) → IsBehind k r
behind k zero = record { point = []; is_point = inl (refl, nothing_left k); spelling = sym (nothing_left k) }
behind k (suc r) =
    let some : eqb (suc r) 0 ≡ false = grind (arith, nat_tests) in
    record { point = codes "."; is_point = inr refl; spelling = rw some refl }

quotient_small : (n k : ℕ) → n < 2 ^ 64 → n / 10 ^ k < 2 ^ 64
quotient_small n k h = omega (arith, h, div-le_self n (10 ^ k))

pub number_is_numeral : (scale : Option ℕ) (at : ℕ) (z : ℤ) → IsSmall z → IsNumeral (number_text scale z) (number_at scale at z)
number_is_numeral None at z h =
    let digits = decimal_is_IsDecimal (unsigned_abs z) (small_size z h) in
    let some : 0 < length (decimal (unsigned_abs z)) = digits.some_digit in
    record {
      sign = sign_text z;
      point = [];
      is_sign = sign_is z;
      is_point = inl (refl, refl);
      whole = digits.each_digit;
      fraction = tt;
      some_digit = omega arith;
      spelling = signed_decimal_is z ∙ ap (λ (bs : List ℕ). sign_text z ++ bs) (sym (append-nil (decimal (unsigned_abs z))));
    }
number_is_numeral (Some k) at z h =
    let size = unsigned_abs z in
    let digits = decimal_is_IsDecimal (size / 10 ^ k) (quotient_small size k (small_size z h)) in
    let some : 0 < length (decimal (size / 10 ^ k)) = digits.some_digit in
    let rest = behind k (size % 10 ^ k) in
    record {
      sign = sign_text z;
      point = rest.point;
      is_sign = sign_is z;
      is_point = rest.is_point;
      whole = digits.each_digit;
      fraction = digits_are k (size % 10 ^ k) (rest_below k size);
      some_digit = omega arith;
      spelling = append_assoc (sign_text z) (decimal (size / 10 ^ k)) (fraction_text k (size % 10 ^ k)) ∙ ap (λ (bs : List ℕ). sign_text z ++ (decimal (size / 10 ^ k) ++ bs)) rest.spelling;
    }

-- ---- its value

scaled_value : (k at : ℕ) (z : ℤ) → IsSmall z → value (Some k) (number_at (Some k) at z) ≡ z
scaled_value k at z h =
    let size = unsigned_abs z in
    let whole = decimal (size / 10 ^ k) in
    let fraction = fraction_digits k (size % 10 ^ k) in
    let q = 10 ^ length fraction in
    let all : number_from 0 (whole ++ fraction) ≡ number_from (size / 10 ^ k) fraction
    = fold-append (λ i b. 10 * i + (b - 48)) 0 whole fraction ∙ ap (λ n. number_from n fraction) (decimal_is_IsDecimal (size / 10 ^ k) (quotient_small size k (small_size z h))).value in
    let exact : 10 ^ k * number_from 0 (whole ++ fraction) ≡ size * q
    = ap (λ n. 10 ^ k * n) all ∙ mul_comm (10 ^ k) (number_from (size / 10 ^ k) fraction)
    ∙ come_to k (size % 10 ^ k) (size / 10 ^ k) (rest_below k size)
    ∙ ap (λ n. n * q) (div-add-mod' size (10 ^ k)) in
    ap (λ n. nearest n q) (times_signed (10 ^ k) (number_from 0 (whole ++ fraction)) (is_negative z) ∙ ap (signed (is_negative z)) exact)
    ∙ nearest_exact (is_negative z) size q (some_power (length fraction))
    ∙ signed_size z

pub value_read : (scale : Option ℕ) (at : ℕ) (z : ℤ) → IsSmall z → value scale (number_at scale at z) ≡ z
value_read None at z h = ap (signed (is_negative z)) (decimal_is_IsDecimal (unsigned_abs z) (small_size z h)).value ∙ signed_size z
value_read (Some k) at z h = scaled_value k at z h
