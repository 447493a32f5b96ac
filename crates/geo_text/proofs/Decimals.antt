-- Digits, and what those behind the last place that is kept come to beside one half of it.
use Rattle.std.proofs.Common.{◌≡◌, ◌≢◌, ℕ, suc, ◌+◌, ◌-◌, ◌*◌, ◌^◌, ◌<◌, ◌≤◌, true, eqb, ltb, List, [], ◌∷◌, length, fold, sym, ap, ◌∙◌, subst, arith}
use Rattle.std.proofs.Math.Nat.{pow-succ', mul_assoc, mul_comm, add-mul, mul-one}
use Rattle.std.proofs.lemmas.Bool.{cond_both}
use Rattle.std.proofs.lemmas.Bool.Decides.{nat_tests}
use Rattle.geo_text.specs.Token.{AreDigits, is_digit, number_from}
use Rattle.geo_text.specs.Number.{tail_on}
use Rattle.geo_text.specs.declared.fraction.Tail.{Tail}
use Rattle.geo_text.specs.declared.fraction.Tail.TheVariants.{Empty, BelowHalf, Half, AboveHalf}

-- ---- powers of ten

pub ten_more : (k : ℕ) → 10 ^ suc k ≡ 10 * 10 ^ k
ten_more k = pow-succ' 10 k

-- ten times the first factor is ten times the product
pub ten_times : (q k : ℕ) → 10 * q * 10 ^ k ≡ q * 10 ^ suc k
ten_times q k = ap (λ n. n * 10 ^ k) (mul_comm 10 q) ∙ mul_assoc q 10 (10 ^ k) ∙ ap (λ n. q * n) (sym (ten_more k))

-- a number behind which digits come
pub number_split : (ds : List ℕ) (n : ℕ) → number_from n ds ≡ n * 10 ^ length ds + number_from 0 ds
number_split [] n = omega (arith, mul-one n)
number_split (d ∷ ds) n =
    let k = length ds in
    let first : (10 * n + (d - 48)) * 10 ^ k ≡ n * 10 ^ suc k + (d - 48) * 10 ^ k = add-mul (10 * n) (d - 48) (10 ^ k) ∙ ap (λ z. z + (d - 48) * 10 ^ k) (ten_times n k) in
    let here : number_from n (d ∷ ds) ≡ (10 * n + (d - 48)) * 10 ^ k + number_from 0 ds = number_split ds (10 * n + (d - 48)) in
    let zero_here : number_from 0 (d ∷ ds) ≡ (10 * 0 + (d - 48)) * 10 ^ k + number_from 0 ds = number_split ds (10 * 0 + (d - 48)) in
    let same : (10 * 0 + (d - 48)) * 10 ^ k ≡ (d - 48) * 10 ^ k = ap (λ z. z * 10 ^ k) (omega arith) in
    omega (arith, here, first, zero_here, same)

-- ---- digits beside one half

-- r / q beside one half, with room for what further digits add
abbrev pub Beside : Tail → ℕ → ℕ → Type 0
Beside Empty r q = (r ≡ 0) × (q ≡ 1)
Beside BelowHalf r q = 2 * r + 2 ≤ q
Beside Half r q = 2 * r ≡ q
Beside AboveHalf r q = q < 2 * r

digit_bounds : (d : ℕ) → is_digit d ≡ true → (48 ≤ d) × (d ≤ 57)
digit_bounds d e = (grind (arith, nat_tests), grind (arith, nat_tests))

beside_on : (t : Tail) (r q d : ℕ) → is_digit d ≡ true → Beside t r q → Beside (tail_on t d) (10 * r + (d - 48)) (10 * q)
beside_on Empty r q d h (none, one) =
    let b = digit_bounds d h in
    cond_both (ltb d 53) BelowHalf _ (λ t. Beside t (10 * r + (d - 48)) (10 * q))
    (λ e. let few : d < 53 = grind (arith, nat_tests) in omega (arith, few, none, one, b.0))
    (λ e. let many : 53 ≤ d = grind (arith, nat_tests) in
    cond_both (eqb d 53) Half AboveHalf (λ t. Beside t (10 * r + (d - 48)) (10 * q))
    (λ e5. let five : d ≡ 53 = grind (arith, nat_tests) in omega (arith, five, none, one))
    (λ e5. let more : d ≢ 53 = grind (arith, nat_tests) in omega (arith, more, many, none, one)))
beside_on BelowHalf r q d h b = omega (arith, digit_bounds d h, b)
beside_on Half r q d h b =
    cond_both (eqb d 48) Half AboveHalf (λ t. Beside t (10 * r + (d - 48)) (10 * q))
    (λ e. let none : d ≡ 48 = grind (arith, nat_tests) in omega (arith, none, b))
    (λ e. let some : d ≢ 48 = grind (arith, nat_tests) in omega (arith, some, digit_bounds d h, b))
beside_on AboveHalf r q d h b = omega (arith, digit_bounds d h, b)

abbrev pub tail_from : Tail → List ℕ → Tail
tail_from t digits = fold tail_on t digits

-- digits behind a tail, which has come to r / q
pub beside_from : (ds : List ℕ) (t : Tail) (r q : ℕ) → AreDigits ds → r < q → Beside t r q → (number_from r ds < q * 10 ^ length ds) × Beside (tail_from t ds) (number_from r ds) (q * 10 ^ length ds)
beside_from [] t r q h k b = let one : q * 10 ^ 0 ≡ q = mul-one q in (omega (arith, k, one), subst (Beside t r) (sym one) b)
beside_from (d ∷ ds) t r q h k b =
    let more = beside_from ds (tail_on t d) (10 * r + (d - 48)) (10 * q) h.1 (omega (arith, digit_bounds d h.0, k)) (beside_on t r q d h.0 b) in
    let same = ten_times q (length ds) in
    (omega (arith, more.0, same), subst (Beside (tail_from (tail_on t d) ds) (number_from (10 * r + (d - 48)) ds)) same more.1)

-- r / q beside one half
abbrev pub Says : Tail → ℕ → ℕ → Type 0
Says Empty r q = r ≡ 0
Says BelowHalf r q = 2 * r < q
Says Half r q = 2 * r ≡ q
Says AboveHalf r q = q < 2 * r

pub beside_says : (t : Tail) (r q : ℕ) → Beside t r q → Says t r q
beside_says Empty r q b = b.0
beside_says BelowHalf r q b = omega (arith, b)
beside_says Half r q b = b
beside_says AboveHalf r q b = b

pub says_ten : (t : Tail) (r q : ℕ) → Says t r q → Says t (10 * r) (10 * q)
says_ten Empty r q b = omega (arith, b)
says_ten BelowHalf r q b = omega (arith, b)
says_ten Half r q b = omega (arith, b)
says_ten AboveHalf r q b = omega (arith, b)
