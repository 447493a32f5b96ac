-- The decimals that numerals write, and the whole numbers that they are read as.
use Rattle.std.specs.Prelude.{ℕ, ◌*◌, ◌^◌, ◌≤◌, ◌++◌, length, Option, Some, None, IfSome, ℤ, pos, ◌+ℤ◌, ◌*ℤ◌}
use Rattle.std.specs.Int.{int_div_euclid}
use Rattle.geo_text.specs.Token.{Numeral, number_from, signed}

-- no scale, or one from 0 to 7
abbrev pub IsScale : Option ℕ → Type 0
IsScale scale = IfSome scale (λ k. k ≤ 7)

-- a numeral writes the decimal numerator / denominator: all its digits as one number, with the sign,
abbrev pub numerator : Numeral → ℤ
numerator n = signed n.negative (number_from 0 (n.whole ++ n.fraction))

-- over one 0 behind the 1 for each digit of the fraction
abbrev pub denominator : Numeral → ℕ
denominator n = 10 ^ length n.fraction

-- the whole number nearest to p / q, halves upwards: p / q + 1 / 2 rounded down
abbrev pub nearest : ℤ → ℕ → ℤ
nearest p q = int_div_euclid (pos 2 *ℤ p +ℤ pos q) (pos (2 * q))

-- the value of a numeral: without a scale its whole part with its sign, at scale k the whole number that is nearest
-- to its decimal times 10 ^ k
abbrev pub value : Option ℕ → Numeral → ℤ
value None n = signed n.negative (number_from 0 n.whole)
value (Some k) n = nearest (pos (10 ^ k) *ℤ numerator n) (denominator n)
