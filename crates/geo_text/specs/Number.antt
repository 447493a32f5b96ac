-- How the reader goes over the bytes of a number.
use Rattle.std.specs.Prelude.{ℕ, ◌+◌, ◌-◌, ◌*◌, ◌^◌, ◌≤◌, min, Bool, true, false, ◌&&◌, not, if◌then◌else◌, ◌==◌, nat_lt, Option, Some, None, ℤ}
use Rattle.geo_text.specs.Token.{is_digit, signed}
use Rattle.geo_text.specs.declared.fraction.Fraction.{Fraction}
use Rattle.geo_text.specs.declared.fraction.Fraction.TheVariants.{Unscaled, Scaled}
use Rattle.geo_text.specs.declared.fraction.Tail.{Tail}
use Rattle.geo_text.specs.declared.fraction.Tail.TheVariants as tails
use Rattle.geo_text.specs.declared.number.Number.{Number}
use Rattle.geo_text.specs.declared.number.TheConstants.{CAP}

-- how numbers are read: without a scale or at one, and no further than this size
pub record Precision : Type 0 where
  pub scale : Option ℕ
  pub cap : ℕ

-- no further than one past the range
abbrev pub precision_at : Option ℕ → Precision
precision_at scale = record { scale = scale; cap = CAP }

-- a size, read no further than the cap
abbrev pub capped : ℕ → ℕ → ℕ
capped cap size = min size cap

-- ---- the digits behind the point

-- what digits come to beside one half of the place before them, with one digit more
abbrev pub tail_on : Tail → ℕ → Tail
tail_on tails.Empty b = if nat_lt b 53 then tails.BelowHalf else (if b == 53 then tails.Half else tails.AboveHalf)
tail_on tails.Half b = if b == 48 then tails.Half else tails.AboveHalf
tail_on tails.BelowHalf b = tails.BelowHalf
tail_on tails.AboveHalf b = tails.AboveHalf

-- a fraction without a digit
abbrev pub no_fraction : Option ℕ → Fraction
no_fraction None = Unscaled true
no_fraction (Some k) = Scaled k tails.Empty

-- a fraction with one digit more
abbrev pub fraction_on : Fraction → ℕ → Fraction
fraction_on (Unscaled zero) b = Unscaled (zero && (b == 48))
fraction_on (Scaled left tail) b = if left == 0 then Scaled 0 (tail_on tail b) else Scaled (left - 1) tail

-- the next digit of the fraction goes into the size of the number
abbrev pub takes_digit : Fraction → Bool
takes_digit (Unscaled zero) = false
takes_digit (Scaled left tail) = nat_lt 0 left

-- no digit of the fraction is at fault
abbrev pub is_fine : Fraction → Bool
is_fine (Unscaled zero) = zero
is_fine (Scaled left tail) = true

-- what one unit of the size counts for: the digits that are still to come are 0
abbrev pub unit : Fraction → ℕ
unit (Unscaled zero) = 1
unit (Scaled left tail) = 10 ^ left

-- a size is rounded up; halves go upwards, which makes the size of a negative number less
abbrev pub rounds_up : Bool → Fraction → Bool
rounds_up negative (Scaled left tails.Half) = not negative
rounds_up negative (Scaled left tails.AboveHalf) = true
rounds_up negative fraction = false

-- ---- all bytes

-- no byte of a number but its sign
abbrev pub no_number : Option ℕ → ℕ → Bool → Number
no_number scale a negative = record { at = a; negative = negative; some_digit = false; point = false; fraction = no_fraction scale; size = 0 }

-- the size with one digit of the fraction more
abbrev pub size_on : ℕ → Fraction → ℕ → ℕ → ℕ
size_on cap fraction size b = if takes_digit fraction then capped cap (10 * size + (b - 48)) else size

-- the number with one digit more
abbrev pub with_digit : ℕ → Number → ℕ → Number
with_digit cap n b =
    if n.point
    then record n { some_digit = true; fraction = fraction_on n.fraction b; size = size_on cap n.fraction n.size b }
    else record n { some_digit = true; size = capped cap (10 * n.size + (b - 48)) }

-- the number with one byte more, where it may have it
abbrev pub number_on : ℕ → Number → ℕ → Option Number
number_on cap n b =
    if is_digit b then Some (with_digit cap n b)
    else (if (b == 46) && not n.point then Some (record n { point = true }) else None)

-- the number that a byte at this place begins, if it begins one
abbrev pub number_begun : Precision → ℕ → ℕ → Option Number
number_begun precision a b =
    if b == 45 then Some (no_number precision.scale a true)
    else (if b == 43 then Some (no_number precision.scale a false)
    else number_on precision.cap (no_number precision.scale a false) b)

-- a size in whole units, rounded, and read no further than the cap
abbrev pub rounded : ℕ → Bool → Fraction → ℕ → ℕ
rounded cap negative fraction size = capped cap (size * unit fraction + (if rounds_up negative fraction then 1 else 0))

-- the value of a number, read no further than the cap
abbrev pub value_of : ℕ → Number → ℤ
value_of cap n = signed n.negative (rounded cap n.negative n.fraction n.size)

-- at most seven digits of the fraction are still to come into the size
abbrev pub IsShort : Fraction → Type 0
IsShort (Unscaled zero) = Unit {0}
IsShort (Scaled left tail) = left ≤ 7

-- a number's size is at most one past the range, and its fraction is short
pub record IsCapped (n : Number) : Type 0 where
  pub size : n.size ≤ 268435457
  pub short : IsShort n.fraction
