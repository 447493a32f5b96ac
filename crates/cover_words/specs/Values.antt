-- The values that a command's matches have.
use Rattle.std.specs.Prelude.{ℕ, Bool, true, false, List, Option, Some, None, if◌then◌else◌, codes, option_and_then}
use Rattle.std.specs.Str.{bytes_eq}
use Rattle.std.specs.Str.Parse.{digits_value, without_leading_plus}
use Rattle.clap.specs.ValueTests.{is_unsigned_in}
use Rattle.clap.specs.Walk.{Row, Text, first_of, one_of}

-- the number, up to this one, that a text writes in decimal digits, where a plus may stand first
abbrev pub number_up_to : ℕ → Text → Option ℕ
number_up_to most text = if is_unsigned_in 0 most text then Some (digits_value 10 (without_leading_plus text)) else None

-- the truth value that a text names
abbrev pub truth_of : Text → Option Bool
truth_of text = if bytes_eq text (codes "true") then Some true else (if bytes_eq text (codes "false") then Some false else None)

-- the text of the argument
abbrev pub text_at : Text → List Row → Option Text
text_at id rows = first_of id rows

-- the number of 32 bits of the argument
abbrev pub number_at : Text → List Row → Option ℕ
number_at id rows = option_and_then (number_up_to 4294967295) (one_of id rows)

-- the number of 8 bits of the argument `scale`
abbrev pub scale_at : List Row → Option ℕ
scale_at rows = option_and_then (number_up_to 255) (one_of (codes "scale") rows)

-- whether the flag is there
abbrev pub flag_at : Text → List Row → Option Bool
flag_at id rows = option_and_then truth_of (one_of id rows)
