-- How a line is read word by word, with numbers that go no further than one past the range.
use Rattle.std.specs.Prelude.{◌≡◌, ℕ, ◌==◌, nat_lt, List, [], ◌∷◌, length, Option, Some, None, ℤ, slice_index, if◌then◌else◌}
use Prim.Native.Nat.{min}
use Rattle.cov_locate.specs.Points.{is_number, digits_of, words_of}
use Rattle.cov_locate.specs.declared.line.TheConstants.{CAP}
use Rattle.geo_text.specs.Token.{number_from, signed}

-- the word is the first of the line, and the others are those of the rest; it is empty where the line has none
abbrev pub IsFirstWord : List ℕ → List ℕ → List ℕ → Type 0
IsFirstWord line word rest = words_of line ≡ (if nat_lt 0 (length word) then word ∷ words_of rest else [])

-- the size of the number that digits write, or one past the range where it is greater
abbrev pub capped_size : List ℕ → ℕ
capped_size digits = min CAP (number_from 0 digits)

-- the number that a word writes, if it is one, with its size capped
abbrev pub capped_number : List ℕ → Option ℤ
capped_number word = if is_number word then Some (signed (slice_index word 0 == 45) (capped_size (digits_of word))) else None
