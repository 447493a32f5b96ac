-- Points files: lines of two numbers each.
use Rattle.std.specs.Prelude.{◌≡◌, ℕ, ◌+◌, Bool, ◌&&◌, ◌||◌, ◌==◌, nat_lt, List, [], ◌∷◌, length, filter, flat_map, Option, Some, None, ℤ, neg_ℤ, int_le, slice_index, if◌then◌else◌}
use Rattle.std.specs.List.{list_all, slice_split}
use Rattle.cov_locate.specs.declared.line.Line.{Line}
use Rattle.cov_locate.specs.declared.line.Line.TheVariants.{Blank, Point, Syntax, OutOfRange}
use Rattle.cov_locate.specs.declared.points.PointsError.{PointsError}
use Rattle.cov_locate.specs.declared.points.PointsError.TheVariants.{Fault, NoMemory}
use Rattle.cov_locate.specs.declared.points.PointsFault.{PointsFault}
use Rattle.cov_locate.specs.declared.points.PointsFault.TheVariants as fault
use Rattle.cov_types.specs.Range.{IsInRange}
use Rattle.cov_types.specs.declared.coord.Coord.{Coord}
use Rattle.cov_types.specs.declared.coord.TheConstants.{LIMIT}
use Rattle.geo_text.specs.Token.{is_white, is_digit, number_from, signed}

-- ---- a word

-- plus or minus
abbrev pub is_sign : ℕ → Bool
is_sign b = (b == 43) || (b == 45)

-- a word without the sign in front of it
abbrev pub digits_of : List ℕ → List ℕ
digits_of [] = []
digits_of (b ∷ bytes) = if is_sign b then bytes else b ∷ bytes

-- one or more digits, maybe behind a sign
abbrev pub is_number : List ℕ → Bool
is_number word = nat_lt 0 (length (digits_of word)) && list_all is_digit (digits_of word)

-- the number that a word writes, if it is one
abbrev pub number_of : List ℕ → Option ℤ
number_of word = if is_number word then Some (signed (slice_index word 0 == 45) (number_from 0 (digits_of word))) else None

-- ---- a line

-- the words of a line: the longest parts without white space
abbrev pub words_of : List ℕ → List (List ℕ)
words_of line = filter (λ word. nat_lt 0 (length word)) (slice_split is_white line)

-- from -LIMIT to LIMIT
abbrev pub is_within : ℤ → Bool
is_within z = int_le (neg_ℤ LIMIT) z && int_le z LIMIT

-- what two numbers of a line say, where they are numbers
abbrev pub two_numbers : Option ℤ → Option ℤ → Line
two_numbers None y = Syntax
two_numbers (Some x) None = Syntax
two_numbers (Some x) (Some y) = if is_within x && is_within y then Point (record { x = x; y = y }) else OutOfRange

-- what the words of a line say: nothing, or two numbers
abbrev pub line_of_words : List (List ℕ) → Line
line_of_words [] = Blank
line_of_words (x ∷ []) = Syntax
line_of_words (x ∷ y ∷ []) = two_numbers (number_of x) (number_of y)
line_of_words (x ∷ y ∷ z ∷ more) = Syntax

-- what a line says
abbrev pub line_of : List ℕ → Line
line_of line = line_of_words (words_of line)

-- the point of a line is in range
abbrev pub IsLineInRange : Line → Type 0
IsLineInRange Blank = Unit {0}
IsLineInRange (Point p) = IsInRange p
IsLineInRange Syntax = Unit {0}
IsLineInRange OutOfRange = Unit {0}

-- ---- a file

-- the parts without an empty one at the end
abbrev pub without_empty_end : List (List ℕ) → List (List ℕ)
without_empty_end [] = []
without_empty_end (part ∷ []) = if length part == 0 then [] else part ∷ []
without_empty_end (part ∷ next ∷ parts) = part ∷ without_empty_end (next ∷ parts)

-- the lines: the parts between line feeds, where nothing behind the last line feed is no line
abbrev pub lines_of : List ℕ → List (List ℕ)
lines_of bytes = without_empty_end (slice_split (λ b. b == 10) bytes)

-- the point of a line, if it has one
abbrev pub point_of : Line → List Coord
point_of Blank = []
point_of (Point p) = p ∷ []
point_of Syntax = []
point_of OutOfRange = []

-- the points of the lines
abbrev pub points_of : List (List ℕ) → List Coord
points_of lines = flat_map (λ line. point_of (line_of line)) lines

-- the fault of a line with this number, or else what follows
abbrev pub fault_or : ℕ → Line → Option PointsFault → Option PointsFault
fault_or number Blank rest = rest
fault_or number (Point p) rest = rest
fault_or number Syntax rest = Some (fault.Syntax number)
fault_or number OutOfRange rest = Some (fault.OutOfRange number)

-- the first fault of lines that are numbered from a number on
abbrev pub fault_from : ℕ → List (List ℕ) → Option PointsFault
fault_from number [] = None
fault_from number (line ∷ lines) = fault_or number (line_of line) (fault_from (number + 1) lines)

-- the points of a file without a fault
pub record ArePoints (bytes : List ℕ) (points : List Coord) : Type 0 where
  pub faultless : fault_from 0 (lines_of bytes) ≡ None
  pub are : points ≡ points_of (lines_of bytes)

-- the fault is that of the file
abbrev pub IsFaultOf : List ℕ → PointsError → Type 0
IsFaultOf bytes (Fault f) = fault_from 0 (lines_of bytes) ≡ Some f
IsFaultOf bytes NoMemory = Unit {0}
