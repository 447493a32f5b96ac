-- The tokens of a well-known text and how bytes spell them: the keywords, numbers, brackets and commas of the
-- productions of OGC 06-103r4, 7.2. Which of them are read, and where white space may and must stand, is this
-- project's own.
use Rattle.std.specs.Prelude.{◌≡◌, ℕ, ◌+◌, ◌-◌, ◌*◌, ◌<◌, Bool, true, false, ◌&&◌, ◌||◌, if◌then◌else◌, ◌==◌, nat_le, IsTrue, ◌⊎◌, List, [], ◌∷◌, ◌++◌, length, map, fold, Option, Some, None, ℤ, pos, neg_ℤ, codes}
use Rattle.std.specs.Char.{to_ascii_uppercase}
use Rattle.std.specs.List.{AllByRecursion}

-- the words that name a geometry, and that of an empty one (OGC 06-103r4, 7.2.2)
pub data Name : Type 0 where
  Polygon : Name
  MultiPolygon : Name
  GeometryCollection : Name
  Empty : Name

-- the dimension words (OGC 06-103r4, 7.2.3 to 7.2.5)
pub data Axes : Type 0 where
  Z : Axes
  M : Axes
  ZM : Axes

-- a dimension word, behind `at` bytes
pub record Dimension : Type 0 where
  pub at : ℕ
  pub axes : Axes

-- a number behind `at` bytes: its sign, and the digits before and behind the point (the signed numeric literal of
-- OGC 06-103r4, 7.2.2, without an exponent)
pub record Numeral : Type 0 where
  pub at : ℕ
  pub negative : Bool
  pub whole : List ℕ
  pub fraction : List ℕ

-- the tokens: words, numbers, brackets and commas
pub data Token : Type 0 where
  Word : Name → Token
  Dimensions : Dimension → Token
  Number : Numeral → Token
  Open : Token
  Close : Token
  Comma : Token

-- space, tab, line feed or carriage return (this project's own)
abbrev pub is_white : ℕ → Bool
is_white b = (((b == 32) || (b == 9)) || (b == 10)) || (b == 13)

-- a byte from 0 to 9
abbrev pub is_digit : ℕ → Bool
is_digit b = nat_le 48 b && nat_le b 57

-- white space alone, or nothing
abbrev pub IsWhite : List ℕ → Type 0
IsWhite bytes = AllByRecursion (λ b. IsTrue (is_white b)) bytes

-- digits alone, or nothing
abbrev pub AreDigits : List ℕ → Type 0
AreDigits bytes = AllByRecursion (λ b. IsTrue (is_digit b)) bytes

-- the number that digits write behind those that write n
abbrev pub number_from : ℕ → List ℕ → ℕ
number_from n digits = fold (λ m b. 10 * m + (b - 48)) n digits

-- the number with its sign
abbrev pub signed : Bool → ℕ → ℤ
signed negative n = if negative then neg_ℤ (pos n) else pos n

-- `-`, or `+` or nothing
abbrev pub IsSign : List ℕ → Bool → Type 0
IsSign bytes true = bytes ≡ codes "-"
IsSign bytes false = (bytes ≡ codes "+") ⊎ (bytes ≡ [])

-- no point and no fraction, or a point before the fraction
abbrev pub IsPoint : List ℕ → List ℕ → Type 0
IsPoint bytes fraction = ((bytes ≡ []) × (fraction ≡ [])) ⊎ (bytes ≡ codes ".")

-- a sign, digits, a point and digits, of which there is one or more
pub record IsNumeral (bytes : List ℕ) (n : Numeral) : Type 0 where
  pub sign : List ℕ
  pub point : List ℕ
  pub is_sign : IsSign sign n.negative
  pub is_point : IsPoint point n.fraction
  pub whole : AreDigits n.whole
  pub fraction : AreDigits n.fraction
  pub some_digit : 0 < length n.whole + length n.fraction
  pub spelling : bytes ≡ sign ++ (n.whole ++ (point ++ n.fraction))

-- the letters of a keyword
abbrev pub letters_of : Name → List ℕ
letters_of Polygon = codes "POLYGON"
letters_of MultiPolygon = codes "MULTIPOLYGON"
letters_of GeometryCollection = codes "GEOMETRYCOLLECTION"
letters_of Empty = codes "EMPTY"

-- the letters of a dimension word
abbrev pub axes_letters : Axes → List ℕ
axes_letters Z = codes "Z"
axes_letters M = codes "M"
axes_letters ZM = codes "ZM"

-- letters in any case (OGC 06-103r4, 7.2.1)
abbrev pub IsWord : List ℕ → List ℕ → Type 0
IsWord letters bytes = map to_ascii_uppercase bytes ≡ letters

-- how a token behind `at` bytes is spelled
abbrev pub IsSpelled : ℕ → Token → List ℕ → Type 0
IsSpelled at (Word name) bytes = IsWord (letters_of name) bytes
IsSpelled at (Dimensions d) bytes = (d.at ≡ at) × IsWord (axes_letters d.axes) bytes
IsSpelled at (Number n) bytes = (n.at ≡ at) × IsNumeral bytes n
IsSpelled at Open bytes = bytes ≡ codes "("
IsSpelled at Close bytes = bytes ≡ codes ")"
IsSpelled at Comma bytes = bytes ≡ codes ","

-- the token is a word
abbrev pub is_word : Token → Bool
is_word (Word name) = true
is_word (Dimensions d) = true
is_word token = false

-- the token is a number
abbrev pub is_number : Token → Bool
is_number (Number n) = true
is_number token = false

-- the token before is of the same kind, a word or a number
abbrev pub is_alike : Option Token → Token → Bool
is_alike None token = false
is_alike (Some previous) token = (is_word previous && is_word token) || (is_number previous && is_number token)

-- behind `at` bytes and the token before, the bytes spell the tokens, with white space anywhere between them, and
-- some between two words or two numbers (this project's own)
abbrev pub Spells : ℕ → Option Token → List Token → List ℕ → Type 0
Spells at previous [] bytes = IsWhite bytes
Spells at previous (token ∷ tokens) bytes =
    (white spelling rest : List ℕ) × IsWhite white × (IsTrue (is_alike previous token) → 0 < length white)
    × IsSpelled (at + length white) token spelling × (bytes ≡ white ++ (spelling ++ rest))
    × Spells (at + length white + length spelling) (Some token) tokens rest
