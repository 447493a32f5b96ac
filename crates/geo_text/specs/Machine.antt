-- How the reader goes over the bytes: a lexeme that is being typed, and a parser that takes whole tokens.
use Rattle.std.specs.Prelude.{◌≡◌, ℕ, ◌+◌, ◌-◌, Bool, true, false, ◌&&◌, ◌||◌, if◌then◌else◌, ◌==◌, nat_lt, nat_le, int_le, List, [], ◌∷◌, ◌++◌, length, take, get_or, slice_index, Option, Some, None, option_map, option_and_then, Result, Ok, Err, ℤ, pos, neg_ℤ, codes}
use Rattle.std.specs.Char.{to_ascii_uppercase}
use Rattle.std.specs.Option.{option_or}
use Rattle.cov_types.specs.Coord.{is_same_coord}
use Rattle.cov_types.specs.Coverage.{Members}
use Rattle.cov_types.specs.declared.coord.Coord.{Coord}
use Rattle.cov_types.specs.declared.coord.TheConstants.{LIMIT}
use Rattle.geo_text.specs.Token.{Name, Polygon, MultiPolygon, GeometryCollection, Empty, is_white, is_digit}
use Rattle.geo_text.specs.Number.{Precision, number_on, number_begun, value_of, is_fine, IsCapped}
use Rattle.geo_text.specs.declared.error.TextFault.{TextFault}
use Rattle.geo_text.specs.declared.error.TextFault.TheVariants.{Syntax, NotPlanar, NotWhole, OutOfRange, RingShort, RingOpen}
use Rattle.geo_text.specs.declared.error.TextError.{TextError}
use Rattle.geo_text.specs.declared.error.TextError.TheVariants as errors
use Rattle.geo_text.specs.declared.error.Stop.{Stop}
use Rattle.geo_text.specs.declared.error.Stop.TheVariants as stops
use Rattle.geo_text.specs.declared.faults.Faults.{Faults}
use Rattle.geo_text.specs.declared.keyword.Keyword.{Keyword}
use Rattle.geo_text.specs.declared.keyword.Keyword.TheVariants as keywords
use Rattle.geo_text.specs.declared.lexeme.Lexeme.{Lexeme}
use Rattle.geo_text.specs.declared.lexeme.Lexeme.TheVariants as lexemes
use Rattle.geo_text.specs.declared.place.Body.{Body}
use Rattle.geo_text.specs.declared.place.Body.TheVariants as kinds
use Rattle.geo_text.specs.declared.place.Place.{Place}
use Rattle.geo_text.specs.declared.place.Place.TheVariants as places

-- ---- faults other than of syntax: the first of each kind

-- a value from -268,435,456 to 268,435,456
abbrev pub is_in_range : ℤ → Bool
is_in_range n = int_le (neg_ℤ LIMIT) n && int_le n LIMIT

-- the point that stands in where a list has none
abbrev pub origin : Coord
origin = record { x = pos 0; y = pos 0 }

-- the last of these is the first again
abbrev pub is_closed : List Coord → Bool
is_closed points = is_same_coord (get_or points (length points - 1) origin) (get_or points 0 origin)

-- no fault yet, and no ring
abbrev pub no_faults : Faults
no_faults = record { planar = None; number = None; ring = None; rings = 0 }

-- with a dimension word or a third number at this place
abbrev pub with_extra : ℕ → Faults → Faults
with_extra at f = record f { planar = option_or f.planar (Some (NotPlanar at)) }

-- the fault of a number at this place, if it has one
abbrev pub number_fault : ℕ → ℤ → Bool → Option TextFault
number_fault at value whole = if whole then (if is_in_range value then None else Some (OutOfRange at)) else Some (NotWhole at)

-- with a number at this place
abbrev pub with_number : ℕ → ℤ → Bool → Faults → Faults
with_number at value whole f = record f { number = option_or f.number (number_fault at value whole) }

-- the fault of a ring with this number, if it has one
abbrev pub ring_fault : ℕ → List Coord → Option TextFault
ring_fault ring points = if nat_lt (length points) 4 then Some (RingShort ring) else (if is_closed points then None else Some (RingOpen ring))

-- with one ring more
abbrev pub with_ring : List Coord → Faults → Faults
with_ring points f = record f { ring = option_or f.ring (ring_fault f.rings points); rings = f.rings + 1 }

-- the fault that is told: the first kind that there is
abbrev pub first_fault : Faults → Option TextFault
first_fault f = option_or f.planar (option_or f.number f.ring)

-- ---- the parser

-- what is kept of the tokens: the members, of the member that is open its polygons, of the polygon that is open its
-- rings, of the ring that is open its points, and the faults
pub record Kept : Type 0 where
  pub members : List (List (List (List Coord)))
  pub polys : List (List (List Coord))
  pub rings : List (List Coord)
  pub points : List Coord
  pub faults : Faults

-- where in the grammar a parser is, whether within a collection and a multi body, and what it kept
pub record ParserState : Type 0 where
  pub place : Place
  pub in_collection : Bool
  pub in_multi : Bool
  pub kept : Kept

-- a token with what the parser needs of it: a dimension word's place; a number's place, its value, which is read no
-- further than one past the range, and whether it is whole
pub data Symbol : Type 0 where
  Named : Name → Symbol
  Axes : ℕ → Symbol
  Numbered : ℕ → ℤ → Bool → Symbol
  Opening : Symbol
  Closing : Symbol
  Separator : Symbol

-- the parser at a place
abbrev pub at : Place → Bool → Bool → Kept → ParserState
at place in_collection in_multi kept = record { place = place; in_collection = in_collection; in_multi = in_multi; kept = kept }

-- nothing is kept yet
abbrev pub nothing_kept : Kept
nothing_kept = record { members = []; polys = []; rings = []; points = []; faults = no_faults }

-- the parser before the first token
abbrev pub start : ParserState
start = at places.Outside false false nothing_kept

-- with the first number of a position
abbrev pub first_number : ℕ → ℤ → Bool → Kept → Kept
first_number a value whole k = record k { faults = with_number a value whole k.faults }

-- with the second number of a position, whose first is x
abbrev pub second_number : ℤ → ℕ → ℤ → Bool → Kept → Kept
second_number x a value whole k = record k { points = k.points ++ record { x = x; y = value } ∷ []; faults = with_number a value whole k.faults }

-- with a third or fourth number of a position
abbrev pub further_number : ℕ → ℤ → Bool → Kept → Kept
further_number a value whole k = record k { faults = with_number a value whole (with_extra a k.faults) }

-- the ring that is open is closed
abbrev pub ring_kept : Kept → Kept
ring_kept k = record k { rings = k.rings ++ take (length k.points - 1) k.points ∷ []; points = []; faults = with_ring k.points k.faults }

-- the polygon that is open is closed
abbrev pub polygon_kept : Kept → Kept
polygon_kept k = record k { polys = k.polys ++ k.rings ∷ []; rings = [] }

-- the member that is open is closed
abbrev pub member_kept : Kept → Kept
member_kept k = record k { members = k.members ++ k.polys ∷ []; polys = [] }

-- behind an element, of a collection or not
abbrev pub element_end : Bool → Kept → ParserState
element_end true k = at places.ElementEnd true false (member_kept k)
element_end false k = at places.Outside false false (member_kept k)

-- behind a polygon body, of a multi body or not
abbrev pub body_end : Bool → Bool → Kept → ParserState
body_end in_collection true k = at places.BodyEnd in_collection true k
body_end in_collection false k = element_end in_collection k

-- the parser behind a token at a place, where the grammar has it there
abbrev pub step_at : Place → Symbol → Bool → Bool → Kept → Option ParserState
step_at places.Outside (Named Polygon) c m k = Some (at (places.Head kinds.Polygon false) c m k)
step_at places.Outside (Named MultiPolygon) c m k = Some (at (places.Head kinds.MultiPolygon false) c m k)
step_at places.Outside (Named GeometryCollection) c m k = Some (at (places.Head kinds.GeometryCollection false) c m k)
step_at places.ElementStart (Named Polygon) c m k = Some (at (places.Head kinds.Polygon false) c m k)
step_at places.ElementStart (Named MultiPolygon) c m k = Some (at (places.Head kinds.MultiPolygon false) c m k)
step_at places.ElementEnd Separator c m k = Some (at places.ElementStart c m k)
step_at places.ElementEnd Closing c m k = Some (at places.Outside false m k)
step_at (places.Head kind dimension) (Axes a) c m k =
    if dimension then None else Some (at (places.Head kind true) c m (record k { faults = with_extra a k.faults }))
step_at (places.Head kinds.Polygon dimension) (Named Empty) c m k = Some (body_end c m k)
step_at (places.Head kinds.Polygon dimension) Opening c m k = Some (at places.RingStart c m k)
step_at (places.Head kinds.MultiPolygon dimension) (Named Empty) c m k = Some (element_end c k)
step_at (places.Head kinds.MultiPolygon dimension) Opening c m k = Some (at places.BodyStart c true k)
step_at (places.Head kinds.GeometryCollection dimension) (Named Empty) c m k = Some (at places.Outside c m k)
step_at (places.Head kinds.GeometryCollection dimension) Opening c m k = Some (at places.ElementStart true m k)
step_at places.BodyStart (Named Empty) c m k = Some (at places.BodyEnd c m k)
step_at places.BodyStart Opening c m k = Some (at places.RingStart c m k)
step_at places.BodyEnd Separator c m k = Some (at places.BodyStart c m k)
step_at places.BodyEnd Closing c m k = Some (element_end c k)
step_at places.RingStart Opening c m k = Some (at places.PositionStart c m k)
step_at places.PositionStart (Numbered a v w) c m k = Some (at (places.SecondNumber v) c m (first_number a v w k))
step_at (places.SecondNumber x) (Numbered a v w) c m k = Some (at (places.PositionEnd 0) c m (second_number x a v w k))
step_at (places.PositionEnd further) (Numbered a v w) c m k =
    if nat_lt further 2 then Some (at (places.PositionEnd (further + 1)) c m (if further == 0 then further_number a v w k else first_number a v w k)) else None
step_at (places.PositionEnd further) Separator c m k = Some (at places.PositionStart c m k)
step_at (places.PositionEnd further) Closing c m k = Some (at places.RingEnd c m (ring_kept k))
step_at places.RingEnd Separator c m k = Some (at places.RingStart c m k)
step_at places.RingEnd Closing c m k = Some (body_end c m (polygon_kept k))
step_at place symbol c m k = None

-- the parser behind a token
abbrev pub step : ParserState → Symbol → Option ParserState
step s symbol = step_at s.place symbol s.in_collection s.in_multi s.kept

-- ---- words

-- the letters of a keyword; Zm stands for Z too, which is its first letter
abbrev pub letters : Keyword → List ℕ
letters keywords.Polygon = codes "POLYGON"
letters keywords.MultiPolygon = codes "MULTIPOLYGON"
letters keywords.GeometryCollection = codes "GEOMETRYCOLLECTION"
letters keywords.Empty = codes "EMPTY"
letters keywords.M = codes "M"
letters keywords.Zm = codes "ZM"

-- the token of a keyword that begins at this place
abbrev pub symbol_of : Keyword → ℕ → Symbol
symbol_of keywords.Polygon a = Named Polygon
symbol_of keywords.MultiPolygon a = Named MultiPolygon
symbol_of keywords.GeometryCollection a = Named GeometryCollection
symbol_of keywords.Empty a = Named Empty
symbol_of keywords.M a = Axes a
symbol_of keywords.Zm a = Axes a

-- the word may end behind so many letters
abbrev pub is_complete : Keyword → ℕ → Bool
is_complete keywords.Zm typed = (typed == 1) || (typed == 2)
is_complete keyword typed = typed == length (letters keyword)

-- one letter more, if it is the next
abbrev pub letter_on : Keyword → ℕ → ℕ → Option ℕ
letter_on keyword typed b =
    if nat_lt typed (length (letters keyword)) && (to_ascii_uppercase b == slice_index (letters keyword) typed) then Some (typed + 1) else None

-- the keyword that a letter begins at a place
abbrev pub keyword_at : Place → ℕ → Option Keyword
keyword_at places.Outside letter =
    if letter == 80 then Some keywords.Polygon
    else (if letter == 77 then Some keywords.MultiPolygon
    else (if letter == 71 then Some keywords.GeometryCollection else None))
keyword_at places.ElementStart letter =
    if letter == 80 then Some keywords.Polygon else (if letter == 77 then Some keywords.MultiPolygon else None)
keyword_at (places.Head kind false) letter =
    if letter == 69 then Some keywords.Empty
    else (if letter == 77 then Some keywords.M
    else (if letter == 90 then Some keywords.Zm else None))
keyword_at (places.Head kind true) letter = if letter == 69 then Some keywords.Empty else None
keyword_at places.BodyStart letter = if letter == 69 then Some keywords.Empty else None
keyword_at place letter = None

-- ---- numbers

-- a digit, a sign or a point
abbrev pub is_number_byte : ℕ → Bool
is_number_byte b = ((is_digit b || (b == 43)) || (b == 45)) || (b == 46)

-- a number may stand at the place
abbrev pub takes_number : Place → Bool
takes_number places.PositionStart = true
takes_number (places.SecondNumber x) = true
takes_number (places.PositionEnd further) = nat_lt further 2
takes_number place = false

-- ---- lexemes

-- a letter of either case
abbrev pub is_letter : ℕ → Bool
is_letter b = nat_le 65 (to_ascii_uppercase b) && nat_le (to_ascii_uppercase b) 90

-- the byte goes on with the lexeme, whether rightly or not
abbrev pub goes_on : Lexeme → ℕ → Bool
goes_on lexemes.Blank b = false
goes_on (lexemes.Word a keyword typed) b = is_letter b
goes_on (lexemes.Number n) b = is_number_byte b

-- the lexeme with a byte that goes on with it
abbrev pub typed_on : ℕ → Lexeme → ℕ → Option Lexeme
typed_on cap lexemes.Blank b = None
typed_on cap (lexemes.Word a keyword typed) b = option_map (λ more. lexemes.Word a keyword more) (letter_on keyword typed b)
typed_on cap (lexemes.Number n) b = option_map (λ m. lexemes.Number m) (number_on cap n b)

-- the parser behind a lexeme that ends
abbrev pub ending : ℕ → Lexeme → ParserState → Option ParserState
ending cap lexemes.Blank s = Some s
ending cap (lexemes.Word a keyword typed) s = if is_complete keyword typed then step s (symbol_of keyword a) else None
ending cap (lexemes.Number n) s = if n.some_digit then step s (Numbered n.at (value_of cap n) (is_fine n.fraction)) else None

-- the lexeme and the parser behind a byte that begins a lexeme
abbrev pub beginning : Precision → ℕ → ParserState → ℕ → Option (Lexeme × ParserState)
beginning precision a s b =
    if is_white b then Some (lexemes.Blank, s)
    else (if is_letter b then option_map (λ keyword. (lexemes.Word a keyword 1, s)) (keyword_at s.place (to_ascii_uppercase b))
    else (if is_number_byte b then (if takes_number s.place then option_map (λ n. (lexemes.Number n, s)) (number_begun precision a b) else None)
    else (if b == 40 then option_map (λ after. (lexemes.Blank, after)) (step s Opening)
    else (if b == 41 then option_map (λ after. (lexemes.Blank, after)) (step s Closing)
    else (if b == 44 then option_map (λ after. (lexemes.Blank, after)) (step s Separator)
    else None)))))

-- one byte more, behind `a` bytes
abbrev pub read_byte : Precision → ℕ → Lexeme → ParserState → ℕ → Option (Lexeme × ParserState)
read_byte precision a lexeme s b =
    if goes_on lexeme b
    then option_map (λ more. (more, s)) (typed_on precision.cap lexeme b)
    else option_and_then (λ after. beginning precision a after b) (ending precision.cap lexeme s)

-- a number that is being typed is capped
abbrev pub IsLexeme : Lexeme → Type 0
IsLexeme (lexemes.Number n) = IsCapped n
IsLexeme lexeme = Unit {0}

-- ---- the file

-- the members, unless there is a fault
abbrev pub unless_fault : Members → Option TextFault → Result Members TextFault
unless_fault members None = Ok members
unless_fault members (Some fault) = Err fault

-- the answer at the end of a file of `a` bytes, by what was kept
abbrev pub answer_at : ℕ → Place → Kept → Result Members TextFault
answer_at a places.Outside k = unless_fault k.members (first_fault k.faults)
answer_at a place k = Err (Syntax a)

-- an answer, or that the syntax is wrong behind `a` bytes
abbrev pub answer_by : {A : Type 0} → ℕ → (A → Result Members TextFault) → Option A → Result Members TextFault
answer_by a f None = Err (Syntax a)
answer_by a f (Some x) = f x

-- the answer to the bytes behind `a` bytes
abbrev pub answer : Precision → ℕ → Lexeme → ParserState → List ℕ → Result Members TextFault
answer precision a lexeme s [] = answer_by a (λ (last : ParserState). answer_at a last.place last.kept) (ending precision.cap lexeme s)
answer precision a lexeme s (b ∷ bytes) = answer_by a (λ (p : Lexeme × ParserState). answer precision (a + 1) p.0 p.1 bytes) (read_byte precision a lexeme s b)

-- ---- what the code answers

-- a result is the answer, unless memory ran out
abbrev pub Gives : Result Members TextError → Result Members TextFault → Type 0
Gives (Ok c) r = r ≡ Ok c
Gives (Err (errors.Fault fault)) r = r ≡ Err fault
Gives (Err errors.NoMemory) r = Unit {0}

-- the error where a byte behind `a` bytes is not taken
abbrev pub error_of : Stop → ℕ → TextError
error_of stops.Refused a = errors.Fault (Syntax a)
error_of stops.NoMemory a = errors.NoMemory

-- the word that begins a body
abbrev pub name_of : Body → Name
name_of kinds.Polygon = Polygon
name_of kinds.MultiPolygon = MultiPolygon
name_of kinds.GeometryCollection = GeometryCollection

-- behind the bracket that opens a body
abbrev pub opened : Body → ParserState → ParserState
opened kinds.Polygon s = record s { place = places.RingStart }
opened kinds.MultiPolygon s = record s { place = places.BodyStart; in_multi = true }
opened kinds.GeometryCollection s = record s { place = places.ElementStart; in_collection = true }
