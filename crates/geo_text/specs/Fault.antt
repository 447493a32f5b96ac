-- The one fault of a text, without a scale or at one.
use Rattle.std.specs.Prelude.{◌≡◌, ℕ, ◌-◌, ◌≤◌, ◌<◌, Option, Some, None, List, [], ◌∷◌, ◌++◌, length, map, take, flat_map, slice_get, All, neg_ℤ, ◌≤ℤ◌}
use Rattle.cov_types.specs.declared.coord.TheConstants.{LIMIT}
use Rattle.geo_text.specs.Token.{Numeral, Dimension}
use Rattle.geo_text.specs.Decimal.{value}
use Rattle.geo_text.specs.Grammar.{Position, Two, Three, Four, Ring, Element, OnePolygon, ManyPolygons, Geometry, Single, Collection, IsFile}
use Rattle.geo_text.specs.Reading.{coordinate, positions, elements, bodies}
use Rattle.geo_text.specs.declared.error.TextFault.{TextFault}
use Rattle.geo_text.specs.declared.error.TextFault.TheVariants.{Syntax, NotPlanar, NotWhole, OutOfRange, RingShort, RingOpen}

-- ---- syntax

-- some file begins with the bytes
abbrev pub BeginsFile : List ℕ → Type 0
BeginsFile bytes = (more : List ℕ) × (geometries : List Geometry) × IsFile (bytes ++ more) geometries

-- the bytes are no file, and the first `at` of them, and no more of them, begin some file
pub record IsSyntaxFault (bytes : List ℕ) (at : ℕ) : Type 0 where
  pub no_file : (geometries : List Geometry) → IsFile bytes geometries → ⊥
  pub within : at ≤ length bytes
  pub begins : BeginsFile (take at bytes)
  pub longest : (k : ℕ) → at < k → k ≤ length bytes → BeginsFile (take k bytes) → ⊥

-- ---- the parts of a file that may be faulty, in its order

-- the rings of an element, in their order
abbrev pub rings_of : Element → List Ring
rings_of e = flat_map (λ rings. rings) (bodies e)

-- the rings of all geometries, in their order
abbrev pub rings : List Geometry → List Ring
rings geometries = flat_map rings_of (flat_map elements geometries)

-- the numbers of a position
abbrev pub position_numbers : Position → List Numeral
position_numbers (Two x y) = x ∷ y ∷ []
position_numbers (Three x y z) = x ∷ y ∷ z ∷ []
position_numbers (Four x y z m) = x ∷ y ∷ z ∷ m ∷ []

-- the numbers of a ring's positions
abbrev pub ring_numbers : Ring → List Numeral
ring_numbers r = flat_map position_numbers (positions r)

-- the numbers of all rings, in their order
abbrev pub numbers : List Geometry → List Numeral
numbers geometries = flat_map ring_numbers (rings geometries)

-- the place of a dimension word, where there is one
abbrev pub dimension_places : Option Dimension → List ℕ
dimension_places None = []
dimension_places (Some d) = d.at ∷ []

-- the place of a third number
abbrev pub third_places : Position → List ℕ
third_places (Two x y) = []
third_places (Three x y z) = z.at ∷ []
third_places (Four x y z m) = z.at ∷ []

-- the places of the third numbers of a ring's positions
abbrev pub ring_extras : Ring → List ℕ
ring_extras r = flat_map third_places (positions r)

-- the dimension word of an element, where it has one
abbrev pub element_dimension : Element → Option Dimension
element_dimension (OnePolygon d rings) = d
element_dimension (ManyPolygons d polygons) = d

-- the places of an element's dimension word and third numbers
abbrev pub element_extras : Element → List ℕ
element_extras e = dimension_places (element_dimension e) ++ flat_map ring_extras (rings_of e)

-- those of a geometry
abbrev pub geometry_extras : Geometry → List ℕ
geometry_extras (Single e) = element_extras e
geometry_extras (Collection d es) = dimension_places d ++ flat_map element_extras es

-- the places of the dimension words and of the third numbers of positions
abbrev pub extra_places : List Geometry → List ℕ
extra_places geometries = flat_map geometry_extras geometries

-- ---- what is asked of numbers and rings

-- at a scale, or no fraction digit but 0
abbrev pub IsWhole : Option ℕ → Numeral → Type 0
IsWhole None n = All (λ digit. digit ≡ 48) n.fraction
IsWhole (Some k) n = Unit {0}

-- a value from -268,435,456 to 268,435,456
abbrev pub IsValueInRange : Option ℕ → Numeral → Type 0
IsValueInRange scale n = ((neg_ℤ LIMIT) ≤ℤ value scale n) × (value scale n ≤ℤ LIMIT)

-- whole, and in range
abbrev pub IsNumberFine : Option ℕ → Numeral → Type 0
IsNumberFine scale n = IsWhole scale n × IsValueInRange scale n

-- a ring has four positions or more
abbrev pub IsRingLong : Ring → Type 0
IsRingLong r = 4 ≤ length (positions r)

-- the numbers of its last position have the values of those of its first
abbrev pub IsRingClosed : Option ℕ → Ring → Type 0
IsRingClosed scale r = slice_get (map (coordinate scale) (positions r)) (length (positions r) - 1) ≡ Some (coordinate scale r.first)

-- long enough, and closed
abbrev pub IsRingFine : Option ℕ → Ring → Type 0
IsRingFine scale r = IsRingLong r × IsRingClosed scale r

-- ---- the fault

-- x is an entry behind those of `before`, all of which are fine
pub record IsBehindFine {A : Type 0} (IsFine : A → Type 0) (all before : List A) (x : A) : Type 0 where
  pub after : List A
  pub split : all ≡ before ++ x ∷ after
  pub fine : All IsFine before

-- the file has no dimension word and no third number
pub record IsPlanarFile (bytes : List ℕ) (geometries : List Geometry) : Type 0 where
  pub is_file : IsFile bytes geometries
  pub planar : extra_places geometries ≡ []

-- and its numbers are whole and in range
pub record IsNumericFile (scale : Option ℕ) (bytes : List ℕ) (geometries : List Geometry) : Type 0 where
  pub is_planar : IsPlanarFile bytes geometries
  pub numeric : All (IsNumberFine scale) (numbers geometries)

-- the number behind `at` bytes is the first that is not fine
pub record IsFirstNumber (scale : Option ℕ) (bytes : List ℕ) (at : ℕ) (n : Numeral) : Type 0 where
  pub geometries : List Geometry
  pub before : List Numeral
  pub is_planar : IsPlanarFile bytes geometries
  pub first : IsBehindFine (IsNumberFine scale) (numbers geometries) before n
  pub here : n.at ≡ at

-- the ring of this number is the first that is not fine
pub record IsFirstRing (scale : Option ℕ) (bytes : List ℕ) (ring : ℕ) (r : Ring) : Type 0 where
  pub geometries : List Geometry
  pub before : List Ring
  pub is_numeric : IsNumericFile scale bytes geometries
  pub first : IsBehindFine (IsRingFine scale) (rings geometries) before r
  pub here : length before ≡ ring

-- the text has the fault
abbrev pub IsFault : Option ℕ → List ℕ → TextFault → Type 0
IsFault scale bytes (Syntax at) = IsSyntaxFault bytes at
IsFault scale bytes (NotPlanar at) = (geometries : List Geometry) × (more : List ℕ) × IsFile bytes geometries × (extra_places geometries ≡ at ∷ more)
IsFault scale bytes (NotWhole at) = (n : Numeral) × IsFirstNumber scale bytes at n × ¬ IsWhole scale n
IsFault scale bytes (OutOfRange at) = (n : Numeral) × IsFirstNumber scale bytes at n × IsWhole scale n × ¬ IsValueInRange scale n
IsFault scale bytes (RingShort ring) = (r : Ring) × IsFirstRing scale bytes ring r × ¬ IsRingLong r
IsFault scale bytes (RingOpen ring) = (r : Ring) × IsFirstRing scale bytes ring r × IsRingLong r × ¬ IsRingClosed scale r

-- the text has no fault
abbrev pub HasNoFault : Option ℕ → List ℕ → Type 0
HasNoFault scale bytes = (fault : TextFault) → IsFault scale bytes fault → ⊥
