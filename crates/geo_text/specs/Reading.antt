-- What a file is read as, without a scale or at one.
use Rattle.std.specs.Prelude.{◌≡◌, ℕ, ◌-◌, Bool, true, false, Option, List, [], ◌∷◌, length, map, take, filter, flat_map}
use Rattle.cov_types.specs.declared.coord.Coord.{Coord}
use Rattle.geo_text.specs.Token.{Numeral}
use Rattle.geo_text.specs.Decimal.{value}
use Rattle.geo_text.specs.Grammar.{Position, Two, Three, Four, Ring, Element, OnePolygon, ManyPolygons, Geometry, Single, Collection, IsFile}

-- the first number of a position
abbrev pub x_of : Position → Numeral
x_of (Two x y) = x
x_of (Three x y z) = x
x_of (Four x y z m) = x

-- the second number of a position
abbrev pub y_of : Position → Numeral
y_of (Two x y) = y
y_of (Three x y z) = y
y_of (Four x y z m) = y

-- the values of the first two numbers of a position
abbrev pub coordinate : Option ℕ → Position → Coord
coordinate scale p = record { x = value scale (x_of p); y = value scale (y_of p) }

-- the positions of a ring, one or more
abbrev pub positions : Ring → List Position
positions r = r.first ∷ r.others

-- the points of a ring are its positions without the last, which repeats the first
abbrev pub points : Option ℕ → Ring → List Coord
points scale r = take (length (positions r) - 1) (map (coordinate scale) (positions r))

-- the elements of a geometry: itself, or those of the collection
abbrev pub elements : Geometry → List Element
elements (Single e) = e ∷ []
elements (Collection d es) = es

-- the polygon bodies of an element
abbrev pub bodies : Element → List (List Ring)
bodies (OnePolygon d rings) = rings ∷ []
bodies (ManyPolygons d polygons) = polygons

-- whether a polygon body has a ring, which is to say that it is not EMPTY
abbrev pub has_ring : List Ring → Bool
has_ring [] = false
has_ring (r ∷ rings) = true

-- an element is a member: its polygon bodies that are not EMPTY
abbrev pub member : Option ℕ → Element → List (List (List Coord))
member scale e = map (λ rings. map (points scale) rings) (filter has_ring (bodies e))

-- the members of all geometries, in their order
abbrev pub coverage : Option ℕ → List Geometry → List (List (List (List Coord)))
coverage scale geometries = map (member scale) (flat_map elements geometries)

-- the bytes are a file that is read as the coverage c
abbrev pub Reads : Option ℕ → List ℕ → List (List (List (List Coord))) → Type 0
Reads scale bytes c = (geometries : List Geometry) × IsFile bytes geometries × (c ≡ coverage scale geometries)
