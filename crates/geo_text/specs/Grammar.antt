-- The grammar of a file: what may be written, and the tokens that write it. Those are the productions of polygons,
-- multipolygons and geometry collections of OGC 06-103r4, 7.2.2. This project's own are: a file of any number of
-- geometries, positions of two to four numbers whatever the dimension word, no EMPTY ring, and a collection of
-- polygons and multipolygons alone.
use Rattle.std.specs.Prelude.{ℕ, Option, Some, None, List, [], ◌∷◌, ◌++◌, flat_map}
use Rattle.geo_text.specs.Token.{Polygon, MultiPolygon, GeometryCollection, Empty, Dimension, Numeral, Token, Word, Dimensions, Number, Open, Close, Comma, Spells}

-- a position: two, three or four numbers
pub data Position : Type 0 where
  Two : (x y : Numeral) → Position
  Three : (x y z : Numeral) → Position
  Four : (x y z m : Numeral) → Position

-- a ring: one position or more (the linestring text of 7.2.2)
pub record Ring : Type 0 where
  pub first : Position
  pub others : List Position

-- a polygon body is a list of rings, none for EMPTY; a multi body is a list of polygon bodies, none for EMPTY
pub data Element : Type 0 where
  OnePolygon : Option Dimension → List Ring → Element
  ManyPolygons : Option Dimension → List (List Ring) → Element

-- an element, or a collection of elements, none for EMPTY
pub data Geometry : Type 0 where
  Single : Element → Geometry
  Collection : Option Dimension → List Element → Geometry

-- entries in brackets, with a comma between each two
abbrev pub bracketed : {A : Type 0} → (A → List Token) → A → List A → List Token
bracketed tokens x xs = Open ∷ ((tokens x ++ flat_map (λ y. Comma ∷ tokens y) xs) ++ Close ∷ [])

-- EMPTY, or entries in brackets
abbrev pub body : {A : Type 0} → (A → List Token) → List A → List Token
body tokens [] = Word Empty ∷ []
body tokens (x ∷ xs) = bracketed tokens x xs

-- a dimension word, or none
abbrev pub dimension : Option Dimension → List Token
dimension None = []
dimension (Some d) = Dimensions d ∷ []

-- the production of each part
abbrev pub position : Position → List Token
position (Two x y) = Number x ∷ Number y ∷ []
position (Three x y z) = Number x ∷ Number y ∷ Number z ∷ []
position (Four x y z m) = Number x ∷ Number y ∷ Number z ∷ Number m ∷ []

-- positions in brackets
abbrev pub ring : Ring → List Token
ring r = bracketed position r.first r.others

-- EMPTY, or rings in brackets
abbrev pub polygon_body : List Ring → List Token
polygon_body rings = body ring rings

-- EMPTY, or polygon bodies in brackets
abbrev pub multi_body : List (List Ring) → List Token
multi_body polygons = body polygon_body polygons

-- a keyword, perhaps a dimension word, and a body
abbrev pub element : Element → List Token
element (OnePolygon d rings) = Word Polygon ∷ (dimension d ++ polygon_body rings)
element (ManyPolygons d polygons) = Word MultiPolygon ∷ (dimension d ++ multi_body polygons)

-- an element, or a collection of elements
abbrev pub geometry : Geometry → List Token
geometry (Single e) = element e
geometry (Collection d es) = Word GeometryCollection ∷ (dimension d ++ body element es)

-- geometries, one after the other
abbrev pub file : List Geometry → List Token
file geometries = flat_map geometry geometries

-- the bytes are a file of these geometries
abbrev pub IsFile : List ℕ → List Geometry → Type 0
IsFile bytes geometries = Spells 0 None (file geometries) bytes
