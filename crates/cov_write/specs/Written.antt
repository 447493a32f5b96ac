-- The written form of coverages and of lists of segments, without a scale or at one: functions from them to bytes.
use Rattle.std.specs.Prelude.{ℕ, zero, suc, ◌+◌, ◌/◌, ◌%◌, ◌^◌, if◌then◌else◌, ◌==◌, List, [], ◌∷◌, ◌++◌, take, codes, Option, Some, None, ℤ, pos, negsuc, unsigned_abs}
use Rattle.std.specs.List.{flat_map, list_all}
use Rattle.std.specs.Fmt.{decimal, signed_decimal}
use Rattle.cov_types.specs.declared.coord.Coord.{Coord}
use Rattle.cov_types.specs.declared.seg.Seg.{Seg}

-- the texts of a list's items, with `, ` between them
abbrev pub separated : {X : Type 0} → (X → List ℕ) → List X → List ℕ
separated text [] = []
separated text (x ∷ xs) = text x ++ flat_map (λ y. codes ", " ++ text y) xs

-- a text in parentheses
abbrev pub in_parentheses : List ℕ → List ℕ
in_parentheses text = codes "(" ++ text ++ codes ")"

-- `-` where a number is negative
abbrev pub sign_text : ℤ → List ℕ
sign_text (pos n) = []
sign_text (negsuc n) = codes "-"

-- k digits that write r, which is below 10 ^ k
abbrev pub places : ℕ → ℕ → List ℕ
places zero r = []
places (suc k) r = (48 + r / 10 ^ k) ∷ places k (r % 10 ^ k)

-- digits without the zeros at their end
abbrev pub without_end_zeros : List ℕ → List ℕ
without_end_zeros [] = []
without_end_zeros (d ∷ ds) = if list_all (λ b. b == 48) (d ∷ ds) then [] else d ∷ without_end_zeros ds

-- a remainder by 10 ^ k: nothing where it is 0, else a point and its k digits without the zeros at their end
abbrev pub fraction_text : ℕ → ℕ → List ℕ
fraction_text k r = if r == 0 then [] else codes "." ++ without_end_zeros (places k r)

-- a number in decimal; at scale k the decimal that times 10 ^ k is the number: its sign, its size by 10 ^ k, and what remains
abbrev pub number_text : Option ℕ → ℤ → List ℕ
number_text None n = signed_decimal n
number_text (Some k) n = sign_text n ++ decimal (unsigned_abs n / 10 ^ k) ++ fraction_text k (unsigned_abs n % 10 ^ k)

-- a position: its two numbers with one space between
abbrev pub position_text : Option ℕ → Coord → List ℕ
position_text scale c = number_text scale c.x ++ codes " " ++ number_text scale c.y

-- a segment: its lesser end and then the other
abbrev pub segment_text : Option ℕ → Seg → List ℕ
segment_text scale s = in_parentheses (position_text scale s.lo ++ codes ", " ++ position_text scale s.hi)

-- the line of a list of segments
abbrev pub segments_line : Option ℕ → List Seg → List ℕ
segments_line scale [] = codes "MULTILINESTRING EMPTY\n"
segments_line scale (s ∷ segs) = codes "MULTILINESTRING " ++ in_parentheses (separated (segment_text scale) (s ∷ segs)) ++ codes "\n"

-- one line for each list of segments
abbrev pub lines_text : Option ℕ → List (List Seg) → List ℕ
lines_text scale lists = flat_map (segments_line scale) lists

-- a ring: its positions, the first again at the end
abbrev pub ring_text : Option ℕ → List Coord → List ℕ
ring_text scale points = in_parentheses (separated (position_text scale) (points ++ take 1 points))

-- a polygon: its rings
abbrev pub polygon_text : Option ℕ → List (List Coord) → List ℕ
polygon_text scale rings = in_parentheses (separated (ring_text scale) rings)

-- the line of a member, by its polygons: none, one or several
abbrev pub member_line : Option ℕ → List (List (List Coord)) → List ℕ
member_line scale [] = codes "POLYGON EMPTY\n"
member_line scale (p ∷ []) = codes "POLYGON " ++ polygon_text scale p ++ codes "\n"
member_line scale polys = codes "MULTIPOLYGON " ++ in_parentheses (separated (polygon_text scale) polys) ++ codes "\n"

-- one line for each member
abbrev pub coverage_text : Option ℕ → List (List (List (List Coord))) → List ℕ
coverage_text scale members = flat_map (member_line scale) members
