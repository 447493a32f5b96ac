-- The rows of regions, as text.
use Rattle.std.specs.Prelude.{ℕ, ℤ, List, [], ◌∷◌, ◌++◌, flat_map, codes, Option, Some, None}
use Rattle.std.specs.Fmt.{decimal, signed_decimal}

-- a row: a region's number, kind, label, doubled area and clearance, with one space between, and a line feed
abbrev pub row_text : ℕ → List ℕ → List ℕ → List ℕ → List ℕ → List ℕ
row_text number kind label area2 clearance =
    decimal number ++ codes " " ++ kind ++ codes " " ++ label ++ codes " " ++ area2 ++ codes " " ++ clearance ++ codes "\n"

-- the row of the outer region
abbrev pub outer_row : ℕ → List ℕ
outer_row number = row_text number (codes "outer") (codes "-") (codes "-") (codes "-")

-- the kind of a region that is not outer, by the members in its label
abbrev pub kind_text : List ℕ → List ℕ
kind_text [] = codes "gap"
kind_text (m ∷ []) = codes "single"
kind_text (m ∷ n ∷ rest) = codes "shared"

-- the members in a label with commas between, or `-` where there is none
abbrev pub label_text : List ℕ → List ℕ
label_text [] = codes "-"
label_text (m ∷ rest) = decimal m ++ flat_map (λ n. codes "," ++ decimal n) rest

-- the clearance of a gap, or `-` where none is told
abbrev pub clearance_text : Option ℕ → List ℕ
clearance_text None = codes "-"
clearance_text (Some w) = decimal w

-- the row of a region that is not outer
abbrev pub inner_row : ℕ → List ℕ → ℤ → Option ℕ → List ℕ
inner_row number label area2 clearance = row_text number (kind_text label) (label_text label) (signed_decimal area2) (clearance_text clearance)
