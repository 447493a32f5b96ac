-- The rows that tell where points lie, as text.
use Rattle.std.specs.Prelude.{ℕ, List, ◌++◌, codes}
use Rattle.std.specs.Fmt.{decimal}

-- the row of a point on an edge
abbrev pub edge_row : List ℕ
edge_row = codes "edge\n"

-- the row of a point in a member: the member's number
abbrev pub member_row : ℕ → List ℕ
member_row member = decimal member ++ codes "\n"

-- the row of a point in no member
abbrev pub none_row : List ℕ
none_row = codes "none\n"
