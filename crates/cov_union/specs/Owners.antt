-- The owners of the regions of a union.
use Rattle.std.specs.Prelude.{ℕ, List, [], ◌∷◌, map, Option, Some, None}
use Rattle.arrangement.specs.Overlay.{Overlay, label_of}

-- the owner of a region with the label: member 0, and none where nobody holds the region
abbrev pub union_owner : List ℕ → Option ℕ
union_owner [] = None
union_owner (member ∷ label) = Some 0

-- the owner of the region of each of these numbers
abbrev pub union_owners : Overlay → List ℕ → List (Option ℕ)
union_owners o numbers = map (λ r. union_owner (label_of o r)) numbers
