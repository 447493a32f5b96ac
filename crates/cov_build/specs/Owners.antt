-- The owners of regions, as a list.
use Rattle.std.specs.Prelude.{ℕ, List, Option, None, slice_get, unwrap_or}

-- the owner of a region by its number, and none past the end of the list
abbrev pub owner_in : List (Option ℕ) → ℕ → Option ℕ
owner_in owners r = unwrap_or (slice_get owners r) None
