-- The places of points in a list of their own.
use Rattle.std.specs.Prelude.{ℕ, ◌<◌, List, length, slice_index_or}
use Rattle.cov_locate.specs.Where.{IsWhere}
use Rattle.cov_locate.specs.declared.place.Where.{Where}
use Rattle.cov_types.specs.declared.coord.Coord.{Coord}
use Rattle.cov_types.specs.declared.edge_use.EdgeUse.{EdgeUse}

-- the place with this number tells where the point with that number lies
abbrev pub IsRightAt : List EdgeUse → List Coord → List Where → ℕ → Type 0
IsRightAt uses points places n = (d : Coord) (e : Where) → n < length points → IsWhere uses (slice_index_or points n d) (slice_index_or places n e)
