-- What writing and reading keep.
use Rattle.std.specs.Prelude.{ℕ, List, Option}
use Rattle.cov_types.specs.Coverage.{IsFormed}
use Rattle.cov_types.specs.declared.coord.Coord.{Coord}
use Rattle.geo_text.specs.Decimal.{IsScale}
use Rattle.geo_text.specs.Reading.{Reads}
use Rattle.geo_text.specs.Fault.{HasNoFault}
use Rattle.cov_write.specs.Written.{coverage_text}

-- without a scale and at each one, the text of each formed coverage is read as that coverage, and has no fault
abbrev pub IsReadBack : Type 0
IsReadBack = (scale : Option ℕ) → IsScale scale → (members : List (List (List (List Coord)))) → IsFormed members → Reads scale (coverage_text scale members) members × HasNoFault scale (coverage_text scale members)
