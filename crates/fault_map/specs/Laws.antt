-- One map for each coverage.
use Rattle.std.specs.Prelude.{◌≡◌, ℕ, List, Option}
use Rattle.cov_types.specs.Coverage.{Members, AllInRange}
use Rattle.fault_text.specs.MapText.{map_bytes}
use Rattle.fault_text.specs.declared.feature.MapFeature.{MapFeature}
use Rattle.fault_map.specs.FaultMap.{IsFaultMap}

-- a coverage has as many marks in each map at a gap width, and the written form of these is one
abbrev pub OneMapLaw : Type 0
OneMapLaw = (members : Members) → AllInRange members → (w marked other : ℕ) (features others : List MapFeature) → IsFaultMap members w marked features → IsFaultMap members w other others
    → (marked ≡ other) × ((scale : Option ℕ) → map_bytes scale features ≡ map_bytes scale others)
