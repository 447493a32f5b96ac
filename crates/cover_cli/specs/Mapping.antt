-- What mapping the faults of a coverage answers and writes.
use Rattle.std.specs.Prelude.{◌≡◌, ℕ, List, Option}
use Rattle.cov_types.specs.declared.coord.Coord.{Coord}
use Rattle.fault_map.specs.FaultMap.{IsFaultMap}
use Rattle.fault_text.specs.MapText.{map_bytes}
use Rattle.fault_text.specs.declared.feature.MapFeature.{MapFeature}
use Rattle.cover_cli.specs.Validate.{marking}
use Rattle.cover_cli.specs.declared.outcome.Outcome.{Outcome}

-- the outcome tells how many segments of the coverage are marked at the gap width, and the text is that of the map of its faults, at the scale
pub record IsMapping (gap : ℕ) (scale : Option ℕ) (members : List (List (List (List Coord)))) (outcome : Outcome) (text : List ℕ) : Type 0 where
  pub marked : ℕ
  pub features : List MapFeature
  pub is_map : IsFaultMap members gap marked features
  pub counted : outcome ≡ marking marked
  pub written : text ≡ map_bytes scale features
