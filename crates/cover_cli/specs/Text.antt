-- How an input is read as features by its name and at a scale, or why not.
use Rattle.std.specs.Prelude.{ℕ, List, Option}
use Rattle.geo_json.specs.Reading.{Reading}
use Rattle.feature_files.specs.Fault.{IsFault}
use Rattle.feature_files.specs.Reading.{IsRead}
use Rattle.feature_files.specs.declared.error.FileFault.TheVariants.{Text, Json}
use Rattle.cover_cli.specs.declared.outcome.Outcome.{Outcome}
use Rattle.cover_cli.specs.declared.outcome.Outcome.TheVariants.{BadText, BadJson}

-- the input of this name has no fault at the scale, and this holds of what it is read as
pub record IsReadAnd (name : List ℕ) (scale : Option ℕ) (input : List ℕ) (P : Reading → Type 0) : Type 0 where
  pub reading : Reading
  pub reads : IsRead name scale input reading
  pub holds : P reading

-- the input of this name has a fault at the scale, and the outcome tells that fault: of text as BadText, of GeoJSON as BadJson
abbrev pub RefusesInput : List ℕ → Option ℕ → List ℕ → Outcome → Type 0
RefusesInput name scale input (BadText fault) = IsFault name scale input (Text fault)
RefusesInput name scale input (BadJson fault) = IsFault name scale input (Json fault)
RefusesInput name scale input outcome = ⊥
