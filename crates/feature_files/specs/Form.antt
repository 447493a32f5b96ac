-- The written form of features, by the name of the file and the scale of its numbers where it is text.
use Rattle.std.specs.Prelude.{◌≡◌, ℕ, Bool, true, false, List, All, Option}
use Rattle.cov_write.specs.Written.{coverage_text}
use Rattle.serde_json.specs.Written.{has_float}
use Rattle.file_form.specs.Name.{is_json}
use Rattle.geo_json.specs.Reading.{Reading}
use Rattle.json_write.specs.Text.{features_of, IsWritten}

-- the text is the written form in GeoJSON, which has no scale, or in text at the scale, which keeps the members alone
abbrev pub IsWrittenBy : Bool → Option ℕ → Reading → List ℕ → Type 0
IsWrittenBy true scale r text = IsWritten (features_of r) text
IsWrittenBy false scale r text = text ≡ coverage_text scale r.members

-- the text is the written form at the scale for a file of this name
abbrev pub IsWrittenAs : List ℕ → Option ℕ → Reading → List ℕ → Type 0
IsWrittenAs name scale r text = IsWrittenBy (is_json name) scale r text

-- no property and no id has a number that is held as a float
pub record HasNoFloat (r : Reading) : Type 0 where
  pub properties : All (λ d. has_float d ≡ false) r.properties
  pub ids : All (λ d. has_float d ≡ false) r.ids
