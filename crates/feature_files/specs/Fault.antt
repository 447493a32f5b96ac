-- The one fault of a file, by its name and the scale of its numbers where it is text.
use Rattle.std.specs.Prelude.{ℕ, Bool, true, false, List, Option, ⊤}
use Rattle.file_form.specs.Name.{is_json}
use Rattle.geo_json.specs.Fault as json
use Rattle.geo_json.specs.declared.error.JsonError.{JsonError}
use Rattle.geo_json.specs.declared.error.JsonError.TheVariants as json_errors
use Rattle.geo_text.specs.Fault as text
use Rattle.geo_text.specs.declared.error.TextError.{TextError}
use Rattle.geo_text.specs.declared.error.TextError.TheVariants as text_errors
use Rattle.feature_files.specs.declared.error.FileFault.{FileFault}
use Rattle.feature_files.specs.declared.error.FileFault.TheVariants.{Text, Json}
use Rattle.feature_files.specs.declared.error.FileError.{FileError}
use Rattle.feature_files.specs.declared.error.FileError.TheVariants.{Fault, NoMemory}

-- the fault of a file that is GeoJSON, which has no scale, or text at the scale
abbrev pub IsFaultBy : Bool → Option ℕ → List ℕ → FileFault → Type 0
IsFaultBy true scale bytes (Json fault) = json.IsFault bytes fault
IsFaultBy true scale bytes (Text fault) = ⊥
IsFaultBy false scale bytes (Json fault) = ⊥
IsFaultBy false scale bytes (Text fault) = text.IsFault scale bytes fault

-- a file of this name and these bytes has the fault at the scale
abbrev pub IsFault : List ℕ → Option ℕ → List ℕ → FileFault → Type 0
IsFault name scale bytes fault = IsFaultBy (is_json name) scale bytes fault

-- the error where a text is not read
abbrev pub error_of_text : TextError → FileError
error_of_text (text_errors.Fault fault) = Fault (Text fault)
error_of_text text_errors.NoMemory = NoMemory

-- the error where a GeoJSON document is not read
abbrev pub error_of_json : JsonError → FileError
error_of_json (json_errors.Fault fault) = Fault (Json fault)
error_of_json json_errors.NoMemory = NoMemory

-- the error tells the fault of a file that is GeoJSON, or text, or that memory ran out
abbrev pub IsErrorBy : Bool → Option ℕ → List ℕ → FileError → Type 0
IsErrorBy is_json scale bytes (Fault fault) = IsFaultBy is_json scale bytes fault
IsErrorBy is_json scale bytes NoMemory = ⊤

-- the same of a file of this name
abbrev pub IsError : List ℕ → Option ℕ → List ℕ → FileError → Type 0
IsError name scale bytes e = IsErrorBy (is_json name) scale bytes e
