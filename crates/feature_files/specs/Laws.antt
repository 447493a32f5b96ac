-- The laws of files by their name and the scale of their numbers.
use Rattle.std.specs.Prelude.{◌≡◌, ◌⊎◌, ℕ, ◌≤◌, true, List, Option, length}
use Rattle.cov_types.specs.Coverage.{IsFormed}
use Rattle.file_form.specs.Name.{is_json}
use Rattle.geo_json.specs.Reading.{Reading}
use Rattle.geo_text.specs.declared.reader.TheConstants.{LONGEST_INPUT}
use Rattle.json_write.specs.ReadBack.{IsReadable}
use Rattle.feature_files.specs.Fault.{IsFault}
use Rattle.feature_files.specs.Form.{IsWrittenAs, HasNoFloat}
use Rattle.feature_files.specs.Reading.{IsRead}
use Rattle.feature_files.specs.declared.error.FileFault.{FileFault}

-- at a scale a file is read as one thing
abbrev pub OneReadingLaw : Type 0
OneReadingLaw = (name : List ℕ) (scale : Option ℕ) (bytes : List ℕ) (r s : Reading) → IsRead name scale bytes r → IsRead name scale bytes s → r ≡ s

-- at a scale a file has one fault
abbrev pub OneFaultLaw : Type 0
OneFaultLaw = (name : List ℕ) (scale : Option ℕ) (bytes : List ℕ) (e f : FileFault) → IsFault name scale bytes e → IsFault name scale bytes f → e ≡ f

-- at a scale a file is read, or has a fault
abbrev pub ReadOrFaultLaw : Type 0
ReadOrFaultLaw = (name : List ℕ) (scale : Option ℕ) (bytes : List ℕ) → ((r : Reading) × IsRead name scale bytes r) ⊎ ((fault : FileFault) × IsFault name scale bytes fault)

-- a file that is read at a scale has no fault at it
abbrev pub FaultlessLaw : Type 0
FaultlessLaw = (name : List ℕ) (scale : Option ℕ) (bytes : List ℕ) (r : Reading) (fault : FileFault) → IsRead name scale bytes r → ¬ IsFault name scale bytes fault

-- what is read of a file that is not too long is formed
abbrev pub FormedLaw : Type 0
FormedLaw = (name : List ℕ) (scale : Option ℕ) (bytes : List ℕ) (r : Reading) → length bytes ≤ LONGEST_INPUT → IsRead name scale bytes r → IsFormed r.members

-- features without a float have one written form at a scale
abbrev pub OneFormLaw : Type 0
OneFormLaw = (name : List ℕ) (scale : Option ℕ) (r : Reading) (text other : List ℕ) → HasNoFloat r → IsWrittenAs name scale r text → IsWrittenAs name scale r other → text ≡ other

-- a GeoJSON file that holds the written form of features that can be read back is read as those features
abbrev pub ReadBackLaw : Type 0
ReadBackLaw = (name : List ℕ) (scale : Option ℕ) (text : List ℕ) (r : Reading) → is_json name ≡ true → IsReadable r → IsWrittenAs name scale r text → IsRead name scale text r
