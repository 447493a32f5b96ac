-- What a file is read as, by its name and the scale of its numbers where it is text.
use Rattle.std.specs.Prelude.{◌≡◌, ℕ, Bool, true, false, List, length, replicate, Option}
use Rattle.cov_types.specs.Coverage.{Members}
use Rattle.file_form.specs.Name.{is_json}
use Rattle.serde_json.specs.Data.{null}
use Rattle.geo_json.specs.Fault as json_faults
use Rattle.geo_json.specs.Reading as json
use Rattle.geo_json.specs.Reading.{Reading}
use Rattle.geo_text.specs.Fault as text_faults
use Rattle.geo_text.specs.Reading as text

-- the members with null properties and no ids, as text has them
abbrev pub bare : Members → Reading
bare members = record { members = members; properties = replicate (length members) null; ids = replicate (length members) null }

-- the properties and ids of a reading, beside other members
abbrev pub with_members : Reading → Members → Reading
with_members r members = record { members = members; properties = r.properties; ids = r.ids }

-- the bytes are a text that has no fault at the scale and is read as this
pub record IsTextRead (scale : Option ℕ) (bytes : List ℕ) (r : Reading) : Type 0 where
  pub reads : text.Reads scale bytes r.members
  pub faultless : text_faults.HasNoFault scale bytes
  pub is_bare : r ≡ bare r.members

-- the bytes are a GeoJSON document without a fault that is read as this
pub record IsJsonRead (bytes : List ℕ) (r : Reading) : Type 0 where
  pub reads : json.Reads bytes r
  pub faultless : json_faults.HasNoFault bytes

-- the same of a file that is GeoJSON, which has no scale, or text at the scale
abbrev pub IsReadBy : Bool → Option ℕ → List ℕ → Reading → Type 0
IsReadBy true scale bytes r = IsJsonRead bytes r
IsReadBy false scale bytes r = IsTextRead scale bytes r

-- a file of this name and these bytes has no fault at the scale and is read as this
abbrev pub IsRead : List ℕ → Option ℕ → List ℕ → Reading → Type 0
IsRead name scale bytes r = IsReadBy (is_json name) scale bytes r
