-- What is read back as it was written.
use Rattle.std.specs.Prelude.{◌≡◌, ◌+◌, ◌≤◌, length, All}
use Rattle.cov_types.specs.Coverage.{IsFormed}
use Rattle.serde_json.specs.Data.{depth}
use Rattle.serde_json.specs.Read.{max_depth}
use Rattle.geo_json.specs.Reading.{Reading}

-- a formed coverage with properties and an id for each member, all so shallow that the document, in which they stand
-- three deep, nests no deeper than serde_json reads
pub record IsReadable (r : Reading) : Type 0 where
  pub formed : IsFormed r.members
  pub properties : length r.properties ≡ length r.members
  pub ids : length r.ids ≡ length r.members
  pub properties_shallow : All (λ d. depth d + 3 ≤ max_depth) r.properties
  pub ids_shallow : All (λ d. depth d + 3 ≤ max_depth) r.ids
