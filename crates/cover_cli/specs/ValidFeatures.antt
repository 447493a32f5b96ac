-- What features hold whose coverage is valid.
use Rattle.std.specs.Prelude.{map}
use Rattle.geo_json.specs.Reading.{Reading}
use Rattle.serde_json.specs.View.{view}
use Rattle.cover_cli.specs.declared.valid_features.ValidFeatures.{ValidFeatures}

-- the members with their properties and ids
abbrev pub held_valid : ValidFeatures → Reading
held_valid v = record { members = v.coverage; properties = map view v.properties.items; ids = map view v.ids.items }
