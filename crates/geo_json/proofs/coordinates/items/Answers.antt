use Rattle.geo_json.proofs.Taking.{items_shown}
use Rattle.geo_json.proofs.coordinates.items.Goals as goal

pub returns-in-Some : goal.returns-in-Some
returns-in-Some c = items_shown _ _ _ c.as_slice.ensures.value c.in-Some.ensures
