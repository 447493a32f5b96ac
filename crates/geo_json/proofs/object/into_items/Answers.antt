use Rattle.std.proofs.Common.{sym, ap, ◌∙◌}
use Rattle.geo_json.specs.Shape.{items_of}
use Rattle.serde_json.specs.View.{view}
use Rattle.geo_json.proofs.Objects.{array_items}
use Rattle.geo_json.proofs.object.into_items.Goals as goal

pub returns-in-Array : goal.returns-in-Array
returns-in-Array c = array_items c.in-Array.list ∙ ap (λ v. items_of (view v)) (sym c.in-Array.is)
