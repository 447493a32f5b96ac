use Rattle.std.proofs.Common.{sym}
use Rattle.std.proofs.lemmas.Result.{IfOk-weaker}
use Rattle.serde_json.specs.View.{view}
use Rattle.geo_json.proofs.Kept.{multi_taken}
use Rattle.geo_json.proofs.geometry.geometry.Goals as goal

pub returns-then-is_of_type-2-clause-ok : goal.returns-then-is_of_type-2-clause-ok
returns-then-is_of_type-2-clause-ok c =
    IfOk-weaker c.multi_polygon.result _ _ (λ v all. multi_taken (view c.args.value.now) (view c.in-Some.coordinates.now) c.args.noted.now c.multi_polygon.new.noted v.items
    c.in-Some.ensures (sym c.if-is_of_type.ensures) (sym c.if-is_of_type-2.ensures) all) c.multi_polygon.ensures.ok
