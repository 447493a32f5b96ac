use Rattle.std.proofs.Common.{◌∙◌, map}
use Rattle.std.proofs.lemmas.Result.{err_from_is_err_and}
use Rattle.geo_json.specs.Shape.{polygon_of, with_rings}
use Rattle.geo_json.specs.Fault.{rings_of}
use Rattle.geo_json.specs.Reading.{poly_of}
use Rattle.geo_json.specs.Noting.{noting_rings}
use Rattle.geo_json.proofs.Taking.{taken_more, not_taken}
use Rattle.geo_json.proofs.Notes.{polygons_more}
use Rattle.geo_json.proofs.Points.{kept_behind}
use Rattle.geo_json.proofs.coordinates.polygons.Goals as goal

pub returns-in_err-poly-clause-bad : goal.returns-in_err-poly-clause-bad
returns-in_err-poly-clause-bad c = λ h.
    let p = err_from_is_err_and c.from_residual.result c.from_residual.ensures.1 in
    not_taken polygon_of c.args.list.now c.loop-item.item-index c.item-item.result c.loop-item-test.true c.item-item.is (c.in_err-poly.ensures.bad (cc))

pub loop-item-preserved : goal.loop-item-preserved
loop-item-preserved c =
    taken_more polygon_of (λ items. map poly_of (with_rings items)) poly_of (λ polygons f. noting_rings (rings_of polygons) f) noting_rings polygons_more
    c.args.list.now c.loop-item.item-index c.item-item.result c.args.noted.now c.loop-item.noted c.polygon.new.noted c.loop-item.polys.items c.in_ok-poly.poly c.push_with_rings.new.polys.items
    (λ items a count all one. c.in_ok-push_with_rings.ensures.pushed a one ∙ kept_behind items a c.loop-item.polys.items all)
    c.loop-item-test.true c.item-item.is c.loop-item.invariant c.in_ok-poly.ensures.ok
