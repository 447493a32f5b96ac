use Rattle.std.proofs.Common.{◌∙◌, [], ◌∷◌, map}
use Rattle.geo_json.specs.Shape.{position_of}
use Rattle.geo_json.specs.Reading.{point_of}
use Rattle.geo_json.specs.Noting.{noting_positions}
use Rattle.geo_json.proofs.Taking.{taken_more, not_taken, pushed}
use Rattle.geo_json.proofs.Notes.{positions_more}
use Rattle.geo_json.proofs.coordinates.positions.Goals as goal

pub returns-in_default-clause-bad : goal.returns-in_default-clause-bad
returns-in_default-clause-bad c = λ _. not_taken position_of c.args.list.now c.loop-item.item-index c.item-item.result c.loop-item-test.true c.item-item.is c.in_default.ensures

pub loop-item-preserved : goal.loop-item-preserved
loop-item-preserved c =
    taken_more position_of (λ items. map point_of items) point_of noting_positions (λ position f. noting_positions (position ∷ []) f) positions_more
    c.args.list.now c.loop-item.item-index c.item-item.result c.args.noted.now c.loop-item.noted c.position.new.noted c.loop-item.points.items c.in-Some.point c.push.new.self.items
    (λ items a count all one. c.in_ok-push.ensures.items ∙ pushed point_of items a c.loop-item.points.items c.in-Some.point all one)
    c.loop-item-test.true c.item-item.is c.loop-item.invariant c.in-Some.ensures
