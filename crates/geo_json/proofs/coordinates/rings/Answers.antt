use Rattle.std.proofs.Common.{◌∙◌, [], ◌∷◌, map}
use Rattle.std.proofs.lemmas.Result.{err_from_is_err_and}
use Rattle.geo_json.specs.Shape.{ring_of}
use Rattle.geo_json.specs.Reading.{points_of}
use Rattle.geo_json.specs.Noting.{noting_rings}
use Rattle.geo_json.proofs.Taking.{taken_more, not_taken, pushed}
use Rattle.geo_json.proofs.Notes.{rings_more}
use Rattle.geo_json.proofs.coordinates.rings.Goals as goal

pub returns-in_err-ring-clause-bad : goal.returns-in_err-ring-clause-bad
returns-in_err-ring-clause-bad c = λ h.
    let p = err_from_is_err_and c.from_residual-in_err-ring.result c.from_residual-in_err-ring.ensures.1 in
    not_taken ring_of c.args.list.now c.loop-item.item-index c.item-item.result c.loop-item-test.true c.item-item.is (c.in_err-ring.ensures.bad (cc))

pub loop-item-preserved : goal.loop-item-preserved
loop-item-preserved c =
    taken_more ring_of (λ items. map points_of items) points_of noting_rings (λ ring f. noting_rings (ring ∷ []) f) rings_more
    c.args.list.now c.loop-item.item-index c.item-item.result c.args.noted.now c.loop-item.noted c.ring.new.noted c.loop-item.rings.items c.in_ok-ring.field-0 c.push.new.self.items
    (λ items a count all one. c.in_ok-push.ensures.items ∙ pushed points_of items a c.loop-item.rings.items c.in_ok-ring.field-0 all one)
    c.loop-item-test.true c.item-item.is c.loop-item.invariant c.in_ok-ring.ensures.ok
