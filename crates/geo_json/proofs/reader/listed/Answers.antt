use Rattle.std.proofs.Common.{List, map, subst}
use Rattle.std.specs.Vec.Iter.{into_iter_items}
use Rattle.std.proofs.lemmas.Result.{err_from_is_err_and}
use Rattle.serde_json.specs.View.{view}
use Rattle.serde_json.specs.declared.value.Value.{Value}
use Rattle.geo_json.proofs.Document.{IsReadSoFar, one_more, at_fault}
use Rattle.geo_json.proofs.reader.listed.Goals as goal

pub returns-in_err-read-clause-fault : goal.returns-in_err-read-clause-fault
returns-in_err-read-clause-fault c = λ fault h.
    let p = err_from_is_err_and c.from_residual.result c.from_residual.ensures.1 in
    let all = map view c.args.list.items in
    let P : List Value → Type 0 = λ vs. IsReadSoFar all (map view vs) c.loop-value.all in
    let so_far = subst P c.in-Some.ensures.steps.0 c.loop-value.invariant.2 in
    at_fault all (map view (into_iter_items c.next.new.self)) (view c.in-Some.value) c.loop-value.all fault so_far (c.in_err-read.ensures.fault fault (cc))

pub loop-value-preserved : goal.loop-value-preserved
loop-value-preserved c =
    let all = map view c.args.list.items in
    let P : List Value → Type 0 = λ vs. IsReadSoFar all (map view vs) c.loop-value.all in
    let so_far = subst P c.in-Some.ensures.steps.0 c.loop-value.invariant.2 in (
      tt,
      tt,
      one_more all (map view (into_iter_items c.next.new.self)) (view c.in-Some.value) c.loop-value.all c.push.new.self c.in_ok-read.read so_far c.in_ok-read.ensures.ok
          c.in_ok-push.ensures.read c.in_ok-push.ensures.rings,
    )
