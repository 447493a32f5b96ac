use Rattle.std.proofs.Common.{ap, ◌∙◌, ◌≤◌, length, arith}
use Rattle.std.proofs.lemmas.List.{length-set}
use Rattle.half_edge.proofs.Latest.{latest-more, latest-all}
use Rattle.half_edge.proofs.Places.{item_at}
use Rattle.half_edge.proofs.next.last_departures.Goals as goal

pub loop-d-preserved : goal.loop-d-preserved
loop-d-preserved c = record {
  count = length-set c.loop-d.last.items c.d-item.result.vertex.number c.d-item.result.id ∙ c.loop-d.invariant.count;
  latest = latest-more c.args.departures.now.list.items c.loop-d.d-index c.d-item.result
      (item_at c.deref-d-items.result.now c.args.departures.now.list.items c.loop-d.d-index c.d-item.result c.deref-d-items.ensures.value c.loop-d-test.true c.d-item.is) c.loop-d.last.items c.loop-d.invariant.latest;
}

pub returns-clause-last : goal.returns-clause-last
returns-clause-last c =
    let stop = c.loop-d-test.false in
    let long : length c.args.departures.now.list.items ≤ c.loop-d.d-index = (let same = ap length c.deref-d-items.ensures.value in omega (arith, stop, same)) in
    latest-all c.args.departures.now.list.items c.loop-d.last.items c.loop-d.d-index long c.loop-d.invariant.latest
