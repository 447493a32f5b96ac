use Rattle.snap_noder.proofs.Renumbering.{AreRenumbered, renumbered_by, counts_in_place, live_up, live_places, live_odd_up, live_used, are_live, live_odd_are, live_fewer, live_planar, live_distinct, live_even}
use Rattle.snap_noder.proofs.liveness.live.Goals as goal

pub renumbered-requires : goal.renumbered-requires
renumbered-requires c =
    counts_in_place c.args.n.now.edges.items c.args.n.now.odd.items c.as_slice-4.result.now c.in_ok-marks.marks.items c.as_slice-3.result.now c.in_ok-numbers.numbers.items c.as_slice-5.result.now c.args.n.now.places
    c.in_ok-marks.ensures c.as_slice-3.ensures.value c.in_ok-numbers.ensures c.as_slice-4.ensures.value c.as_slice-5.ensures.value

made : (c : goal.In_ok-odd) → AreRenumbered c.args.n.now.edges.items c.args.n.now.odd.items c.in_ok-edges.edges.items c.in_ok-odd.odd.items
made c =
    renumbered_by c.args.n.now.edges.items c.as_slice.result.now c.in_ok-edges.edges.items c.args.n.now.odd.items c.as_slice-4.result.now c.in_ok-odd.odd.items c.in_ok-marks.marks.items c.as_slice-2.result.now
    c.as_slice-3.result.now c.in_ok-numbers.numbers.items c.as_slice-5.result.now c.in_ok-marks.ensures c.as_slice.ensures.value c.as_slice-2.ensures.value c.as_slice-3.ensures.value c.as_slice-4.ensures.value
    c.as_slice-5.ensures.value c.in_ok-edges.ensures c.in_ok-numbers.ensures c.in_ok-odd.ensures

made_at_end : (c : goal.After-drop-marks-2) → AreRenumbered c.args.n.now.edges.items c.args.n.now.odd.items c.in_ok-edges.edges.items c.in_ok-odd.odd.items
made_at_end c =
    renumbered_by c.args.n.now.edges.items c.as_slice.result.now c.in_ok-edges.edges.items c.args.n.now.odd.items c.as_slice-4.result.now c.in_ok-odd.odd.items c.in_ok-marks.marks.items c.as_slice-2.result.now
    c.as_slice-3.result.now c.in_ok-numbers.numbers.items c.as_slice-5.result.now c.in_ok-marks.ensures c.as_slice.ensures.value c.as_slice-2.ensures.value c.as_slice-3.ensures.value c.as_slice-4.ensures.value
    c.as_slice-5.ensures.value c.in_ok-edges.ensures c.in_ok-numbers.ensures c.in_ok-odd.ensures

pub invariant_of-result : goal.invariant_of-result
invariant_of-result c = record {
  ascending = live_up c.args.n.now.edges.items c.args.n.now.odd.items c.args.n.now.ascending c.args.n.now.odd_ascending c.args.n.now.places c.in_ok-edges.edges.items c.in_ok-odd.odd.items (made c);
  odd_ascending = live_odd_up c.args.n.now.edges.items c.args.n.now.odd.items c.args.n.now.ascending c.args.n.now.odd_ascending c.args.n.now.places c.in_ok-edges.edges.items c.in_ok-odd.odd.items (made c);
  places = live_places c.args.n.now.edges.items c.args.n.now.odd.items c.args.n.now.ascending c.args.n.now.odd_ascending c.args.n.now.places c.in_ok-edges.edges.items c.in_ok-odd.odd.items (made c);
  used = live_used c.args.n.now.edges.items c.args.n.now.odd.items c.args.n.now.ascending c.args.n.now.odd_ascending c.args.n.now.places c.in_ok-edges.edges.items c.in_ok-odd.odd.items (made c);
}

pub returns-clause-exact : goal.returns-clause-exact
returns-clause-exact c = are_live c.args.n.now.edges.items c.args.n.now.odd.items c.args.n.now.ascending c.args.n.now.odd_ascending c.args.n.now.places c.in_ok-edges.edges.items c.in_ok-odd.odd.items (made_at_end c)

pub returns-clause-odd : goal.returns-clause-odd
returns-clause-odd c = live_odd_are c.args.n.now.edges.items c.args.n.now.odd.items c.args.n.now.ascending c.args.n.now.odd_ascending c.args.n.now.places c.in_ok-edges.edges.items c.in_ok-odd.odd.items (made_at_end c)

pub returns-clause-fewer : goal.returns-clause-fewer
returns-clause-fewer c = live_fewer c.args.n.now.edges.items c.args.n.now.odd.items c.args.n.now.ascending c.args.n.now.odd_ascending c.args.n.now.places c.in_ok-edges.edges.items c.in_ok-odd.odd.items (made_at_end c)

pub returns-clause-planar : goal.returns-clause-planar
returns-clause-planar c = live_planar c.args.n.now.edges.items c.args.n.now.odd.items c.args.n.now.ascending c.args.n.now.odd_ascending c.args.n.now.places c.in_ok-edges.edges.items c.in_ok-odd.odd.items (made_at_end c)

pub returns-clause-distinct : goal.returns-clause-distinct
returns-clause-distinct c = live_distinct c.args.n.now.edges.items c.args.n.now.odd.items c.args.n.now.ascending c.args.n.now.odd_ascending c.args.n.now.places c.in_ok-edges.edges.items c.in_ok-odd.odd.items (made_at_end c)

pub returns-clause-even : goal.returns-clause-even
returns-clause-even c = live_even c.args.n.now.edges.items c.args.n.now.odd.items c.args.n.now.ascending c.args.n.now.odd_ascending c.args.n.now.places c.in_ok-edges.edges.items c.in_ok-odd.odd.items (made_at_end c)
