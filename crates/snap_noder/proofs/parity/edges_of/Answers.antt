use Rattle.snap_noder.proofs.ParityLemmas.{found_ascending, found_places, found_edges}
use Rattle.snap_noder.proofs.parity.edges_of.Goals as goal

pub invariant_of-result : goal.invariant_of-result
invariant_of-result c = record {
  ascending =
      found_ascending c.args.uses.items c.by_segment-sorted.result.items c.as_slice.result.now c.in_ok-edges.field-0.edges.items c.in_ok-edges.field-0.pairs.items c.sort_unstable.new.self.items c.as_slice-2.result.now
      c.in_ok-odd.odd.items c.by_segment-sorted.ensures.permutation c.as_slice.ensures.value c.in_ok-edges.ensures c.sort_unstable.ensures.permutation c.as_slice-2.ensures.value c.in_ok-odd.ensures.exact;
  odd_ascending = c.in_ok-odd.ensures.ascending;
  places =
      found_places c.args.uses.items c.by_segment-sorted.result.items c.as_slice.result.now c.in_ok-edges.field-0.edges.items c.in_ok-edges.field-0.pairs.items c.sort_unstable.new.self.items c.as_slice-2.result.now
      c.in_ok-odd.odd.items c.by_segment-sorted.ensures.permutation c.as_slice.ensures.value c.in_ok-edges.ensures c.sort_unstable.ensures.permutation c.as_slice-2.ensures.value c.in_ok-odd.ensures.exact;
}

pub returns : goal.returns
returns c =
    found_edges c.args.uses.items c.by_segment-sorted.result.items c.as_slice.result.now c.in_ok-edges.field-0.edges.items c.in_ok-edges.field-0.pairs.items c.sort_unstable.new.self.items c.as_slice-2.result.now
    c.in_ok-odd.odd.items c.by_segment-sorted.ensures.permutation c.as_slice.ensures.value c.in_ok-edges.ensures c.sort_unstable.ensures.permutation c.as_slice-2.ensures.value c.in_ok-odd.ensures.exact
    c.in_ok-odd.ensures.ascending
