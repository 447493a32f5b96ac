use Rattle.std.proofs.Common.{◌∙◌, ◌+◌, ◌<◌, ◌≤◌, length, get_or, List, arith}
use Rattle.std.proofs.lemmas.List.{get_or_default, length-set}
use Rattle.arrangement.specs.declared.odd_use.OddUse.{OddUse}
use Rattle.cov_types.specs.declared.seg.Seg.{Seg}
use Rattle.cov_simplify.proofs.MemberCounts.{counts_more, counts_so_far, edge_below}
use Rattle.cov_simplify.proofs.inner.member_counts.Goals as goal

abbrev none : OddUse
none = record { member = 0; edge = 0 }

pub overflow_add-index_mut : goal.overflow_add-index_mut
overflow_add-index_mut c =
    let odd : List OddUse = c.deref-o-items.result.now in
    let i = c.loop-o.o-index in
    let below = edge_below c.args.live.now.edges.items c.args.live.now.odd.items odd c.loop-o.counts.items i none c.args.live.now.places c.loop-o.invariant.same c.loop-o.invariant.long c.loop-o-test.true in
    let few = c.deref-o-items.type_inv.0 in
    let within = c.loop-o-test.true in
    omega (arith, counts_so_far odd c.loop-o.counts.items i (get_or odd i none).edge c.index_mut.result.now c.loop-o.invariant.within below c.index_mut.ensures.value c.loop-o.invariant.counts)

pub loop-o-preserved : goal.loop-o-preserved
loop-o-preserved c =
    let odd : List OddUse = c.deref-o-items.result.now in
    let i = c.loop-o.o-index in
    let below = edge_below c.args.live.now.edges.items c.args.live.now.odd.items odd c.loop-o.counts.items i none c.args.live.now.places c.loop-o.invariant.same c.loop-o.invariant.long c.loop-o-test.true in
    let within = c.loop-o-test.true in
    record {
      within = omega arith;
      same = c.loop-o.invariant.same;
      long = length-set _ _ _ ∙ c.loop-o.invariant.long;
      counts = counts_more odd c.loop-o.counts.items i (get_or odd i none) c.index_mut.result.now within (get_or_default odd i none (get_or odd i none) within) below c.index_mut.ensures.value c.loop-o.invariant.counts;
    }
