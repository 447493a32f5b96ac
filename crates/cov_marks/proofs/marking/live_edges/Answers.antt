-- The segments of valid uses meet in ends alone, and so do the live edges.
use Rattle.std.proofs.Common.{List}
use Rattle.cov_types.specs.declared.edge_use.EdgeUse.{EdgeUse}
use Rattle.cov_types.specs.declared.seg.Seg.{Seg}
use Rattle.arrangement.specs.declared.odd_use.OddUse.{OddUse}
use Rattle.arrangement.proofs.OddUses.{live_again_law}
use Rattle.cov_admit.proofs.Segments.{noded_by_uses}
use Rattle.cov_marks.proofs.marking.live_edges.Goals as goal

pub plain-requires-clause-noded : goal.plain-requires-clause-noded
plain-requires-clause-noded c = noded_by_uses c.args.uses.now c.requires.valid.ends

pub returns-clause-exact : goal.returns-clause-exact
returns-clause-exact c =
    let list : List EdgeUse = c.args.uses.now in
    let edges : List Seg = c.in_ok-noded.noded.edges.items in
    let odd : List OddUse = c.in_ok-noded.noded.odd.items in
    live_again_law list edges odd c.in_ok-noded.ensures.exact c.in_ok-live.field-0.edges.items c.in_ok-live.field-0.odd.items c.in_ok-live.ensures.exact
