use Rattle.std.proofs.Common.{sym, ◌∙◌, subst, List, ◌++◌, length}
use Rattle.std.specs.Prelude.{All}
use Rattle.cov_types.specs.Coverage.{Members, AllInRange}
use Rattle.cov_types.specs.Range.{IsSegInRange}
use Rattle.cov_types.specs.Uses.{uses_of, HasEvenEnds}
use Rattle.cov_types.specs.declared.edge_use.EdgeUse.{EdgeUse}
use Rattle.cov_types.specs.declared.seg.Seg.{Seg}
use Rattle.cov_types.proofs.AllUses.{uses-members, uses-in_range}
use Rattle.cov_types.proofs.EvenEnds.{even-ends}
use Rattle.arrangement.specs.Noding.{IsNoded}
use Rattle.arrangement.specs.declared.odd_use.OddUse.{OddUse}
use Rattle.cov_clean.proofs.Overlays.{odd_members, snapped_overlay}
use Rattle.overlaid_laws.proofs.Joint.{joint_in_range}
use Rattle.cov_overlay.proofs.joint.live_edges.Goals as goal

pub node-requires : goal.node-requires
node-requires c =
    let both : Members = c.args.a.now ++ c.args.b.now in
    let in_range : AllInRange both = joint_in_range c.args.a.now c.args.b.now c.requires.first c.requires.second c.requires.few in
    subst (λ (us : List EdgeUse). All (λ u. IsSegInRange u.seg) us) (sym (c.deref.ensures.value ∙ c.in_ok-uses.ensures)) (uses-in_range both in_range)

pub returns : goal.returns
returns c =
    let edges : List Seg = c.in_ok-noded.noded.edges.items in
    let odd : List OddUse = c.in_ok-noded.noded.odd.items in
    let live : List Seg = c.in_ok-live.field-0.edges.items in
    let live_odd : List OddUse = c.in_ok-live.field-0.odd.items in
    let both : Members = c.args.a.now ++ c.args.b.now in
    let list : List EdgeUse = uses_of both in
    let listed = c.deref.ensures.value ∙ c.in_ok-uses.ensures in
    let noded : IsNoded list edges odd = subst (λ (us : List EdgeUse). IsNoded us edges odd) listed c.in_ok-noded.ensures.exact in
    let even : HasEvenEnds c.deref.result.now = subst HasEvenEnds (sym listed) (even-ends both) in
    record {
      overlay = λ numbers numbered. snapped_overlay list (length both) edges live odd live_odd noded c.in_ok-live.ensures.exact numbers numbered;
      below = odd_members list (length both) edges live odd live_odd noded c.in_ok-live.ensures.exact (uses-members both);
      planar = c.in_ok-live.ensures.planar (record { in_range = c.in_ok-noded.ensures.in_range; noded = c.in_ok-noded.ensures.fully_noded });
      distinct = c.in_ok-live.ensures.distinct;
      even = c.in_ok-live.ensures.even (c.in_ok-noded.ensures.even even);
    }
