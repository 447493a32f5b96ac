use Rattle.std.proofs.Common.{subst, sym}
use Rattle.std.specs.Prelude.{All}
use Rattle.std.proofs.lemmas.List.Sorted.{All-permutation}
use Rattle.std.proofs.lemmas.Result.{IfOk-weaker}
use Rattle.cov_types.specs.Range.{IsSegInRange}
use Rattle.cov_types.specs.declared.edge_use.EdgeUse.{EdgeUse}
use Rattle.snap_noder.proofs.LiveUses.{ascending_distinct}
use Rattle.snap_noder.proofs.Snapping.{near_segments, is_noded, is_fully_noded, is_in_range, is_even}
use Rattle.snap_noder.proofs.noding.node.Goals as goal

pub snapped_uses-requires : goal.snapped_uses-requires
snapped_uses-requires c =
    subst (All (λ u. IsSegInRange u.seg)) (sym c.as_slice.ensures.value)
    (All-permutation (λ (u : EdgeUse). IsSegInRange u.seg) _ _ c.in_ok-along.ensures c.requires)

pub returns-clause-exact : goal.returns-clause-exact
returns-clause-exact c =
    IfOk-weaker c.edges_of.result _ _
    (λ n are.
    is_noded c.args.list.now c.in_ok-along.along.items c.as_slice.result.now c.in_ok-uses.uses.items c.in_ok-hot.hot c.requires c.in_ok-hot.ensures
    c.in_ok-along.ensures c.as_slice.ensures.value c.in_ok-uses.ensures n.edges.items n.odd.items are) c.edges_of.ensures

pub returns-clause-fully_noded : goal.returns-clause-fully_noded
returns-clause-fully_noded c =
    IfOk-weaker c.edges_of.result _ _
    (λ n are.
    is_fully_noded c.args.list.now c.in_ok-along.along.items c.as_slice.result.now c.in_ok-uses.uses.items c.in_ok-hot.hot c.requires c.in_ok-hot.ensures
    c.in_ok-along.ensures c.as_slice.ensures.value c.in_ok-uses.ensures n.edges.items n.odd.items are) c.edges_of.ensures

pub returns-clause-in_range : goal.returns-clause-in_range
returns-clause-in_range c =
    IfOk-weaker c.edges_of.result _ _
    (λ n are.
    is_in_range c.args.list.now c.in_ok-along.along.items c.as_slice.result.now c.in_ok-uses.uses.items c.in_ok-hot.hot c.requires c.in_ok-hot.ensures
    c.in_ok-along.ensures c.as_slice.ensures.value c.in_ok-uses.ensures n.edges.items n.odd.items are) c.edges_of.ensures

pub returns-clause-even : goal.returns-clause-even
returns-clause-even c =
    IfOk-weaker c.edges_of.result _ _
    (λ n are.
    is_even c.args.list.now c.in_ok-along.along.items c.as_slice.result.now c.in_ok-uses.uses.items c.in_ok-hot.hot c.requires c.in_ok-hot.ensures
    c.in_ok-along.ensures c.as_slice.ensures.value c.in_ok-uses.ensures n.edges.items n.odd.items are) c.edges_of.ensures

pub returns-clause-half_unit : goal.returns-clause-half_unit
returns-clause-half_unit c = IfOk-weaker c.edges_of.result _ _ (λ n are. near_segments c.args.list.now n.edges.items c.requires) c.edges_of.ensures

pub returns-clause-distinct : goal.returns-clause-distinct
returns-clause-distinct c = IfOk-weaker c.edges_of.result _ _ (λ n are. ascending_distinct n.edges.items are.ascending) c.edges_of.ensures
