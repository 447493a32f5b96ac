-- One use more.
use Rattle.std.proofs.Common.{◌≡◌, ◌+◌, [], ◌∷◌, ◌++◌, take, add-one, sym, ap, ◌∙◌}
use Rattle.std.proofs.Math.Seq.{take-suc}
use Rattle.cov_types.specs.declared.edge_use.EdgeUse.{EdgeUse}
use Rattle.cover_cli.proofs.lines.lists_by_member.Goals as goal

pub loop-edge-preserved : goal.loop-edge-preserved
loop-edge-preserved c =
    let one_more : take (c.loop-edge.edge-index + 1) c.args.uses.now ≡ take c.loop-edge.edge-index c.args.uses.now ++ c.edge-item.result ∷ [] =
    rw add-one (take-suc c.args.uses.now c.loop-edge.edge-index c.edge-item.result c.loop-edge-test.true
    ∙ ap (λ (u : EdgeUse). take c.loop-edge.edge-index c.args.uses.now ++ u ∷ []) (sym c.edge-item.is)) in
    rw one_more (c.in_ok-add_use.ensures _ _ c.loop-edge.invariant)
