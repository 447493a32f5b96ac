-- One mark more: its use is at the end.
use Rattle.std.proofs.Common.{Some, sym, ap, ◌∙◌}
use Rattle.std.proofs.lemmas.Option.{slice_get-get_or}
use Rattle.cov_types.specs.declared.edge_use.EdgeUse.{EdgeUse}
use Rattle.cover_cli.proofs.Marking.{marked_uses-push}
use Rattle.cover_cli.proofs.lines.uses_at_marks.Goals as goal

pub loop-mark-preserved : goal.loop-mark-preserved
loop-mark-preserved c =
    c.in_ok-push.ensures.items
    ∙ marked_uses-push _ _ _ _ c.index-uses-mark.result _ c.loop-mark.invariant c.loop-mark-test.true
    (slice_get-get_or _ _ c.index-uses-mark.result (c.requires c.loop-mark.mark-index _ c.loop-mark-test.true) ∙ ap (λ (u : EdgeUse). Some u) (sym c.index-uses-mark.is))
