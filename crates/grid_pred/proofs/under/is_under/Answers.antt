use Rattle.std.proofs.Common.{sym, ◌∙◌, true≢false, rules}
use mir.Syntax.{w64}
use Rattle.grid_pred.proofs.Small.{read_is}
use Rattle.grid_pred.proofs.UnderTests.{under_is, not_under_before, not_under_after}
use Rattle.grid_pred.proofs.under.is_under.Goals as goal
use Rattle.grid_pred.proofs.under.is_under.Goals.{then-le, else-le}

pub returns-then-lt : goal.returns-then-lt
returns-then-lt c =
    let side = read_is w64 c.turn_to.result _ (search rules) c.turn_to.ensures.side in
    elim c.if-le.branch [
      | then-le w ↦ under_is c.args.e c.args.v c.requires.edge_in_range c.requires.point_in_range _ (sym c.le.ensures ∙ w.if-le.true) (sym w.lt.ensures ∙ sym w.value-is ∙ c.if-lt.true) side
      | else-le w ↦ absurd (true≢false (sym c.if-lt.true ∙ w.value-is ∙ w.if-le.false))
    ]

pub returns-else-lt : goal.returns-else-lt
returns-else-lt c =
    elim c.if-le.branch [
      | then-le w ↦ c.if-lt.false ∙ sym (not_under_after c.args.e c.args.v c.requires.edge_in_range c.requires.point_in_range (sym w.lt.ensures ∙ sym w.value-is ∙ c.if-lt.false))
      | else-le w ↦ c.if-lt.false ∙ sym (not_under_before c.args.e c.args.v c.requires.edge_in_range c.requires.point_in_range (sym c.le.ensures ∙ w.if-le.false))
    ]
