use Rattle.std.proofs.Common.{sym, ◌∙◌, arith}
use Rattle.owner_label.proofs.Sums.{upper_area, lower_area}
use Rattle.owner_label.proofs.Trapezoids.{small_is, negated_is}
use Rattle.owner_label.proofs.measure.area_of_side.Goals as goal

pub returns-then-is_upper-clause-exact : goal.returns-then-is_upper-clause-exact
returns-then-is_upper-clause-exact c =
    negated_is c.trapezoid_of-area.result c.trapezoid_of-area.ensures.small
    ∙ upper_area c.args.edges.now c.args.side.number c.edge.result c.edge.ensures (omega (arith, c.edge.ensures, c.requires.within)) c.trapezoid_of-area.result c.trapezoid_of-area.ensures.exact
    (sym c.is_upper.ensures ∙ c.if-is_upper.true)

pub returns-else-is_upper-clause-exact : goal.returns-else-is_upper-clause-exact
returns-else-is_upper-clause-exact c =
    small_is c.trapezoid_of-area.result c.trapezoid_of-area.ensures.small
    ∙ lower_area c.args.edges.now c.args.side.number c.edge.result c.edge.ensures (omega (arith, c.edge.ensures, c.requires.within)) c.trapezoid_of-area.result c.trapezoid_of-area.ensures.exact
    (sym c.is_upper.ensures ∙ c.if-is_upper.false)
