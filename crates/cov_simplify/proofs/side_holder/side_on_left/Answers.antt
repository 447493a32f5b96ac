use Rattle.std.proofs.Common.{◌∙◌, sym, subst}
use Rattle.plane.specs.Region.{IsSide}
use Rattle.cov_simplify.proofs.SidedLines.{upper_side, lower_side, on_side, left_at_lo, left_at_hi}
use Rattle.cov_simplify.proofs.side_holder.side_on_left.Goals as goal

pub returns-then-eq-clause-side : goal.returns-then-eq-clause-side
returns-then-eq-clause-side c = λ edges at. subst (IsSide edges c.upper.result.number) (sym (left_at_lo c.args.from c.args.edge (sym c.eq.ensures ∙ c.if-eq.true))) (on_side edges c.upper.result.number _ _ c.upper.ensures (upper_side edges c.args.place c.args.edge at))

pub returns-else-eq-clause-side : goal.returns-else-eq-clause-side
returns-else-eq-clause-side c = λ edges at. subst (IsSide edges c.lower.result.number) (sym (left_at_hi c.args.from c.args.edge (sym c.eq.ensures ∙ c.if-eq.false))) (on_side edges c.lower.result.number _ _ c.lower.ensures (lower_side edges c.args.place c.args.edge at))
