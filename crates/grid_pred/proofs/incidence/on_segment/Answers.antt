use Rattle.std.proofs.Common.{sym, ◌∙◌, ap, of_z, rules}
use mir.Syntax.{w64}
use Rattle.plane.proofs.Sweeps.{rises-in_range}
use Rattle.plane.proofs.Along.{on-turn}
use Rattle.grid_pred.proofs.Order.{zero_from_bits, on_segment_from, on_segment_low, on_segment_high}
use Rattle.grid_pred.proofs.incidence.on_segment.Goals as goal

pub returns-then-turn_to-ne0 : goal.returns-then-turn_to-ne0
returns-then-turn_to-ne0 c =
    (λ h. absurd (cc), λ on. absurd (c.if-turn_to-ne0.true (ap (of_z w64) (c.turn_to.ensures.exact ∙ (on-turn c.args.s c.args.p (rises-in_range c.args.s c.requires.segment) on).0))))

pub returns-then-le : goal.returns-then-le
returns-then-le c =
    let on_line = sym c.turn_to.ensures.exact ∙ zero_from_bits c.turn_to.result (search rules) c.if-turn_to-ne0.false in (
      λ h. on_segment_from c.args.s c.args.p c.requires.segment c.requires.point on_line (sym c.le.ensures ∙ c.if-le.true) (sym c.le-then-le.ensures ∙ h),
      λ on. c.le-then-le.ensures ∙ on_segment_high c.args.s c.args.p c.requires.segment c.requires.point on,
    )

pub returns-else-le : goal.returns-else-le
returns-else-le c =
    (λ h. absurd (let f = c.if-le.false in cc), λ on. c.le.ensures ∙ on_segment_low c.args.s c.args.p c.requires.segment c.requires.point on)
