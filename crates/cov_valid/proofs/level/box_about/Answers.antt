use Rattle.std.proofs.Common.{subst}
use Rattle.box_tree.specs.Rect.{IsInside}
use Rattle.box_tree.specs.declared.rect.Rect.{Rect}
use Rattle.cov_valid.proofs.About.{about_more, about_all}
use Rattle.cov_valid.proofs.level.box_about.Goals as goal

pub loop-u-preserved : goal.loop-u-preserved
loop-u-preserved c =
    about_more c.args.uses.now c.loop-u.u-index c.u-item.result c.loop-u.all c.hull-all.result c.loop-u-test.true c.u-item.is c.hull-all.ensures.has_self
    (subst (λ (b : Rect). IsInside b c.hull-all.result) c.of_segment.ensures c.hull-all.ensures.has_other) c.loop-u.invariant

pub returns : goal.returns
returns c = about_all c.args.uses.now c.loop-u.u-index c.loop-u.all c.loop-u-test.false c.loop-u.invariant
