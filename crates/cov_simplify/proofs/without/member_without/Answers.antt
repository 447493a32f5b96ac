use Rattle.cov_simplify.specs.Without.{poly_without}
use Rattle.cov_simplify.proofs.Withouts.{mapped_more, moved_on}
use Rattle.cov_simplify.proofs.without.member_without.Goals as goal

pub loop-poly-preserved : goal.loop-poly-preserved
loop-poly-preserved c = record {
  done = λ removed gone. mapped_more (poly_without removed) c.loop-poly.yielded c.in-Some.poly c.loop-poly.polys.items _ c.in_ok-poly_without.field-0 c.in_ok-push.ensures.items (c.loop-poly.invariant.done removed gone) (c.in_ok-poly_without.ensures removed gone);
  left = moved_on c.loop-poly.yielded _ c.loop-poly.poly-iterator.rest.items c.args.member c.in-Some.poly c.loop-poly.invariant.left c.in-Some.ensures.steps.0;
}
