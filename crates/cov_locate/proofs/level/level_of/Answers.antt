use Rattle.cov_locate.proofs.Hulls.{all_hulls}
use Rattle.cov_locate.proofs.level.level_of.Goals as goal

pub returns : goal.returns
returns c = record {
  width = c.requires;
  hulls = all_hulls c.args.width c.loop-rest.hulls.items c.args.boxes.now c.loop-rest.rest.now (c.loop-rest-test.ensures) c.loop-rest.invariant;
}
