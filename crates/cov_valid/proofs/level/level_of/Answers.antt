use Rattle.cov_valid.proofs.About.{all_blocks}
use Rattle.cov_valid.proofs.level.level_of.Goals as goal

pub returns : goal.returns
returns c = record {
  width = c.requires;
  boxes = all_blocks c.args.width c.loop-rest.boxes.items c.args.uses.now c.loop-rest.rest.now (c.loop-rest-test.ensures) c.loop-rest.invariant;
}
