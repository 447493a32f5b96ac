use Rattle.std.proofs.Common.{◌<◌, length, arith}
use Rattle.components.proofs.Down.{way-more}
use Rattle.components.proofs.component.bottom.Goals as goal

pub down-preserved : goal.down-preserved
down-preserved c =
    let within : c.down.at < length c.down.lower = omega arith in
    way-more c.args.lower.now c.down.lower c.args.node c.down.at within c.down-test.true c.down.invariant
