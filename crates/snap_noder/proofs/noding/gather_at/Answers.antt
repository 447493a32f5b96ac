use Rattle.std.proofs.Common.{◌-◌, drop, arith, length-take, length-drop}
use Rattle.snap_noder.proofs.noding.gather_at.Goals as goal

pub gather-requires : goal.gather-requires
gather-requires c =
    omega (arith, c.requires, c.min-past.ensures, length-take (c.min-past.result - c.args.i) (drop c.args.i c.args.uses.now), length-drop c.args.i c.args.uses.now)
