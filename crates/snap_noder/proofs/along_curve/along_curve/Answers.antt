use Rattle.std.proofs.Common.{◌∙◌, ap, map}
use Rattle.snap_noder.specs.Along.{use_of}
use Rattle.snap_noder.proofs.AlongCurve.{along_permuted}
use Rattle.snap_noder.proofs.along_curve.along_curve.Goals as goal

pub returns : goal.returns
returns c =
    along_permuted c.args.uses.now c.in_ok-along.along.items c.in_ok-keyed.keyed.items c.sort_unstable.new.self.items c.in_ok-keyed.ensures c.sort_unstable.ensures.permutation (c.in_ok-along.ensures ∙ ap (map use_of) c.as_slice.ensures.value)
