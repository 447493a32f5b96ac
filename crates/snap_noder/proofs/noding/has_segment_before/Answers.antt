use Rattle.std.proofs.Common.{arith}
use Rattle.snap_noder.proofs.Snapping.{same_before, none_before}
use Rattle.snap_noder.proofs.noding.has_segment_before.Goals as goal

pub returns-then-i-gt0 : goal.returns-then-i-gt0
returns-then-i-gt0 c = same_before c.args.uses.now c.args.i _ _ _ c.eq.result c.requires (omega arith) c.eq.ensures

pub returns-else-i-gt0 : goal.returns-else-i-gt0
returns-else-i-gt0 c = none_before c.args.uses.now c.args.i c.if-i-gt0.false
