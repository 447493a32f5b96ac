use Rattle.std.proofs.Common.{arith}
use Rattle.cov_build.proofs.BoundaryLists.{empty-none, empty-new, empty-boundaries}
use Rattle.cov_build.proofs.boundary.empty_lists.Goals as goal

pub loop-init : goal.loop-init
loop-init c = empty-none _ c.new-lists.ensures.items

pub loop-preserved : goal.loop-preserved
loop-preserved c = empty-new _ _ _ _ c.new.ensures.items c.in_ok-push.ensures.items c.loop.invariant

pub returns : goal.returns
returns c = empty-boundaries _ _ _ (omega arith) c.loop.invariant
