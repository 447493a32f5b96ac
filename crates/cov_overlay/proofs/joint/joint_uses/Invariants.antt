use Rattle.std.proofs.Common.{◌≡◌, ◌++◌, take}
use Rattle.cov_types.specs.Uses.{uses_of}
use Rattle.overlaid_laws.specs.Joint.{shifted}
use Rattle.cov_overlay.proofs.joint.joint_uses.Given as goal

abbrev pub invariant-loop-u : goal.invariant-loop-u
invariant-loop-u l = l.joint.items ≡ uses_of l.fn.a ++ shifted l.count (take l.u-index l.u-items)
