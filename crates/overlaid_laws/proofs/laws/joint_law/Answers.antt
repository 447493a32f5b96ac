use Rattle.overlaid_laws.proofs.Joint.{joint_uses, joint_in_range}
use Rattle.overlaid_laws.proofs.laws.joint_law.Goals as goal

pub returns-clause-uses : goal.returns-clause-uses
returns-clause-uses c = joint_uses

pub returns-clause-range : goal.returns-clause-range
returns-clause-range c = joint_in_range
