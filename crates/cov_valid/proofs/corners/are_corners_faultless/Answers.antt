use Rattle.std.proofs.Common.{◌≡◌, false, List, subst}
use Rattle.std.specs.Prelude.{IfOk}
use Rattle.cov_types.specs.declared.edge_use.EdgeUse.{EdgeUse}
use Rattle.cov_valid.proofs.corners.are_corners_faultless.Goals as goal
use Rattle.cov_valid.specs.Kinds.{AreFaultless}

pub returns-clause-fault : goal.returns-clause-fault
returns-clause-fault c = subst (λ (us : List EdgeUse). IfOk c.are_outlined_faultless.result (λ told. told ≡ false → ¬ AreFaultless us)) c.in_ok-outline.ensures.uses c.are_outlined_faultless.ensures.fault
