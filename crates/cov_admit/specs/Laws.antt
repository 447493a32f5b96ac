-- The laws that tie the faults of uses to validity.
use Rattle.std.specs.Prelude.{List, All}
use Rattle.cov_types.specs.Range.{IsSegInRange}
use Rattle.cov_types.specs.Uses.{HasEvenEnds}
use Rattle.cov_types.specs.declared.edge_use.EdgeUse.{EdgeUse}
use Rattle.cov_valid.specs.Kinds.{AreFaultless}
use Rattle.plane.specs.Validity.{IsValid}

-- uses in range with even ends, of which none is at fault, are valid
abbrev pub FaultlessValidLaw : Type 0
FaultlessValidLaw = (uses : List EdgeUse) → All (λ u. IsSegInRange u.seg) uses → HasEvenEnds uses → AreFaultless uses → IsValid uses

-- of valid uses in range none is at fault
abbrev pub ValidFaultlessLaw : Type 0
ValidFaultlessLaw = (uses : List EdgeUse) → All (λ u. IsSegInRange u.seg) uses → IsValid uses → AreFaultless uses
