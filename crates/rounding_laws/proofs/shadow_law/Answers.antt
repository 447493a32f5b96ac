use Rattle.rounding_laws.proofs.InRange.{rises_of}
use Rattle.rounding_laws.proofs.Shadow.{half_unit, hot_is_end}
use Rattle.rounding_laws.proofs.shadow_law.Goals as goal

pub returns-clause-half_unit : goal.returns-clause-half_unit
returns-clause-half_unit x = λ segs s c of_s e has. half_unit segs s c e (rises_of segs s c of_s) of_s.chain has

pub returns-clause-no_hot_inside : goal.returns-clause-no_hot_inside
returns-clause-no_hot_inside x = λ segs s c of_s e has. hot_is_end segs s c e (rises_of segs s c of_s) of_s.chain has
