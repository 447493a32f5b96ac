use Rattle.crossing_laws.proofs.Ways.{joined-refl, joined-sym, joined-trans, joined_off, joined-same, joined-fewer}
use Rattle.crossing_laws.proofs.joined.joined_law.Goals as goal

pub returns-clause-reflexive : goal.returns-clause-reflexive
returns-clause-reflexive c = joined-refl

pub returns-clause-symmetric : goal.returns-clause-symmetric
returns-clause-symmetric c = joined-sym

pub returns-clause-transitive : goal.returns-clause-transitive
returns-clause-transitive c = joined-trans

pub returns-clause-off : goal.returns-clause-off
returns-clause-off c = λ edges p q j. (joined_off edges p q j, joined_off edges q p (joined-sym edges p q j))

pub returns-clause-same_end : goal.returns-clause-same_end
returns-clause-same_end c = joined-same

pub returns-clause-fewer_edges : goal.returns-clause-fewer_edges
returns-clause-fewer_edges c = joined-fewer
