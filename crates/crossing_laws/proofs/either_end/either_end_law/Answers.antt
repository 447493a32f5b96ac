use Rattle.crossing_laws.proofs.EitherEndParity.{holds-either_end, member_holds-either_end, coverage-either_end}
use Rattle.crossing_laws.proofs.either_end.either_end_law.Goals as goal

pub returns-clause-edges : goal.returns-clause-edges
returns-clause-edges c = holds-either_end

pub returns-clause-member : goal.returns-clause-member
returns-clause-member c = member_holds-either_end

pub returns-clause-coverage : goal.returns-clause-coverage
returns-clause-coverage c = coverage-either_end
