use Rattle.sector_laws.proofs.Exists.{some_next}
use Rattle.sector_laws.proofs.Next.{one_next, next_of_one}
use Rattle.sector_laws.proofs.Numbers.{some_next_number, one_next_number, next_of_one_number}
use Rattle.sector_laws.proofs.sector.next_law.Goals as goal

pub returns-clause-some : goal.returns-clause-some
returns-clause-some c = some_next

pub returns-clause-one : goal.returns-clause-one
returns-clause-one c = one_next

pub returns-clause-of_one : goal.returns-clause-of_one
returns-clause-of_one c = next_of_one

pub returns-clause-some_number : goal.returns-clause-some_number
returns-clause-some_number c = some_next_number

pub returns-clause-one_number : goal.returns-clause-one_number
returns-clause-one_number c = one_next_number

pub returns-clause-of_one_number : goal.returns-clause-of_one_number
returns-clause-of_one_number c = next_of_one_number
