use Rattle.sector_laws.proofs.Numbers.{half_edge_at, twin_number, half_edge_side, some_number, one_number}
use Rattle.sector_laws.proofs.number.number_law.Goals as goal

pub returns-clause-number : goal.returns-clause-number
returns-clause-number c = half_edge_at

pub returns-clause-twin : goal.returns-clause-twin
returns-clause-twin c = twin_number

pub returns-clause-side : goal.returns-clause-side
returns-clause-side c = half_edge_side

pub returns-clause-some : goal.returns-clause-some
returns-clause-some c = some_number

pub returns-clause-one : goal.returns-clause-one
returns-clause-one c = one_number
