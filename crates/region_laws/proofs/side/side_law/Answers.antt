use Rattle.region_laws.proofs.Balance.{balanced_sides}
use Rattle.region_laws.proofs.Outwards.{crossed_same}
use Rattle.region_laws.proofs.Kept.{kept_joined}
use Rattle.region_laws.proofs.Numbered.{joined_number}
use Rattle.region_laws.proofs.side.side_law.Goals as goal

pub returns-clause-balanced : goal.returns-clause-balanced
returns-clause-balanced c = balanced_sides

pub returns-clause-kept : goal.returns-clause-kept
returns-clause-kept c = kept_joined

pub returns-clause-number : goal.returns-clause-number
returns-clause-number c = joined_number

pub returns-clause-crossed : goal.returns-clause-crossed
returns-clause-crossed c = crossed_same
