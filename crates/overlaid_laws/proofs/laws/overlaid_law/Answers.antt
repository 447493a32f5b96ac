use Rattle.overlaid_laws.proofs.Held.{overlaid_valid, overlaid_holds}
use Rattle.overlaid_laws.proofs.OneOverlaid.{one_overlaid}
use Rattle.overlaid_laws.proofs.PairOwners.{member_owners}
use Rattle.overlaid_laws.proofs.laws.overlaid_law.Goals as goal

pub returns-clause-owners : goal.returns-clause-owners
returns-clause-owners c = member_owners

pub returns-clause-holds : goal.returns-clause-holds
returns-clause-holds c = overlaid_holds

pub returns-clause-valid : goal.returns-clause-valid
returns-clause-valid c = overlaid_valid

pub returns-clause-one : goal.returns-clause-one
returns-clause-one c = one_overlaid
