use Rattle.cleaned_laws.proofs.Cleaned.{member_owners, cleaned_valid, cleaned_holds}
use Rattle.cleaned_laws.proofs.laws.cleaned_coverage_law.Goals as goal

pub returns-clause-owners : goal.returns-clause-owners
returns-clause-owners g c = member_owners

pub returns-clause-valid : goal.returns-clause-valid
returns-clause-valid g c = cleaned_valid

pub returns-clause-holds : goal.returns-clause-holds
returns-clause-holds g c = cleaned_holds
