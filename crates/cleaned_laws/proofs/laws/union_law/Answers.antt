use Rattle.cleaned_laws.proofs.Union.{union_holds, union_valid}
use Rattle.cleaned_laws.proofs.laws.union_law.Goals as goal

pub returns-clause-holds : goal.returns-clause-holds
returns-clause-holds c = union_holds

pub returns-clause-valid : goal.returns-clause-valid
returns-clause-valid c = union_valid
