use Rattle.cleaned_laws.proofs.Holders.{built_holds}
use Rattle.cleaned_laws.proofs.Valid.{built_valid}
use Rattle.cleaned_laws.proofs.laws.built_law.Goals as goal

pub returns-clause-holds : goal.returns-clause-holds
returns-clause-holds c = built_holds

pub returns-clause-valid : goal.returns-clause-valid
returns-clause-valid c = built_valid
