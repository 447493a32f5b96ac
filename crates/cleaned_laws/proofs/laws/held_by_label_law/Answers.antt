use Rattle.cleaned_laws.proofs.ByLabel.{held_by_label}
use Rattle.cleaned_laws.proofs.laws.held_by_label_law.Goals as goal

pub returns : goal.returns
returns g c = held_by_label
