use Rattle.parity_laws.proofs.Members.{member_runs}
use Rattle.parity_laws.proofs.Parts.{part-higher, run-higher}
use Rattle.parity_laws.proofs.laws.runs_law.Goals as goal

pub returns-clause-part : goal.returns-clause-part
returns-clause-part c = part-higher

pub returns-clause-high : goal.returns-clause-high
returns-clause-high c = run-higher

pub returns-clause-members : goal.returns-clause-members
returns-clause-members c = member_runs
