use Rattle.std.proofs.Common.{◌∙◌}
use Rattle.parity_laws.proofs.Path.{path_holds, differ-same}
use Rattle.parity_laws.specs.Paths.{is_started}
use Rattle.parity_laws.proofs.laws.path_law.Goals as goal

pub returns-clause-path : goal.returns-clause-path
returns-clause-path c = path_holds

pub returns-clause-closed : goal.returns-clause-closed
returns-clause-closed c = λ a edges p up path higher. path_holds a a edges p up path higher ∙ differ-same (is_started a p)
