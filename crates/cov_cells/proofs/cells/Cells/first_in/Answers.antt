use Rattle.std.proofs.Common.{◌∙◌, ap}
use Rattle.cov_cells.specs.Slots.{living}
use Rattle.cov_cells.proofs.Looking.{first_found, none_found}
use Rattle.cov_cells.proofs.cells.Cells.first_in.Goals as goal

pub returns-in-Some : goal.returns-in-Some
returns-in-Some c = first_found c.as_slice.result.now c.args.self.now c.args.a c.args.b c.args.c c.first_wanted.result c.in-Some.found (ap living c.as_slice.ensures.value ∙ c.self.view_is) c.in-Some.is c.first_wanted.ensures

pub returns-in-None : goal.returns-in-None
returns-in-None c = none_found c.as_slice.result.now c.args.self.now c.args.a c.args.b c.args.c c.first_wanted.result (ap living c.as_slice.ensures.value ∙ c.self.view_is) c.in-None.is c.first_wanted.ensures
