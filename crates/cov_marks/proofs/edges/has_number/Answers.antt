use Rattle.std.proofs.Common.{sym, subst, Bool}
use Rattle.std.specs.Prelude.{Contains, IsTrue, ◌↔◌}
use Rattle.cov_marks.proofs.Searching.{number_found}
use Rattle.cov_marks.proofs.edges.has_number.Goals as goal

pub returns : goal.returns
returns c =
    subst (λ (b : Bool). IsTrue b ↔ Contains c.args.list.now c.args.n) (sym c.is_ok.ensures.value)
    (number_found c.args.list.now c.args.n c.requires c.binary_search.result c.binary_search.ensures.position)
