use Rattle.std.proofs.Common.{sym, subst, Bool, ℕ, Result, length}
use Rattle.std.specs.Prelude.{Contains, IsTrue, ◌↔◌}
use Rattle.std.specs.List.Sorted.{IsSearchInRange}
use Rattle.cov_marks.proofs.Searching.{segment_found}
use Rattle.cov_marks.proofs.edges.has_segment.Goals as goal

pub returns : goal.returns
returns c =
    subst (λ (b : Bool). IsTrue b ↔ Contains c.args.list.now c.args.s) (sym c.is_ok.ensures.value)
    (segment_found c.args.list.now c.args.s c.requires c.binary_search.result
    (λ i is. subst (λ (r : Result ℕ ℕ). IsSearchInRange r (length c.args.list.now)) is c.binary_search.ensures.bound) c.binary_search.ensures.position)
