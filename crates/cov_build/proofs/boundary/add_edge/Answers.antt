use Rattle.std.proofs.Common.{◌∙◌, sym, true≢false}
use Rattle.cov_build.proofs.BoundaryLists.{added-both, added-neither}
use Rattle.cov_build.proofs.boundary.add_edge.Goals as goal

pub returns-then-is_same_part : goal.returns-then-is_same_part
returns-then-is_same_part c = added-neither c.args.above c.args.below c.args.edge c.args.lists.now (c.is_same_part.ensures.same c.if-is_same_part.true)

pub returns : goal.returns
returns c =
    added-both c.args.above c.args.below c.args.edge c.args.lists.now c.add_to.new.lists c.add_to-2.new.lists
    (λ same. true≢false (sym (c.is_same_part.ensures.other same) ∙ c.if-is_same_part.false)) c.in_ok-add_to.ensures c.in_ok-add_to-2.ensures
