use Rattle.std.specs.HashSet as bag
use Rattle.std.proofs.lemmas.Iterator.{YieldsList-from_slice}
use Rattle.std.proofs.lemmas.Iterator.Adapters.{fact_from_collect}
use Rattle.std.proofs.lemmas.Iterator.Consumers.{YieldsList-from_copied}
use Rattle.std.proofs.lemmas.Result.{IfOk-weaker}
use Rattle.cov_types.specs.Coord.{is_same_coord}
use Rattle.cov_simplify.proofs.without.set_of.Goals as goal

pub returns : goal.returns
returns c =
    IfOk-weaker c.collect.result (bag.IsFromIterResult is_same_coord c.args.points.now) _ (λ gone made. made.0)
    (fact_from_collect (bag.IsFromIterResult is_same_coord) c.collect.result c.collect.ensures.ran (YieldsList-from_copied (YieldsList-from_slice c.args.points.now cc)))
