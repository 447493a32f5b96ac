-- The side is its own region, and not that of the outer points.
use Rattle.std.proofs.Common.{arith}
use Rattle.std.proofs.lemmas.Bool.Decides.{nat_tests}
use Rattle.random_cases.proofs.InnerRegions.{own_region, not_outer}
use Rattle.random_cases.proofs.gaps.is_inner_region.Goals as goal

pub returns-in-Some-clause-region : goal.returns-in-Some-clause-region
returns-in-Some-clause-region c = λ differs.
    own_region c.args.regions.now c.args.side c.region_of.result c.requires c.region_of.ensures.region c.if-region_of-side.false

pub returns-in-Some-clause-not_outer : goal.returns-in-Some-clause-not_outer
returns-in-Some-clause-not_outer c = λ differs.
    not_outer c.args.regions.now c.in-Some.outer c.args.side c.in-Some.ensures.outer (λ same. grind (arith, nat_tests, differs, same))
