use Rattle.std.proofs.Common.{sym, subst, ◌*◌, ◌<◌, length, arith}
use Rattle.plane.specs.Region.{IsOuterRegion}
use Rattle.arrangement.specs.Overlay.{IsRegion}
use Rattle.grid_cases.proofs.InnerRegions.{region_from, one_outer, outer_at}
use Rattle.grid_cases.proofs.clearances.inner_region.Goals as goal

pub returns-clause-region : goal.returns-clause-region
returns-clause-region g c =
    subst (λ es. IsRegion es c.region_of-region.result) c.requires (region_from c.args.regions.now c.args.side c.region_of-region.result (subst (λ es. c.args.side < 2 * length es) (sym c.requires) (omega arith)) c.region_of-region.ensures.region)

pub returns-clause-not_outer : goal.returns-clause-not_outer
returns-clause-not_outer g c = λ out.
    let outer = outer_at (IsOuterRegion c.args.regions.now) c.outer.result c.expect-outer.result c.expect-outer.ensures c.outer.ensures.outer in
    let same = one_outer c.args.arena.now c.region_of-region.result c.expect-outer.result out (subst (λ es. IsOuterRegion es c.expect-outer.result) c.requires outer) in
    absurd (omega (arith, same))
