use Rattle.fault_map.proofs.Grouping.{grouped_sides}
use Rattle.fault_map.proofs.features.sides_by_region.Goals as goal

pub returns : goal.returns
returns c = grouped_sides c.args.r.now c.numbers-numbers.result.now c.in_ok-build.field-0 c.numbers-numbers.ensures.regions c.in_ok-build.ensures
