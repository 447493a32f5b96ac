use Rattle.std.proofs.Common.{arith}
use Rattle.owner_label.proofs.Regions.{region_within}
use Rattle.owner_label.proofs.sided.SidedEdges.region.Goals as goal

pub returns-clause-within : goal.returns-clause-within
returns-clause-within c =
    let within = rw (← c.self.view_is) at c.requires.within in
    rw (← c.self.view_is) (region_within _ c.self.invariant c.number.result (omega (arith, c.number.ensures, within)))
