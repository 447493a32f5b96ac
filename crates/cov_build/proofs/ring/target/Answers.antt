use Rattle.std.proofs.Common.{◌∙◌, sym, ap}
use Rattle.half_edge.proofs.Counts.{some_half_edge}
use Rattle.sector_laws.specs.Sector.{twin}
use Rattle.cov_build.specs.Walks.{back_along}
use Rattle.cov_build.proofs.RingSides.{origin-twin}
use Rattle.cov_build.proofs.ring.target.Goals as goal

pub returns : goal.returns
returns c =
    let (g, at) = some_half_edge c.args.a.now c.args.h c.requires in
    c.origin.ensures (twin g) (c.twin.ensures.opposite g at) ∙ origin-twin g ∙ ap (λ o. (back_along o).0) (sym at)
