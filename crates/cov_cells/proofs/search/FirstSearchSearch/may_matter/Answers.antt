use Rattle.std.proofs.Common.{sym, ◌∙◌}
use Rattle.cov_cells.proofs.Looking.{settled_outside}
use Rattle.cov_cells.proofs.search.FirstSearchSearch.may_matter.Goals as goal

pub returns : goal.returns
returns g c is_false boxes k b among at_k in_hull =
    let s = c.args.self.now in
    settled_outside g.Q.Query.slots g.Q.Query.wanted boxes s.round c.args.hull s.first among.2 among.4 (sym c.touches.ensures ∙ is_false) k b at_k in_hull
