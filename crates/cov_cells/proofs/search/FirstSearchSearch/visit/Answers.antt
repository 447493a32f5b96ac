use Rattle.std.proofs.Common.{subst, List, Option}
use Rattle.cov_types.specs.declared.coord.Coord.{Coord}
use Rattle.cov_cells.specs.Slots.{StandsIn}
use Rattle.cov_cells.proofs.search.FirstSearchSearch.visit.Goals as goal

pub first_with-self-requires-clause-in_range : goal.first_with-self-requires-clause-in_range
first_with-self-requires-clause-in_range g c p stands =
    c.requires.1.2.in_range c.args.k p (subst (λ (slots : List (Option Coord)). StandsIn slots c.args.k p) c.requires.1.0 stands)
