use Rattle.std.proofs.Common.{sym, subst, All, List}
use Rattle.std.proofs.lemmas.List.Elements.{All-push}
use Rattle.cov_types.specs.declared.coord.Coord.{Coord}
use Rattle.cov_types.specs.Range.{IsInRange}
use Rattle.grid_cases.proofs.runs.line_of.Goals as goal

pub loop-x-preserved : goal.loop-x-preserved
loop-x-preserved g c =
    subst (λ (ps : List Coord). All IsInRange ps) (sym c.in_ok-push.ensures.items) (All-push IsInRange c.loop-x.line.items c.point.result c.loop-x.invariant c.point.ensures)
