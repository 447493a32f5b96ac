use mathlib.Core.List.{[]}
use Rattle.std.proofs.Common.{sym, ◌∙◌, ap, List, ◌++◌, Vec, Global}
use Rattle.cov_types.specs.declared.coord.Coord.{Coord}
use Rattle.cov_types.proofs.Sides.{flat_map-take_more, flat_map-take_all}
use Rattle.visvalingam.proofs.Begun.{all_points}
use Rattle.visvalingam.proofs.begin.all_points.Goals as goal

pub loop-line-preserved : goal.loop-line-preserved
loop-line-preserved c =
    flat_map-take_more (λ (v : Vec Coord Global). v.items) c.args.lines.now c.loop-line.line-index c.line-item.result [] c.loop-line.points.items c.extend_from_slice.new.self.items c.loop-line-test.true (sym c.line-item.is) c.loop-line.invariant
    (c.in_ok-extend_from_slice.ensures.items ∙ ap (λ (ps : List Coord). c.loop-line.points.items ++ ps) c.as_slice.ensures.value)

pub returns : goal.returns
returns c =
    flat_map-take_all (λ (v : Vec Coord Global). v.items) c.args.lines.now c.loop-line.line-index [] c.loop-line.points.items c.loop-line-test.false c.loop-line.invariant ∙ all_points c.args.lines.now
