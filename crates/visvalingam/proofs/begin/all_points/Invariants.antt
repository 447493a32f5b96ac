use Rattle.std.proofs.Common.{◌≡◌, take, flat_map, Vec, Global}
use Rattle.cov_types.specs.declared.coord.Coord.{Coord}
use Rattle.visvalingam.proofs.begin.all_points.Given as goal

abbrev pub invariant-loop-line : goal.invariant-loop-line
invariant-loop-line l = l.points.items ≡ flat_map (λ (v : Vec Coord Global). v.items) (take l.line-index l.lines)
