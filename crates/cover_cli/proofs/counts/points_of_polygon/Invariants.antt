use Rattle.std.proofs.Common.{◌≡◌, take}
use Rattle.cover_cli.specs.Sample.{polygon_points}
use Rattle.cover_cli.proofs.counts.points_of_polygon.Given as goal

abbrev pub invariant-loop-ring : goal.invariant-loop-ring
invariant-loop-ring l = l.count ≡ polygon_points (take l.ring-index l.poly)
