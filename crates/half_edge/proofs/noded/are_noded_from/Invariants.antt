use Rattle.std.proofs.Common.{◌≡◌, map}
use Rattle.box_tree.specs.Places.{places}
use Rattle.box_tree.specs.Rect.{is_touching, box_of_segment}
use Rattle.half_edge.specs.Arranged.{AreNodedFrom}
use Rattle.half_edge.proofs.noded.are_noded_from.Given as goal

abbrev pub invariant-loop-k : goal.invariant-loop-k
invariant-loop-k l = (l.near.wide.items ≡ places (is_touching l.round) 0 (map box_of_segment l.edges)) × AreNodedFrom l.edges l.fn.from l.k
