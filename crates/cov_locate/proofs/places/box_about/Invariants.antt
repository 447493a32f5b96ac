use Rattle.std.proofs.Common.{ℕ, ◌<◌, get_or}
use Rattle.box_tree.specs.Rect.{IsInside, box_of_point}
use Rattle.cov_locate.proofs.places.box_about.Given as goal
use Rattle.cov_types.specs.declared.coord.Coord.{Coord}

abbrev pub invariant-loop-number : goal.invariant-loop-number
invariant-loop-number l = (k n : ℕ) (d : Coord) → k < l.number-index → IsInside (box_of_point (get_or l.points (get_or l.group k n) d)) l.about
