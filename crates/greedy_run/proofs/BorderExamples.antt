-- The instances of lines.
use Rattle.std.proofs.Common.{refl}
use Rattle.plane.specs.Ray.{sweep}
use Rattle.plane.specs.Segment.{side}
use Rattle.greedy_run.specs.Borders.{NeighbourExamples, SideExamples}
use Rattle.greedy_run.proofs.Blocked.{triangle_lines, stays_as_it_is, nothing_to_remove}
use Rattle.greedy_run.proofs.Borders.{low_node, bent, neighbour_lines, border_inner, left_not_inner}

pub border_examples : NeighbourExamples
border_examples = record {
  node = low_node;
  no_node = bent;
  lines = neighbour_lines;
  inner = border_inner;
  not_inner = left_not_inner;
  round = triangle_lines;
  blocked = stays_as_it_is;
  exhausted = nothing_to_remove;
}

pub side_examples : SideExamples
unfolding sweep side
side_examples = record { left_of_left = refl; right_of_left = refl; left_of_inner = refl; right_of_inner = refl; left_of_right = refl; right_of_right = refl }
