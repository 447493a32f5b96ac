use Rattle.std.proofs.Common.{refl}
use Rattle.plane.specs.Segment.{side}
use Rattle.plane.specs.Ray.{sweep}
use Rattle.crossing_laws.proofs.either_end.border_examples.Goals as goal

pub returns : goal.returns
unfolding side sweep
returns c = record {
  lower_midpoint = refl;
  upper_midpoint = refl;
  upper_over = refl;
  left_over = refl;
  upper_over_to_hi = refl;
  left_over_to_hi = refl;
  held = refl;
  held_to_hi = refl;
}
