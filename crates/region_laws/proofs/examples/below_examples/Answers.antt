use Rattle.std.proofs.Common.{refl}
use Rattle.plane.specs.Segment.{side}
use Rattle.plane.specs.Ray.{sweep}
use Rattle.region_laws.proofs.examples.below_examples.Goals as goal

pub returns : goal.returns
unfolding side sweep
returns c = record {
  under = record {
    from_inside = refl;
    none_above = refl;
    from_above = refl;
    not_on_the_edge = refl;
    just_past_the_lesser_end = refl;
    not_at_the_greater_end = refl;
    past_the_edge = refl;
  };
}
