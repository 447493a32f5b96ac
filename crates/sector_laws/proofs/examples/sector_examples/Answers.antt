use Rattle.std.proofs.Common.{refl}
use Rattle.plane.specs.Segment.{turn_of}
use Rattle.sector_laws.proofs.examples.sector_examples.Goals as goal

pub returns-clause-fan : goal.returns-clause-fan
unfolding turn_of
returns-clause-fan c = record { first = refl; second = refl; third = refl; fourth = refl; fifth = refl; sixth = refl; seventh = refl; last = refl; not_round = refl }

pub returns-clause-sectors : goal.returns-clause-sectors
unfolding turn_of
returns-clause-sectors c = record {
  quarter = refl;
  ends_are_outside = refl;
  three_quarters = refl;
  rest_is_outside = refl;
  half = refl;
  other_half = refl;
  over_straight_down = refl;
  full_turn = refl;
  full_turn_but_itself = refl;
}

pub returns-clause-square : goal.returns-clause-square
returns-clause-square c = record { along_the_bottom = refl; back_along_the_bottom = refl; up_on_the_right = refl }
