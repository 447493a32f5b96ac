use Rattle.distance_laws.specs.Room.{doubled}
use Rattle.clearance_laws.proofs.Sides.{above_nearest, below_nearest}
use Rattle.clearance_laws.proofs.Facing.{no_room_alone, no_room_between, of_one, of_two}
use Rattle.clearance_laws.proofs.laws.facing_law.Goals as goal

pub returns-clause-side : goal.returns-clause-side
returns-clause-side c = λ edges planar distinct r inner c e own has is nearest. (
  above_nearest edges planar distinct r inner c e own has is.after_lo is.before_hi nearest,
  below_nearest edges planar distinct r inner c e own has is.after_lo is.before_hi nearest,
)

pub returns-clause-alone : goal.returns-clause-alone
returns-clause-alone c = λ edges planar distinct r inner lo hi p in_block own w some k e m at least front has far room.
    no_room_alone edges planar distinct r inner lo hi p in_block own w some k e m at least front has room (λ n d positive is_far. far n d positive (of_one (doubled p) n d e is_far))

pub returns-clause-facing : goal.returns-clause-facing
returns-clause-facing c = λ edges planar distinct r inner lo hi p in_block own w some k e m l f n at least_e least_f front_e front_f has_e has_f far rooms.
    no_room_between edges planar distinct r inner lo hi p in_block own w some k e m l f n at least_e least_f front_e front_f has_e has_f rooms.0 rooms.1
    (λ n d positive far_e far_f. far n d positive (of_two (doubled p) n d e f far_e far_f))
