use Rattle.std.proofs.Common.{◌^◌, sym, subst, rules}
use Rattle.integer_laws.proofs.Bound.{IsWithin}
use Rattle.grid_pred.proofs.Sizes.{turn_within}
use Rattle.grid_pred.proofs.MeetingPoint.{negation_fits, distance_is, distance_small}
use Rattle.grid_pred.proofs.intersection.distance.Goals as goal

pub abs-requires : goal.abs-requires
abs-requires c = negation_fits c.turn_to.result _ (search rules) c.turn_to.ensures.exact (turn_within c.args.t.lo c.args.t.hi c.args.c c.requires.segment_in_range.lo c.requires.segment_in_range.hi c.requires.point_in_range)

pub returns-clause-exact : goal.returns-clause-exact
returns-clause-exact c = distance_is c.turn_to.result _ c.abs.result (search rules) (search rules) c.turn_to.ensures.exact c.abs.ensures.value

pub returns-clause-small : goal.returns-clause-small
returns-clause-small c =
    subst (IsWithin (2 ^ 59)) (sym (returns-clause-exact c))
    (distance_small _ (turn_within c.args.t.lo c.args.t.hi c.args.c c.requires.segment_in_range.lo c.requires.segment_in_range.hi c.requires.point_in_range))
