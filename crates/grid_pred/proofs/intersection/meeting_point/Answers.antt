use Rattle.std.proofs.Common.{FitsSigned, rules}
use Rattle.std.proofs.lemmas.Int.{to_z-of_z}
use mir.Syntax.{w32, w64}
use Rattle.grid_pred.proofs.MeetingPoint.{AreWeights, IsMeanOfEnds, crosses_at, weights_positive, mean_is_crossing, mean_in_range, size_nonneg}
use Rattle.grid_pred.proofs.intersection.meeting_point.Goals as goal

weights : (c : goal.After-distance-2) → AreWeights c.args.s c.args.t c.distance.result c.distance-2.result
weights c = record { lo = c.distance.ensures.exact; hi = c.distance-2.ensures.exact }

mean : (c : goal.After-mean_of_ends) → IsMeanOfEnds c.args.s c.distance.result c.distance-2.result c.mean_of_ends.result
mean c =
    let f1 : FitsSigned w64 c.distance.result = search rules in
    let f2 : FitsSigned w64 c.distance-2.result = search rules in
    let f3 : FitsSigned w32 c.args.s.lo.x = search rules in
    let f4 : FitsSigned w32 c.args.s.lo.y = search rules in
    let f5 : FitsSigned w32 c.args.s.hi.x = search rules in
    let f6 : FitsSigned w32 c.args.s.hi.y = search rules in
    record {
      x = simp to_z-of_z at c.mean_of_ends.ensures.x;
      y = simp to_z-of_z at c.mean_of_ends.ensures.y;
      den = simp to_z-of_z at c.mean_of_ends.ensures.den;
    }

pub mean_of_ends-requires-clause-weighted : goal.mean_of_ends-requires-clause-weighted
mean_of_ends-requires-clause-weighted c =
    let f1 : FitsSigned w64 c.distance.result = search rules in
    let f2 : FitsSigned w64 c.distance-2.result = search rules in
    let positive = weights_positive c.args.s c.args.t c.distance.result c.distance-2.result _ c.requires.s_in_range c.requires.t_in_range (crosses_at c.args.s c.args.t c.requires.crosses) (weights c) in
    simp to_z-of_z positive

pub returns-clause-point : goal.returns-clause-point
returns-clause-point c =
    mean_is_crossing c.args.s c.args.t c.distance.result c.distance-2.result c.mean_of_ends.result _ (crosses_at c.args.s c.args.t c.requires.crosses)
    (record { lo = c.distance.ensures.exact; hi = c.distance-2.ensures.exact }) (mean c)

pub returns-clause-in_range : goal.returns-clause-in_range
returns-clause-in_range c =
    mean_in_range c.args.s c.distance.result c.distance-2.result c.mean_of_ends.result c.requires.s_in_range c.distance.ensures.small c.distance-2.ensures.small
    (size_nonneg _ _ c.distance.ensures.exact) (size_nonneg _ _ c.distance-2.ensures.exact) (mean c)
