use mir.Syntax.{w64}
use Rattle.std.proofs.Common.{◌≡◌, ◌∙◌, ap, sym, subst, ◌^◌, ◌-ℤ◌, pos, unsigned_abs, to_z, lit<, arith}
use Rattle.std.proofs.lemmas.Int.{ints}
use Rattle.integer_laws.proofs.Ring.{lin}
use Rattle.distance_laws.specs.Room.{squared_length}
use Rattle.clearance_laws.specs.Facing.{IsLeastDepth}
use Rattle.grid_pred.proofs.Small.{read_within}
use Rattle.gap_width.specs.Depth.{Divides}
use Rattle.gap_width.proofs.Depths.{room_small, least_is, length_is, length_nonneg}
use Rattle.gap_width.proofs.depth.least_depth.Goals as goal

pub root_up-depth-requires : goal.root_up-depth-requires
root_up-depth-requires c = room_small c.args.room c.unsigned_abs-length.result c.requires.room (let small = c.scalar.ensures.small in omega (arith, ints, lin, c.unsigned_abs-length.ensures.value))

pub common_divisor-step-requires-clause-small : goal.common_divisor-step-requires-clause-small
common_divisor-step-requires-clause-small c = (let small = c.vector_of-along.ensures.small in omega (arith, ints, lin, small.x.low, small.x.high, small.y.low, small.y.high, c.unsigned_abs.ensures.value, c.unsigned_abs-2.ensures.value))

pub returns-clause-least : goal.returns-clause-least
returns-clause-least c =
    let e = c.args.e in
    let u = c.vector_of-along in
    let long = length_is e u.result.x u.result.y c.scalar.result u.ensures.x u.ensures.y c.scalar.ensures.exact in
    let some = length_nonneg e in
    let small = c.scalar.ensures.small in
    let length : pos c.unsigned_abs-length.result ≡ squared_length e = omega (arith, ints, lin, c.unsigned_abs-length.ensures.value) in
    let x : c.unsigned_abs.result ≡ unsigned_abs (e.hi.x -ℤ e.lo.x) = c.unsigned_abs.ensures.value ∙ ap unsigned_abs (read_within w64 u.result.x (2 ^ 30) (lit< tt) u.ensures.small.x ∙ u.ensures.x) in
    let y : c.unsigned_abs-2.result ≡ unsigned_abs (e.hi.y -ℤ e.lo.y) = c.unsigned_abs-2.ensures.value ∙ ap unsigned_abs (read_within w64 u.result.y (2 ^ 30) (lit< tt) u.ensures.small.y ∙ u.ensures.y) in
    let d = c.common_divisor-step.result in
    let read : to_z w64 c.multiple_up.result ≡ pos c.multiple_up.result = omega (arith, ints, lin, c.multiple_up.ensures.small) in
    subst (λ z. IsLeastDepth c.args.room e z) (sym read)
    (least_is c.args.room e c.unsigned_abs-length.result d c.multiple_up.result c.root_up-depth.result c.common_divisor-step.ensures.some length
    (subst (Divides d) x c.common_divisor-step.ensures.first) (subst (Divides d) y c.common_divisor-step.ensures.second)
    (λ j le. c.root_up-depth.ensures.least j le) (λ t le. c.multiple_up.ensures.least t le))

pub returns-clause-small : goal.returns-clause-small
returns-clause-small c = record { low = omega (arith, ints, lin, c.multiple_up.ensures.small); high = omega (arith, ints, lin, c.multiple_up.ensures.small) }
