use Rattle.std.proofs.Common.{◌∙◌, ap, pos, ◌<ℤ◌, ◌≤ℤ◌, int_lt, FitsSigned, arith, rules}
use Rattle.std.proofs.lemmas.Int.{ints, to_z-of_z}
use mir.Syntax.{w64}
use Rattle.grid_pred.proofs.Vectors.{not_over-before_lo, not_over-past_hi, over-by_side}
use Rattle.grid_pred.proofs.ray.over_point.Goals as goal

pub returns-then-before_lo : goal.returns-then-before_lo
returns-then-before_lo c =
    let v = c.vector_from-from_lo in
    λ q w. not_over-before_lo c.args.e c.args.p v.result q c.rise_along-before_lo.result (record { x = v.ensures.x; y = v.ensures.y }) w c.rise_along-before_lo.ensures (omega (arith, ints, c.if-before_lo.true))

pub returns-then-not-before_hi : goal.returns-then-not-before_hi
returns-then-not-before_hi c =
    let v = c.vector_from in
    λ q w. not_over-past_hi c.args.e c.args.p v.result q c.rise_along-before_hi.result (record { x = v.ensures.x; y = v.ensures.y }) w c.rise_along-before_hi.ensures (omega (arith, ints, c.if-not-before_hi.true))

pub returns : goal.returns
returns c =
    let v = c.vector_from-from_lo in
    let u = c.vector_from in
    let fits : FitsSigned w64 c.side_of.result = search rules in
    let from : pos 0 ≤ℤ c.rise_along-before_lo.result = omega (arith, ints, c.if-before_lo.false) in
    let to : c.rise_along-before_hi.result <ℤ pos 0 = omega (arith, ints, c.if-not-before_hi.false) in
    λ q w. (ap (λ s. int_lt s (pos 0)) (to_z-of_z w64 c.side_of.result fits)
    ∙ over-by_side c.args.e c.args.p v.result u.result q c.rise_along-before_lo.result c.rise_along-before_hi.result c.side_of.result
    (record { x = v.ensures.x; y = v.ensures.y }) (record { x = u.ensures.x; y = u.ensures.y }) w c.rise_along-before_lo.ensures c.rise_along-before_hi.ensures c.side_of.ensures from to)
