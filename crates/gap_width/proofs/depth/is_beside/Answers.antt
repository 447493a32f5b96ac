use mir.Syntax.{w64}
use Rattle.std.proofs.Common.{pos, ◌*ℤ◌, to_z, of_z, arith}
use Rattle.std.proofs.lemmas.Int.{ints}
use Rattle.integer_laws.proofs.Compare.{int_lt_is}
use Rattle.integer_laws.proofs.Ring.{lin}
use Rattle.gap_width.proofs.Depths.{foot_is, length_is}
use Rattle.gap_width.proofs.depth.is_beside.Goals as goal

pub returns-then-foot-gt0 : goal.returns-then-foot-gt0
returns-then-foot-gt0 c = λ t.
    let u = c.vector_of-along in
    let v = c.vector_from in
    let foot_at = foot_is c.args.c c.args.e u.result.x u.result.y v.result.x v.result.y c.scalar-foot.result u.ensures.x u.ensures.y v.ensures.x v.ensures.y c.scalar-foot.ensures.exact in
    let long = length_is c.args.e u.result.x u.result.y c.scalar.result u.ensures.x u.ensures.y c.scalar.ensures.exact in
    let small = c.scalar.ensures.small in
    let less = (int_lt_is (to_z w64 (of_z w64 c.scalar-foot.result)) (to_z w64 (of_z w64 (pos 2 *ℤ to_z w64 (of_z w64 c.scalar.result))))).0 t in
    record { after_lo = omega (arith, ints, lin, c.if-foot-gt0.true); before_hi = omega (arith, ints, lin) }
