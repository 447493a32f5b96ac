use Rattle.std.proofs.Common.{arith}
use Rattle.std.proofs.lemmas.Int.{ints}
use Rattle.integer_laws.proofs.Ring.{lin}
use Rattle.gap_width.proofs.Depths.{side_is, depth_above, depth_below}
use Rattle.gap_width.proofs.depth.depth.Goals as goal

pub returns-then-o-lt0-clause-exact : goal.returns-then-o-lt0-clause-exact
returns-then-o-lt0-clause-exact c =
    let u = c.vector_of in
    let v = c.vector_from in
    let is = side_is c.args.c c.args.o.edge u.result.x u.result.y v.result.x v.result.y c.across-side.result u.ensures.x u.ensures.y v.ensures.x v.ensures.y c.across-side.ensures.exact in
    let exact = depth_above c.args.o c.args.c c.across-side.result is (omega (arith, ints, lin, c.if-o-lt0.true)) in
    let small = c.across-side.ensures.small in
    omega (arith, ints, lin)

pub returns-else-o-lt0-clause-exact : goal.returns-else-o-lt0-clause-exact
returns-else-o-lt0-clause-exact c =
    let u = c.vector_of in
    let v = c.vector_from in
    let is = side_is c.args.c c.args.o.edge u.result.x u.result.y v.result.x v.result.y c.across-side.result u.ensures.x u.ensures.y v.ensures.x v.ensures.y c.across-side.ensures.exact in
    let exact = depth_below c.args.o c.args.c c.across-side.result is (omega (arith, ints, lin, c.if-o-lt0.false)) in
    let small = c.across-side.ensures.small in
    omega (arith, ints, lin)

pub returns-else-o-lt0-clause-small : goal.returns-else-o-lt0-clause-small
returns-else-o-lt0-clause-small c = (let small = c.across-side.ensures.small in record { low = omega (arith, ints, lin); high = omega (arith, ints, lin) })
