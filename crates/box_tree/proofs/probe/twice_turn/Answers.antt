use Rattle.std.proofs.Common.{◌∙◌, FitsSigned, arith, rules}
use Rattle.std.proofs.lemmas.Int.{ints, to_z-of_z}
use mir.Syntax.{w32, w64}
use Rattle.box_tree.proofs.Wide.{twice_fits, twice_is, twice_turn_parts}
use Rattle.box_tree.proofs.probe.twice_turn.Goals as goal

pub overflow_sub-result : goal.overflow_sub-result
overflow_sub-result c = let p = c.product.ensures.small in let q = c.product-2.ensures.small in omega (arith, ints)

pub overflow_mul-result : goal.overflow_mul-result
overflow_mul-result c = twice_fits c.product.result c.product-2.result c.product.ensures.small c.product-2.ensures.small

pub returns : goal.returns
returns c =
    let e1 : FitsSigned w64 c.extent.result = search rules in
    let e2 : FitsSigned w64 c.extent-2.result = search rules in
    let d1 : FitsSigned w64 c.distance.result = search rules in
    let d2 : FitsSigned w64 c.distance-2.result = search rules in
    let f1 : FitsSigned w32 c.args.s.lo.x = search rules in
    let f2 : FitsSigned w32 c.args.s.lo.y = search rules in
    let f3 : FitsSigned w32 c.args.s.hi.x = search rules in
    let f4 : FitsSigned w32 c.args.s.hi.y = search rules in
    let f5 : FitsSigned w32 c.args.x = c.ranges.x in
    let f6 : FitsSigned w32 c.args.y = c.ranges.y in
    let p = simp to_z-of_z at c.product.ensures.exact in
    let q = simp to_z-of_z at c.product-2.ensures.exact in
    let u = simp to_z-of_z at c.extent.ensures.exact in
    let v = simp to_z-of_z at c.distance.ensures.exact in
    let w = simp to_z-of_z at c.extent-2.ensures.exact in
    let z = simp to_z-of_z at c.distance-2.ensures.exact in
    twice_is c.product.result c.product-2.result c.product.ensures.small c.product-2.ensures.small
    ∙ twice_turn_parts c.args.s c.args.x c.args.y c.product.result c.product-2.result c.extent.result c.distance.result c.extent-2.result c.distance-2.result p q u v w z
