use Rattle.std.proofs.Common.{◌*◌, ◌+◌, FitsSigned, arith, rules}
use Rattle.std.proofs.lemmas.Int.{to_z-of_z}
use mir.Syntax.{w32}
use Rattle.grid_pred.proofs.Lengths.{root_small, length-by_squares}
use Rattle.grid_pred.proofs.measure.edge_len.Goals as goal

pub overflow_cast-result : goal.overflow_cast-result
overflow_cast-result c =
    let small = root_small (65536 * (c.square.result + c.square-2.result)) (omega (arith, c.square.ensures.small, c.square-2.ensures.small)) in
    omega (arith, small, c.root.ensures)

pub returns : goal.returns
returns c =
    let f1 : FitsSigned w32 c.args.s.lo.x = search rules in
    let f2 : FitsSigned w32 c.args.s.lo.y = search rules in
    let f3 : FitsSigned w32 c.args.s.hi.x = search rules in
    let f4 : FitsSigned w32 c.args.s.hi.y = search rules in
    let width = simp to_z-of_z at c.square.ensures.exact in
    let height = simp to_z-of_z at c.square-2.ensures.exact in
    length-by_squares c.args.s c.root.result c.square.result c.square-2.result c.root.ensures width height
