use Rattle.std.proofs.Common.{◌&&◌, int_le, FitsSigned, rules}
use Rattle.std.proofs.lemmas.Int.{to_z-of_z}
use mir.Syntax.{w32, w64}
use Rattle.box_tree.proofs.probe.is_below_point.Goals as goal

pub returns : goal.returns
returns c =
    let b1 : FitsSigned w32 c.args.b.lo.x = search rules in
    let b2 : FitsSigned w32 c.args.b.hi.x = search rules in
    let b3 : FitsSigned w32 c.args.b.lo.y = search rules in
    let p1 : FitsSigned w32 c.args.p.x = search rules in
    let p2 : FitsSigned w32 c.args.p.y = search rules in
    let p3 : FitsSigned w64 c.args.p.x = search rules in
    let p4 : FitsSigned w64 c.args.p.y = search rules in
    let r1 : FitsSigned w64 c.twice.result = search rules in
    let r2 : FitsSigned w64 c.twice-2.result = search rules in
    let r3 : FitsSigned w64 c.twice-3.result = search rules in
    let left = simp to_z-of_z at c.twice.ensures in
    let right = simp to_z-of_z at c.twice-2.ensures in
    let row = simp to_z-of_z at c.twice-3.ensures in
    simp to_z-of_z (λ i. (int_le (left i) c.args.p.x && int_le c.args.p.x (right i)) && int_le (row i) c.args.p.y)
