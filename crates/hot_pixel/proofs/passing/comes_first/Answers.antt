use Rattle.std.proofs.Common.{ap, of_z, FitsSigned, arith, rules}
use Rattle.std.proofs.lemmas.Int.{ints, to_z-of_z}
use mir.Syntax.{w32}
use Rattle.hot_pixel.proofs.Beside.{in_columns, in_column_up, in_column_down}
use Rattle.hot_pixel.proofs.passing.comes_first.Goals as goal

pub returns-then-a-b : goal.returns-then-a-b
returns-then-a-b c =
    let f : FitsSigned w32 c.args.a.x = search rules in
    let g : FitsSigned w32 c.args.b.x = search rules in
    simp to_z-of_z (in_columns c.args.s c.args.a c.args.b (λ e. c.if-a-b.true (ap (of_z w32) e)))

pub returns-then-s : goal.returns-then-s
returns-then-s c =
    let f : FitsSigned w32 c.args.a.y = search rules in
    let g : FitsSigned w32 c.args.b.y = search rules in
    simp to_z-of_z (in_column_up c.args.s c.args.a c.args.b (omega (arith, ints, c.if-a-b.false)) (omega (arith, ints, c.if-s.true)))

pub returns-else-s : goal.returns-else-s
returns-else-s c =
    let f : FitsSigned w32 c.args.a.y = search rules in
    let g : FitsSigned w32 c.args.b.y = search rules in
    simp to_z-of_z (in_column_down c.args.s c.args.a c.args.b (omega (arith, ints, c.if-a-b.false)) (omega (arith, ints, c.if-s.false)))
