use mir.Syntax.{w64}
use Rattle.std.proofs.Common.{FitsSigned, ◌<ℤ◌, to_z, of_z, subst, rules}
use Rattle.std.proofs.lemmas.Int.{to_z-of_z}
use Rattle.clearance_laws.specs.Block.{AtCorners}
use Rattle.clearance_laws.specs.Facing.{depth}
use Rattle.gap_width.specs.Facing.{front_side}
use Rattle.gap_width.proofs.Depths.{rows_are}
use Rattle.gap_width.proofs.facing.is_block_shallow.Goals as goal

pub returns-then-is_row_shallow : goal.returns-then-is_row_shallow
returns-then-is_row_shallow c = λ t.
    let b = c.args.b in
    let o = c.args.o in
    let least = c.args.least in
    let fits : FitsSigned w64 least = search rules in
    subst (λ z. AtCorners b.lo b.hi (λ q. depth (front_side o) q o.edge <ℤ z)) (to_z-of_z w64 least fits)
    (rows_are b (λ q. depth (front_side o) q o.edge <ℤ to_z w64 (of_z w64 least)) c.requires.block (c.is_row_shallow.ensures c.if-is_row_shallow.true) (c.is_row_shallow-then-is_row_shallow.ensures t))
