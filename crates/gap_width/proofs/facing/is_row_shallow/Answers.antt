use mir.Syntax.{w64}
use Rattle.std.proofs.Common.{◌∙◌, subst, ap, ◌<ℤ◌, to_z, of_z, arith}
use Rattle.std.proofs.lemmas.Int.{ints}
use Rattle.integer_laws.proofs.Compare.{int_lt_is}
use Rattle.integer_laws.proofs.Ring.{lin}
use Rattle.clearance_laws.specs.Facing.{depth}
use Rattle.gap_width.specs.Facing.{front_side}
use Rattle.gap_width.proofs.Depths.{block_within, corner_is}
use Rattle.gap_width.proofs.facing.is_row_shallow.Goals as goal

pub returns-then-left-least : goal.returns-then-left-least
returns-then-left-least c = λ t.
    let b = c.args.b in
    let o = c.args.o in
    let within = block_within b c.requires.block in
    let at_left = corner_is c.corner.result b.lo.x c.args.y within.0.0 c.requires.row c.corner.ensures.exact in
    let at_right = corner_is c.corner-2.result b.hi.x c.args.y within.0.1 c.requires.row c.corner-2.ensures.exact in
    let left = c.depth-left.ensures.exact ∙ ap (λ q. depth (front_side o) q o.edge) at_left in
    let right = c.depth-right.ensures.exact ∙ ap (λ q. depth (front_side o) q o.edge) at_right in
    let left_small = c.depth-left.ensures.small in
    let right_small = c.depth-right.ensures.small in
    let last = (int_lt_is (to_z w64 (of_z w64 c.depth-right.result)) (to_z w64 (of_z w64 c.args.least))).0 t in
    (subst (λ z. z <ℤ c.args.least) left (omega (arith, ints, lin, c.if-left-least.true)), subst (λ z. z <ℤ c.args.least) right (omega (arith, ints, lin)))
