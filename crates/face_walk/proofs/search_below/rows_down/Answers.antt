use Rattle.std.proofs.Common.{ℕ, FitsSigned, ◌^◌, ◌*◌, ◌/◌, ◌≤◌, pos, subst, sym, arith}
use Rattle.std.proofs.lemmas.Int.{to_z_pos}
use mir.Syntax.{w32}
use Rattle.integer_laws.proofs.Bound.{IsWithin}
use Rattle.integer_laws.proofs.Cast.{int_casts}
use Rattle.integer_laws.proofs.Ring.{lin}
use Rattle.face_walk.specs.Boxes.{IsRowsDown}
use Rattle.face_walk.proofs.Depth.{rows_read}
use Rattle.face_walk.proofs.search_below.rows_down.Goals as goal

pub nonzero_div-result : goal.nonzero_div-result
nonzero_div-result c =
    (rows_read c.args.e c.args.p c.requires.edge_in_range c.requires.point_in_range c.requires.under c.turn_to.result c.rise.result c.unsigned_abs-turn.result c.unsigned_abs-rise.result
    c.turn_to.ensures.side c.turn_to.ensures.small c.unsigned_abs-turn.ensures.value c.rise.ensures.exact c.rise.ensures.small c.unsigned_abs-rise.ensures.value).0

pub overflow_cast-result-2 : goal.overflow_cast-result-2
overflow_cast-result-2 c =
    let few =
    (rows_read c.args.e c.args.p c.requires.edge_in_range c.requires.point_in_range c.requires.under c.turn_to.result c.rise.result c.unsigned_abs-turn.result c.unsigned_abs-rise.result
    c.turn_to.ensures.side c.turn_to.ensures.small c.unsigned_abs-turn.ensures.value c.rise.ensures.exact c.rise.ensures.small c.unsigned_abs-rise.ensures.value).2 in
    few_fit (c.unsigned_abs-turn.result * 2 ^ 30 / c.unsigned_abs-rise.result) few
  where
    few_fit : (n : ℕ) → n ≤ 2 ^ 29 → FitsSigned w32 (pos n)
    few_fit n few = omega (arith, lin, int_casts)

pub returns-clause-rows : goal.returns-clause-rows
returns-clause-rows c =
    let rows = c.unsigned_abs-turn.result * 2 ^ 30 / c.unsigned_abs-rise.result in
    let read =
    rows_read c.args.e c.args.p c.requires.edge_in_range c.requires.point_in_range c.requires.under c.turn_to.result c.rise.result c.unsigned_abs-turn.result c.unsigned_abs-rise.result
    c.turn_to.ensures.side c.turn_to.ensures.small c.unsigned_abs-turn.ensures.value c.rise.ensures.exact c.rise.ensures.small c.unsigned_abs-rise.ensures.value in
    let few = read.2 in
    subst (IsRowsDown c.args.e c.args.p) (sym (to_z_pos w32 rows (omega (arith, few)))) read.1

pub returns-clause-small : goal.returns-clause-small
returns-clause-small c =
    let rows = c.unsigned_abs-turn.result * 2 ^ 30 / c.unsigned_abs-rise.result in
    let read =
    rows_read c.args.e c.args.p c.requires.edge_in_range c.requires.point_in_range c.requires.under c.turn_to.result c.rise.result c.unsigned_abs-turn.result c.unsigned_abs-rise.result
    c.turn_to.ensures.side c.turn_to.ensures.small c.unsigned_abs-turn.ensures.value c.rise.ensures.exact c.rise.ensures.small c.unsigned_abs-rise.ensures.value in
    let few = read.2 in
    subst (IsWithin (2 ^ 29)) (sym (to_z_pos w32 rows (omega (arith, few)))) (few_within rows few)
  where
    few_within : (n : ℕ) → n ≤ 2 ^ 29 → IsWithin (2 ^ 29) (pos n)
    few_within n few = omega (arith, lin)
