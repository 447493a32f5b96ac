use Rattle.std.proofs.Common.{◌≡◌, ◌∙◌, ap, ◌^◌, ◌+◌, ℤ, pos, neg_ℤ, ◌+ℤ◌, ◌-ℤ◌, lit<, arith}
use mir.Syntax.{w32}
use Rattle.integer_laws.proofs.Bound.{within_sum, within_difference, within_pos}
use Rattle.integer_laws.proofs.Ring.{lin}
use Rattle.box_tree.specs.Curve.{curve_of}
use Rattle.grid_pred.proofs.Sizes.{x_within, y_within}
use Rattle.grid_pred.proofs.Small.{read, read_within, plus_is}
use Rattle.face_walk.proofs.edge_tree.curve_down.Goals as goal

negated : (s : ℤ) → pos 0 -ℤ s ≡ neg_ℤ s
negated s = omega (arith, lin)

pub returns : goal.returns
returns c =
    let e = c.args.e in
    let h = c.requires in
    let sum = e.lo.y +ℤ e.hi.y in
    let x = plus_is w32 e.lo.x e.hi.x (2 ^ 28) (2 ^ 28) (lit< tt) (lit< tt) (x_within e.lo h.lo) (x_within e.hi h.hi) (lit< tt) in
    let y = plus_is w32 e.lo.y e.hi.y (2 ^ 28) (2 ^ 28) (lit< tt) (lit< tt) (y_within e.lo h.lo) (y_within e.hi h.hi) (lit< tt) in
    let small = within_difference (within_pos 0) (within_sum (y_within e.lo h.lo) (y_within e.hi h.hi)) in
    let turned = ap (λ (z : ℤ). read w32 (pos 0 -ℤ z)) y ∙ read_within w32 (pos 0 -ℤ sum) (0 + (2 ^ 28 + 2 ^ 28)) (lit< tt) small ∙ negated sum in
    c.curve.ensures ∙ (λ i. curve_of (record { x = x i; y = turned i }))
