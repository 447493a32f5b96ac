use Rattle.std.proofs.Common.{FitsSigned, ◌≡◌, ℤ, ◌+ℤ◌, ◌-ℤ◌, pos, neg_ℤ, to_z, of_z, ◌∙◌, rules, arith}
use Rattle.std.proofs.lemmas.Int.{ints, to_z-of_z}
use mir.Syntax.{w32}
use Rattle.box_tree.specs.Rect.{spanned}
use Rattle.cov_types.specs.declared.coord.TheConstants.{LIMIT}
use Rattle.hot_pixel.proofs.columns.columns_of.Goals as goal

read : ℤ → ℤ
read z = to_z w32 (of_z w32 z)

pub returns : goal.returns
unfolding read
returns c =
    let lo = c.requires.lo in
    let hi = c.requires.hi in
    let before : read (read c.args.s.lo.x -ℤ pos 1) ≡ c.args.s.lo.x -ℤ pos 1 = omega (arith, ints) in
    let after : read (read c.args.s.hi.x +ℤ pos 1) ≡ c.args.s.hi.x +ℤ pos 1 = omega (arith, ints) in
    c.spanning.ensures ∙ (λ i. spanned (record { x = before i; y = neg_ℤ LIMIT }) (record { x = after i; y = LIMIT }))
