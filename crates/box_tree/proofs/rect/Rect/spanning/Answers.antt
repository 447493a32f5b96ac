use Rattle.std.proofs.Common.{FitsSigned, rules}
use Rattle.std.proofs.lemmas.Int.{to_z-of_z}
use mir.Syntax.{w32}
use Rattle.box_tree.proofs.Same.{same_rects, same_coords}
use Rattle.box_tree.specs.Rect.{spanned}
use Rattle.box_tree.proofs.rect.Rect.spanning.Goals as goal

pub returns : goal.returns
returns c =
    let a1 : FitsSigned w32 c.args.a.x = search rules in
    let a2 : FitsSigned w32 c.args.a.y = search rules in
    let b1 : FitsSigned w32 c.args.b.x = search rules in
    let b2 : FitsSigned w32 c.args.b.y = search rules in
    let r1 : FitsSigned w32 c.lesser.result = search rules in
    let r2 : FitsSigned w32 c.lesser-2.result = search rules in
    let r3 : FitsSigned w32 c.greater.result = search rules in
    let r4 : FitsSigned w32 c.greater-2.result = search rules in
    let left = simp to_z-of_z at c.lesser.ensures.value in
    let bottom = simp to_z-of_z at c.lesser-2.ensures.value in
    let right = simp to_z-of_z at c.greater.ensures.value in
    let top = simp to_z-of_z at c.greater-2.ensures.value in
    same_rects _ (spanned c.args.a c.args.b) (same_coords _ _ (simp to_z-of_z left) (simp to_z-of_z bottom)) (same_coords _ _ (simp to_z-of_z right) (simp to_z-of_z top))
