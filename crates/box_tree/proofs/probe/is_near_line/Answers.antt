use Rattle.std.proofs.Common.{◌≡◌, ◌∙◌, ◌&&◌, ◌||◌, ℤ, pos, neg_ℤ, ◌-ℤ◌, int_le, FitsSigned, ap, arith, rules}
use Rattle.std.proofs.lemmas.Int.{ints, to_z-of_z}
use mir.Syntax.{w32, w64}
use Rattle.integer_laws.proofs.Ring.{lin}
use Rattle.box_tree.proofs.probe.is_near_line.Goals as goal

minus : (x : ℤ) → pos 0 -ℤ x ≡ neg_ℤ x
minus x = omega (arith, lin)

pub returns : goal.returns
returns c =
    let b1 : FitsSigned w32 c.args.b.lo.x = search rules in
    let b2 : FitsSigned w32 c.args.b.hi.x = search rules in
    let b3 : FitsSigned w32 c.args.b.lo.y = search rules in
    let b4 : FitsSigned w32 c.args.b.hi.y = search rules in
    let f1 : FitsSigned w64 c.twice_turn-lower_left.result = search rules in
    let f2 : FitsSigned w64 c.twice_turn-lower_right.result = search rules in
    let f3 : FitsSigned w64 c.twice_turn-upper_left.result = search rules in
    let f4 : FitsSigned w64 c.twice_turn-upper_right.result = search rules in
    let f5 : FitsSigned w64 c.reach-reach.result = search rules in
    let small = c.reach-reach.ensures.small in
    let f6 : FitsSigned w64 (pos 0 -ℤ c.reach-reach.result) = omega (arith, ints) in
    let t1 = simp to_z-of_z at c.twice_turn-lower_left.ensures in
    let t2 = simp to_z-of_z at c.twice_turn-lower_right.ensures in
    let t3 = simp to_z-of_z at c.twice_turn-upper_left.ensures in
    let t4 = simp to_z-of_z at c.twice_turn-upper_right.ensures in
    let r = c.reach-reach.ensures.exact in
    let back = minus c.reach-reach.result ∙ ap neg_ℤ r in
    simp to_z-of_z (λ i. (int_le (t1 i) (r i) || int_le (t2 i) (r i) || int_le (t3 i) (r i) || int_le (t4 i) (r i))
    && (int_le (back i) (t1 i) || int_le (back i) (t2 i) || int_le (back i) (t3 i) || int_le (back i) (t4 i)))
