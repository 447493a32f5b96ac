use Rattle.std.proofs.Common.{◌≡◌, ◌∙◌, sym, subst, Bool, ◌&&◌, IsTrue, ◌↔◌, FitsSigned, rules}
use Rattle.std.proofs.lemmas.Int.{to_z-of_z}
use mir.Syntax.{w64}
use Rattle.plane.specs.Segment.{turn_of}
use Rattle.greedy_run.specs.Run.{IsInTriangle}
use Rattle.cov_cells.specs.Tests.{are_one_way, is_amid}
use Rattle.cov_cells.proofs.Triangles.{in_triangle_is}
use Rattle.cov_cells.proofs.triangle.is_in_triangle.Goals as goal

pub returns : goal.returns
returns c =
    let a = c.args.a in
    let b = c.args.b in
    let d = c.args.c in
    let p = c.args.p in
    let fx : FitsSigned w64 c.turn_in_range-from_ab.result = search rules in
    let fy : FitsSigned w64 c.turn_in_range-from_bc.result = search rules in
    let fz : FitsSigned w64 c.turn_in_range-from_ca.result = search rules in
    let tests : c.are_one_way.result ≡ are_one_way c.turn_in_range-from_ab.result c.turn_in_range-from_bc.result c.turn_in_range-from_ca.result = simp to_z-of_z at c.are_one_way.ensures in
    let is : (c.are_one_way.result && c.is_amid.result) ≡ (are_one_way (turn_of a b p) (turn_of b d p) (turn_of d a p) && is_amid a b d p) =
    (λ i. tests i && c.is_amid.ensures i)
    ∙ (λ i. are_one_way (c.turn_in_range-from_ab.ensures.exact i) (c.turn_in_range-from_bc.ensures.exact i) (c.turn_in_range-from_ca.ensures.exact i) && is_amid a b d p) in
    subst (λ (v : Bool). IsTrue v ↔ IsInTriangle (record { a = a; b = b; c = d }) p) (sym is)
    (in_triangle_is (record { a = a; b = b; c = d }) p c.requires.a_in_range c.requires.b_in_range c.requires.c_in_range c.requires.p_in_range)
