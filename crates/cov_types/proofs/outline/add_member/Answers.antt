use Rattle.std.proofs.Common.{◌≡◌, ◌<◌, List, length, get_or, sym, ap, ◌∙◌, arith}
use Rattle.cov_types.proofs.Added.{adds-part}
use Rattle.cov_types.specs.Rings.{poly_rings}
use Rattle.cov_types.proofs.outline.add_member.Goals as goal
use Rattle.cov_types.specs.declared.coord.Coord.{Coord}

pub loop-poly-preserved : goal.loop-poly-preserved
loop-poly-preserved c =
    let i = c.loop-poly.poly-index in
    let poly = c.poly-item.result in
    let same : c.deref-poly-items.result.now ≡ c.args.member.now = c.deref-poly-items.ensures.value ∙ c.member.view_is in
    let within : i < length c.args.member.now = omega (arith, ap length same) in
    let at : get_or c.args.member.now i poly ≡ poly = sym (c.poly-item.is ∙ ap (λ (polys : List (List (List Coord))). get_or polys i poly) same) in
    adds-part (poly_rings c.args.number) c.args.outline.now c.loop-poly.outline c.add_poly.new.outline c.args.member.now i poly within at c.loop-poly.invariant c.in_ok-add_poly.ensures
