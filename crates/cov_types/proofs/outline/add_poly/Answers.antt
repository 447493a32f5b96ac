use Rattle.std.proofs.Common.{◌≡◌, ◌<◌, List, length, get_or, sym, ap, ◌∙◌, arith}
use Rattle.cov_types.proofs.Added.{adds-ring}
use Rattle.cov_types.proofs.outline.add_poly.Goals as goal
use Rattle.cov_types.specs.declared.coord.Coord.{Coord}

pub loop-ring-preserved : goal.loop-ring-preserved
loop-ring-preserved c =
    let i = c.loop-ring.ring-index in
    let ring = c.ring-item.result in
    let same : c.deref-ring-items.result.now ≡ c.args.poly.now = c.deref-ring-items.ensures.value ∙ c.poly.view_is in
    let within : i < length c.args.poly.now = omega (arith, ap length same) in
    let at : get_or c.args.poly.now i ring ≡ ring = sym (c.ring-item.is ∙ ap (λ (rings : List (List Coord)). get_or rings i ring) same) in
    adds-ring c.args.outline.now c.loop-ring.outline c.add_ring.new.outline c.args.member c.args.poly.now i ring within at c.loop-ring.invariant c.in_ok-add_ring.ensures
