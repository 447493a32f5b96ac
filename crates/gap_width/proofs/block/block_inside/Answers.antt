use Rattle.gap_width.proofs.Round.{in_hull, in_inner, inner_read, inner_order, none_between}
use Rattle.std.proofs.Common.{arith}
use Rattle.gap_width.proofs.block.block_inside.Goals as goal
use Rattle.gap_width.proofs.block.block_inside.Goals.{then-length_between-lt2-via-then-length_between-lt2, then-length_between-lt2-via-else-length_between-lt2+then-length_between-lt2-2}

pub returns-then-length_between-lt2-clause-wide : goal.returns-then-length_between-lt2-clause-wide
returns-then-length_between-lt2-clause-wide c = λ edges r are q is.
    let hull = c.hull_of_edges-hull.result in
    let lo = c.hull_of_edges-hull.ensures.lower in
    let hi = c.hull_of_edges-hull.ensures.upper in
    let within = in_hull edges r c.args.own.now hull are c.hull_of_edges-hull.ensures.each q is in
    elim c.then-length_between-lt2.branch [
      | then-length_between-lt2-via-then-length_between-lt2 w ↦ none_between hull.lo.x hull.hi.x q.x c.length_between.result lo.left hull.across hi.right c.length_between.ensures w.if-length_between-lt2.true within.0.0 within.0.1
      | then-length_between-lt2-via-else-length_between-lt2+then-length_between-lt2-2 w ↦
          none_between hull.lo.y hull.hi.y q.y w.length_between-else-length_between-lt2.result lo.bottom hull.upright hi.top w.length_between-else-length_between-lt2.ensures w.if-length_between-lt2-2.true within.1.0 within.1.1
    ]

pub returns-clause-block : goal.returns-clause-block
returns-clause-block c =
    let hull = c.hull_of_edges-hull.result in
    let lo = c.hull_of_edges-hull.ensures.lower in
    let hi = c.hull_of_edges-hull.ensures.upper in
    let x = inner_order hull.lo.x hull.hi.x _ _ c.length_between.result lo.left hull.across hi.right c.length_between.ensures (omega (arith, c.if-length_between-lt2.false)) (inner_read hull.lo.x hull.hi.x lo.left hull.across hi.right) in
    let y = inner_order hull.lo.y hull.hi.y _ _ c.length_between-else-length_between-lt2.result lo.bottom hull.upright hi.top c.length_between-else-length_between-lt2.ensures (omega (arith, c.if-length_between-lt2-2.false))
    (inner_read hull.lo.y hull.hi.y lo.bottom hull.upright hi.top) in
    record { left = x.0.0; across = x.0.1; right = x.1; bottom = y.0.0; upwards = y.0.1; top = y.1 }

pub returns-clause-wide : goal.returns-clause-wide
returns-clause-wide c = λ edges r are q is.
    let hull = c.hull_of_edges-hull.result in
    let lo = c.hull_of_edges-hull.ensures.lower in
    let hi = c.hull_of_edges-hull.ensures.upper in
    in_inner hull q _ _ (inner_read hull.lo.x hull.hi.x lo.left hull.across hi.right) (inner_read hull.lo.y hull.hi.y lo.bottom hull.upright hi.top)
    (in_hull edges r c.args.own.now hull are c.hull_of_edges-hull.ensures.each q is)
