use Rattle.std.proofs.Common.{◌≡◌, ◌^◌, ◌∙◌, ap, int_le, pos, ◌+ℤ◌, ◌*ℤ◌, arith}
use Rattle.integer_laws.proofs.Ring.{lin}
use Rattle.cov_types.specs.declared.coord.Coord.{Coord}
use Rattle.cov_valid.proofs.Numbers.{read64, at_most_is, sweep_small}
use Rattle.cov_valid.proofs.placed.is_started.Goals as goal
use Rattle.plane.specs.Point.{at_coord}
use Rattle.plane.specs.Ray.{sweep}
use Rattle.plane.specs.Segment.{midpoint}

pub returns : goal.returns
unfolding sweep
returns c =
    let p = c.args.c in
    let s = c.args.s in
    let h = c.requires.segment_in_range in
    let point : c.sweep_of.result ≡ sweep (at_coord p) = c.sweep_of.ensures in
    let middle : c.sweep_of-2.result ≡ sweep (midpoint s) = c.sweep_of-2.ensures ∙ ap (λ (m : Coord). (pos (2 ^ 30) *ℤ m.x) +ℤ m.y) c.twice_middle.ensures in
    let of_point = sweep_small p.x p.y (omega (arith, lin, c.requires.point_in_range.left)) (omega (arith, lin, c.requires.point_in_range.right)) (omega (arith, lin, c.requires.point_in_range.bottom)) (omega (arith, lin, c.requires.point_in_range.top)) in
    let of_middle = sweep_small (s.lo.x +ℤ s.hi.x) (s.lo.y +ℤ s.hi.y) (omega (arith, lin, h.lo.left, h.hi.left)) (omega (arith, lin, h.lo.right, h.hi.right)) (omega (arith, lin, h.lo.bottom, h.hi.bottom)) (omega (arith, lin, h.lo.top, h.hi.top)) in
    (λ i. int_le (read64 (pos 2 *ℤ read64 (point i))) (read64 (middle i)))
    ∙ at_most_is (sweep (at_coord p)) (sweep (midpoint s)) of_point.0 of_point.1 of_middle.0 of_middle.1
