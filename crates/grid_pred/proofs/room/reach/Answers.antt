use Rattle.std.proofs.Common.{◌≡◌, sym, subst, ◌/◌, ◌≤◌, ◌^◌, pos, ◌≤ℤ◌, ◌<ℤ◌, ◌*ℤ◌, unsigned_abs, arith, rules}
use Rattle.std.proofs.lemmas.Int.{ints}
use Rattle.distance_laws.specs.Room.{foot, half_side, squared_length}
use Rattle.integer_laws.proofs.Ring.{lin}
use Rattle.grid_pred.proofs.Rooms.{leads_from, squared_by, reach_of_lo, reach_of_hi, reach_of_line, foot_by, length_by, twice_length, side_by, square_by, line_within}
use Rattle.grid_pred.proofs.room.reach.Goals as goal

pub returns-then-foot-le0-clause-exact : goal.returns-then-foot-le0-clause-exact
returns-then-foot-le0-clause-exact c =
    let p = c.half.ensures in
    let v = c.vector_from-from_lo in
    let u = c.vector_of-along in
    let l = leads_from c.args.e.lo c.args.c _ _ _ _ p.x p.y p.d v.ensures.x v.ensures.y in
    let is = foot_by c.args.c c.args.e u.result v.result u.ensures.x u.ensures.y l c.scalar-foot.result c.scalar-foot.ensures.exact in
    reach_of_lo c.args.c c.args.e c.squared.result (omega (arith, ints, lin, c.if-foot-le0.true)) (squared_by c.args.e.lo c.args.c _ _ l c.squared.ensures.exact)

pub returns-then-length-foot-clause-exact : goal.returns-then-length-foot-clause-exact
returns-then-length-foot-clause-exact c =
    let p = c.half.ensures in
    let v = c.vector_from-from_lo in
    let u = c.vector_of-along in
    let l = leads_from c.args.e.lo c.args.c _ _ _ _ p.x p.y p.d v.ensures.x v.ensures.y in
    let is = foot_by c.args.c c.args.e u.result v.result u.ensures.x u.ensures.y l c.scalar-foot.result c.scalar-foot.ensures.exact in
    let twice = twice_length c.squared-length.result c.args.e (length_by c.args.c c.args.e u.result u.ensures.x u.ensures.y c.squared-length.result c.squared-length.ensures.exact) in
    let after : pos 0 <ℤ foot c.args.c c.args.e = omega (arith, ints, lin, c.if-foot-le0.false) in
    let past : (pos 2 *ℤ squared_length c.args.e) ≤ℤ foot c.args.c c.args.e = omega (arith, ints, lin, c.if-foot-le0.false, c.if-length-foot.true) in
    let q = c.half-then-length-foot.ensures in
    let w = c.vector_from in
    reach_of_hi c.args.c c.args.e c.squared-then-length-foot.result after past
    (squared_by c.args.e.hi c.args.c _ _ (leads_from c.args.e.hi c.args.c _ _ _ _ q.x q.y q.d w.ensures.x w.ensures.y) c.squared-then-length-foot.ensures.exact)

-- the square of the side, and the squared length of the edge
square_is : (c : goal.After-unsigned_abs) → c.unsigned_abs.result ≡ unsigned_abs (half_side c.args.c c.args.e *ℤ half_side c.args.c c.args.e)
square_is c =
    let p = c.half.ensures in
    let v = c.vector_from-from_lo in
    let l = leads_from c.args.e.lo c.args.c _ _ _ _ p.x p.y p.d v.ensures.x v.ensures.y in
    square_by c.side_of-side.result c.wide_product.result _ _ (search rules) (search rules) (side_by c.args.c c.args.e v.result l _ c.side_of-side.ensures) c.wide_product.ensures.exact c.unsigned_abs.ensures.value

length_is : (c : goal.After-unsigned_abs) → c.squared-length.result ≡ unsigned_abs (squared_length c.args.e)
length_is c =
    let u = c.vector_of-along in
    length_by c.args.c c.args.e u.result u.ensures.x u.ensures.y c.squared-length.result c.squared-length.ensures.exact

small : (c : goal.After-unsigned_abs) → c.unsigned_abs.result / c.squared-length.result ≤ 2 ^ 61
small c =
    let p = c.half.ensures in
    let v = c.vector_from-from_lo in
    let l = leads_from c.args.e.lo c.args.c _ _ _ _ p.x p.y p.d v.ensures.x v.ensures.y in
    subst (λ n. n ≤ 2 ^ 61) (λ i. sym (square_is c) i / sym (length_is c) i) (line_within c.args.c c.args.e v.result l v.ensures.small)

pub overflow_cast-result-2 : goal.overflow_cast-result-2
overflow_cast-result-2 c = let below = small c in omega (arith, ints)

pub returns-clause-small : goal.returns-clause-small
returns-clause-small c = small c

pub returns-clause-exact : goal.returns-clause-exact
returns-clause-exact c =
    let p = c.half.ensures in
    let v = c.vector_from-from_lo in
    let u = c.vector_of-along in
    let l = leads_from c.args.e.lo c.args.c _ _ _ _ p.x p.y p.d v.ensures.x v.ensures.y in
    let is = foot_by c.args.c c.args.e u.result v.result u.ensures.x u.ensures.y l c.scalar-foot.result c.scalar-foot.ensures.exact in
    let twice = twice_length c.squared-length.result c.args.e (length_is c) in
    let after : pos 0 <ℤ foot c.args.c c.args.e = omega (arith, ints, lin, c.if-foot-le0.false) in
    let before : foot c.args.c c.args.e <ℤ (pos 2 *ℤ squared_length c.args.e) = omega (arith, ints, lin, c.if-foot-le0.false, c.if-length-foot.false) in
    reach_of_line c.args.c c.args.e _ after before (λ i. square_is c i / length_is c i)
