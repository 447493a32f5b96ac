use Rattle.std.proofs.Common.{◌∙◌, ◌+◌}
use Rattle.jittered_grid.proofs.Cells.{ring_of-corners, eight-drawn}
use Rattle.jittered_grid.proofs.cell.ring.Goals as goal

pub returns-clause-points : goal.returns-clause-points
returns-clause-points c = λ seed count h.
    let two = c.corner.ensures.drawn seed count h in
    let four = c.corner-2.ensures.drawn seed (count + 2) two in
    let six = c.corner-3.ensures.drawn seed (count + 2 + 2) four in
    c.in_ok-from_slice.ensures.items ∙ ring_of-corners seed count c.args.column c.args.row _ _ _ _ (c.corner.ensures.point seed count h)
    (c.corner-2.ensures.point seed (count + 2) two) (c.corner-3.ensures.point seed (count + 2 + 2) four) (c.corner-4.ensures.point seed (count + 2 + 2 + 2) six)

pub returns-clause-drawn : goal.returns-clause-drawn
returns-clause-drawn c = λ seed count h.
    let two = c.corner.ensures.drawn seed count h in
    let four = c.corner-2.ensures.drawn seed (count + 2) two in
    let six = c.corner-3.ensures.drawn seed (count + 2 + 2) four in
    eight-drawn c.corner-4.new.draws seed count (c.corner-4.ensures.drawn seed (count + 2 + 2 + 2) six)
