use Rattle.std.proofs.Common.{◌≡◌, sym, ◌∙◌, ◌*◌, length, get_or}
use Rattle.face_walk.proofs.Marking.{IsFirstOf, first_stays, first_moves, walk_none, walk_more, walk_end}
use Rattle.face_walk.proofs.cycle.walk.Goals.{then-lt, else-lt}
use Rattle.face_walk.proofs.cycle.walk.Goals as goal

pub round-init : goal.round-init
round-init c = walk_none c.args.a.now c.args.start c.args.mark c.args.marks.now c.requires.before

pub round-preserved : goal.round-preserved
round-preserved c =
    let edges = c.args.a.now in
    let free : get_or c.round.marks c.round.h 0 ≡ 2 * length edges = c.round-test.true ∙ c.len-unmarked.ensures.count in
    let better : IsFirstOf edges c.round.first c.round.h c.if-lt.first = (elim c.if-lt.branch [
      | then-lt w ↦ first_moves edges _ _ _ _ c.origin.ensures c.origin-in-round.ensures _ c.lt.ensures _ w.first-is c.round.invariant.found.0 w.if-lt.true
      | else-lt w ↦ first_stays edges _ _ _ _ c.origin.ensures c.origin-in-round.ensures _ c.lt.ensures _ w.first-is w.if-lt.false
    ]) in
    walk_more edges c.len-unmarked.ensures.planar c.len-unmarked.ensures.distinct c.args.start c.args.mark c.requires.fresh c.args.marks.now c.round.h c.next-h.result c.round.first c.if-lt.first
    c.round.marks free c.next-h.ensures.next c.next-h.ensures.within better c.round.invariant

pub returns : goal.returns
returns c =
    let count = c.len-unmarked.ensures.count in
    walk_end c.args.a.now c.len-unmarked.ensures.planar c.len-unmarked.ensures.distinct c.args.start c.args.mark c.requires.fresh c.args.marks.now c.round.h c.round.first c.round.marks
    c.requires.before (λ same. c.round-test.false (same ∙ sym count)) c.round.invariant
