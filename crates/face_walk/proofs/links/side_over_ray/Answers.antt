use Rattle.std.proofs.Common.{slice_index}
use Rattle.face_walk.proofs.Cycles.{cycle_read}
use Rattle.face_walk.proofs.LinksDown.{answers_shut, answers_later, answers_side, differs}
use Rattle.face_walk.proofs.links.side_over_ray.Goals as goal

pub origin-requires-2 : goal.origin-requires-2
origin-requires-2 c =
    let edges = c.args.a.now in
    let of = c.args.cycles.now.of.items in
    let list = c.args.cycles.now.list.items in
    let at = cycle_read edges of list c.requires.cycles c.next-side.result c.index.result.now c.index-cycle.result.now c.next-side.ensures.within c.index.ensures c.index-cycle.ensures in
    record { within = (c.requires.cycles.ends (slice_index of c.next-side.result) c.index-cycle.result.now at).first_within }

pub returns-then-ne : goal.returns-then-ne
returns-then-ne c =
    let edges = c.args.a.now in
    let of = c.args.cycles.now.of.items in
    let list = c.args.cycles.now.list.items in
    let side = c.next-side.result in
    let cycle = c.index-cycle.result.now in
    let at = cycle_read edges of list c.requires.cycles side c.index.result.now cycle c.next-side.ensures.within c.index.ensures c.index-cycle.ensures in
    answers_later edges of list c.args.h side cycle c.origin.result c.origin-2.result c.next-side.ensures.within (c.requires.cycles.ends (slice_index of side) cycle at).first_within at
    (c.requires.cycles.each side cycle c.next-side.ensures.within at).no_earlier c.next-side.ensures.only c.origin.ensures c.origin-2.ensures
    (differs c.origin.result c.origin-2.result c.ne.result c.ne.ensures c.if-ne.true)

pub returns-then-opens_down : goal.returns-then-opens_down
returns-then-opens_down c =
    answers_side c.args.a.now c.args.cycles.now.of.items c.args.cycles.now.list.items c.args.h c.next-side.result c.opens_down.result c.opens_down.ensures c.if-opens_down.true c.next-side.ensures.next
    c.next-side.ensures.only

pub returns-else-opens_down : goal.returns-else-opens_down
returns-else-opens_down c =
    answers_shut c.args.a.now c.args.cycles.now.of.items c.args.cycles.now.list.items c.len-sides.ensures.planar c.args.h c.opens_down.result c.opens_down.ensures c.if-opens_down.false
