use Rattle.std.proofs.Common.{◌≡◌, ◌≤◌, ◌<◌, ◌∙◌, ap, length, map, arith}
use Rattle.std.proofs.lemmas.List.{length-map}
use Rattle.box_tree.specs.Rect.{box_of_segment}
use Rattle.half_edge.proofs.Deciding.{iff_false, by_true, by_false}
use Rattle.half_edge.proofs.Meeting.{in_hull, near_found, near_within, meet_all, meet_near, noded_more, not_noded_at}
use Rattle.half_edge.proofs.noded.are_noded_from.Goals as goal

pub narrow_into-requires-clause-about : goal.narrow_into-requires-clause-about
narrow_into-requires-clause-about c =
    let boxes = c.boxes-boxes.result.now in
    let same : boxes ≡ map box_of_segment c.args.edges.now = c.boxes-boxes.ensures ∙ c.requires.boxed in
    let end : c.args.to ≤ length boxes = omega (arith, ap length same, length-map c.args.edges.now box_of_segment, c.requires.within) in
    in_hull boxes c.args.from c.args.to c.loop-k.k c.hull_of-round.result c.index-boxes-k.result c.hull_of-round.ensures c.loop-k.auto.k c.loop-k-test.true end c.index-boxes-k.is

pub meets_in_ends_at-requires-clause-within : goal.meets_in_ends_at-requires-clause-within
meets_in_ends_at-requires-clause-within c =
    let within : c.loop-k.k < length c.args.edges.now = omega (arith, c.loop-k-test.true, c.requires.within) in
    near_within c.index-edges-k.result c.args.edges.now c.deref-in-loop-k.result.now
    (near_found c.args.edges.now c.boxes-boxes.result.now c.loop-k.k c.index-edges-k.result c.index-boxes-k.result c.deref-in-loop-k.result.now _ (c.boxes-boxes.ensures ∙ c.requires.boxed) within c.index-edges-k.is c.index-boxes-k.is
    c.deref-in-loop-k.ensures.value c.in_ok-narrow_into.ensures)

pub returns-then-not-meets_in_ends_at : goal.returns-then-not-meets_in_ends_at
returns-then-not-meets_in_ends_at c =
    let e = c.index-edges-k.result in
    let within : c.loop-k.k < length c.args.edges.now = omega (arith, c.loop-k-test.true, c.requires.within) in
    let found =
    near_found c.args.edges.now c.boxes-boxes.result.now c.loop-k.k e c.index-boxes-k.result c.deref-in-loop-k.result.now _ (c.boxes-boxes.ensures ∙ c.requires.boxed) within c.index-edges-k.is c.index-boxes-k.is c.deref-in-loop-k.ensures.value
    c.in_ok-narrow_into.ensures in
    iff_false
    (not_noded_at c.args.edges.now c.args.from c.args.to c.loop-k.k e c.loop-k.auto.k c.loop-k-test.true within c.index-edges-k.is
    (λ all. by_false c.meets_in_ends_at.result c.meets_in_ends_at.ensures c.if-not-meets_in_ends_at.true (meet_near e c.args.edges.now c.deref-in-loop-k.result.now found all)))

pub loop-k-preserved : goal.loop-k-preserved
loop-k-preserved c =
    let e = c.index-edges-k.result in
    let within : c.loop-k.k < length c.args.edges.now = omega (arith, c.loop-k-test.true, c.requires.within) in
    let found =
    near_found c.args.edges.now c.boxes-boxes.result.now c.loop-k.k e c.index-boxes-k.result c.deref-in-loop-k.result.now _ (c.boxes-boxes.ensures ∙ c.requires.boxed) within c.index-edges-k.is c.index-boxes-k.is c.deref-in-loop-k.ensures.value
    c.in_ok-narrow_into.ensures in (
      c.loop-k.invariant.0,
      noded_more c.args.edges.now c.args.from c.loop-k.k e within c.index-edges-k.is
          (meet_all e c.args.edges.now c.deref-in-loop-k.result.now found (by_true c.meets_in_ends_at.result c.meets_in_ends_at.ensures c.if-not-meets_in_ends_at.false))
          c.loop-k.invariant.1,
    )
