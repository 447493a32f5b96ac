use Rattle.std.proofs.Common.{◌<◌, length, get_or, subst, sym}
use Rattle.std.proofs.lemmas.List.{get_or_default}
use Rattle.cov_types.specs.declared.seg.Seg.{Seg}
use Rattle.half_edge.proofs.Deciding.{by_true}
use Rattle.half_edge.proofs.Places.{all_more, read_at}
use Rattle.plane.specs.Noded.{MeetInEnds}
use Rattle.half_edge.proofs.noded.meets_in_ends_at.Goals as goal

pub loop-k-preserved : goal.loop-k-preserved
loop-k-preserved c =
    let edges = c.args.edges.now in
    let places = c.args.places.now in
    let i = c.loop-k.k-index in
    let k = get_or places i 0 in
    let within : k < length edges = c.requires.within i 0 c.loop-k-test.true in
    all_more (λ j. (d : Seg) → MeetInEnds c.args.e (get_or edges j d)) places i k c.loop-k.invariant c.loop-k-test.true (get_or_default places i 0 k c.loop-k-test.true)
    (λ d. subst (MeetInEnds c.args.e) (sym (read_at edges k c.index-edges-k.result d within c.index-edges-k.is)) (by_true c.meets_in_ends.result c.meets_in_ends.ensures c.if-not-meets_in_ends.false))
