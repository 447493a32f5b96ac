use Rattle.std.proofs.Common.{◌∙◌, ap, length, arith}
use Rattle.face_walk.proofs.Searching.{places_of, first_more, first_sorted}
use Rattle.face_walk.proofs.edge_tree.places_down.Goals as goal

pub loop-place-preserved : goal.loop-place-preserved
loop-place-preserved c = first_more c.loop-place.place c.curve_down.result c.loop-place.keyed.items c.push.new.self.items c.in_ok-push.ensures.items c.loop-place.invariant

pub returns : goal.returns
returns c =
    first_sorted (length c.args.edges.now) c.loop-place.place c.loop-place.keyed.items c.sort_unstable.new.self.items c.in_ok-places.places.items
    (omega (arith, c.loop-place-test.false, c.loop-place.auto.place-end)) c.loop-place.invariant c.sort_unstable.ensures.permutation (c.in_ok-places.ensures ∙ ap places_of c.as_slice.ensures.value)
