use Rattle.std.proofs.Common.{◌≡◌, ◌∙◌, sym, subst, ◌+◌, ◌*◌, take, length, get_or, None, arith}
use Rattle.std.proofs.lemmas.List.{with_items_is}
use Rattle.cov_build.specs.Boundaries.{AreBoundaries, AreAdded, boundary_edge}
use Rattle.cov_build.specs.Parted.{is_part}
use Rattle.cov_build.proofs.BoundaryLists.{boundaries-more, part_is_at}
use Rattle.cov_build.proofs.boundary.boundaries.Goals as goal

pub loop-k-preserved : goal.loop-k-preserved
loop-k-preserved c =
    let parts = c.args.parts.now in
    let k = c.loop-k.k in
    let e = c.index-edges-k.result in
    let before = c.loop-k.lists.items in
    let after = c.add_edge.new.lists in
    let added : AreAdded (λ p. boundary_edge (is_part (get_or parts (2 * k) None) p) (is_part (get_or parts (2 * k + 1) None) p) e) before after =
    subst (λ ls. AreAdded (λ p. boundary_edge (is_part (get_or parts (2 * k) None) p) (is_part (get_or parts (2 * k + 1) None) p) e) ls after) c.deref_mut.ensures.value c.in_ok-add_edge.ensures in
    let size : length after ≡ length before = added.count in
    let made = with_items_is c.loop-k.lists after (size ∙ omega (arith, c.loop-k.lists.ok.0)) in
    subst (AreBoundaries parts (take (k + 1) c.args.edges.now)) (sym made)
    (boundaries-more parts c.args.edges.now k e (get_or parts (2 * k) None) (get_or parts (2 * k + 1) None) before after c.loop-k-test.true c.index-edges-k.is
    (sym (part_is_at parts (2 * k))) (sym (part_is_at parts (2 * k + 1))) added c.loop-k.invariant)
