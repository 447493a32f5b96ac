use Rattle.std.proofs.Common.{◌≡◌, sym, ◌∙◌, ap, refl, length, Some, ◌∷◌, ◌++◌, [], slice_get}
use Rattle.std.proofs.lemmas.Option.{slice_get_read}
use Rattle.line_walk.specs.declared.edge_end.EdgeEnd.{EdgeEnd}
use Rattle.line_walk.proofs.EndsOf.{ends_step}
use Rattle.line_walk.proofs.edge_end.ends_of.Goals as goal

pub loop-k-preserved : goal.loop-k-preserved
loop-k-preserved c =
    let edges = c.args.edges.now in
    let k = c.loop-k.k in
    let e = c.index-edges-k.result in
    let at : slice_get edges k ≡ Some e = slice_get_read edges (length edges) k e refl c.loop-k-test.true c.index-edges-k.is in
    let lo : EdgeEnd = record { vertex = e.lo; edge = k } in
    let hi : EdgeEnd = record { vertex = e.hi; edge = k } in
    let step = ends_step edges k e at in
    let first = c.in_ok-push.ensures.items in
    let second = c.in_ok-push-2.ensures.items in
    second ∙ ap (λ xs. xs ++ hi ∷ []) (first ∙ ap (λ xs. xs ++ lo ∷ []) c.loop-k.invariant) ∙ sym step
