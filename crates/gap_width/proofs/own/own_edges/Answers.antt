use Rattle.std.proofs.Common.{◌≡◌, ◌∙◌, ◌++◌, ap, sym, subst, take, ◌+◌}
use mathlib.Core.List.{[], ◌∷◌}
use Rattle.std.proofs.lemmas.List.{take_more}
use Rattle.std.proofs.lemmas.List.Elements.{All-contains}
use Rattle.cov_types.specs.Range.{IsSegInRange}
use Rattle.sector_laws.proofs.Numbers.{half_edge_among, half_edge_at}
use Rattle.gap_width.specs.Own.{AreOfSides}
use Rattle.gap_width.proofs.OwnSides.{sides_more}
use Rattle.gap_width.proofs.own.own_edges.Goals as goal

pub loop-side-preserved : goal.loop-side-preserved
loop-side-preserved c =
    let edges = c.args.edges.now in
    let sides = c.args.sides.now in
    let i = c.loop-side.side-index in
    let n = c.of_number.result.number in
    let o = c.own_edge.result in
    let next : take (i + 1) sides ≡ take i sides ++ n ∷ [] = take_more sides i 0 c.loop-side-test.true ∙ ap (λ m. take i sides ++ m ∷ []) (sym c.of_number.ensures) in
    let among = half_edge_among edges n _ (half_edge_at edges n o.edge c.own_edge.ensures.edge) in
    let in_range = All-contains IsSegInRange edges o.edge c.requires.in_range among in
    subst (λ ns. AreOfSides edges ns c.push.new.self.items) (sym next)
    (sides_more edges (take i sides) n c.loop-side.own.items c.push.new.self.items o c.requires.in_range c.own_edge.ensures.edge c.own_edge.ensures.weight in_range c.in_ok-push.ensures.items c.loop-side.invariant)
