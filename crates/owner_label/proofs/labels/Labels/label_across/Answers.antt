use Rattle.owner_label.proofs.Ready.{label_beside}
use Rattle.owner_label.proofs.Sides.{across_within}
use Rattle.owner_label.proofs.labels.Labels.label_across.Goals as goal

pub returns : goal.returns
returns c =
    let within = rw (← c.self.view_is) at c.requires.within in
    let region = rw (← c.self.view_is) at c.region_across.ensures.across in
    rw (← c.self.view_is) (λ o overlay.
    label_beside (record { edges = c.self.inside.edges.now; odd = c.self.inside.odd.now }) c.self.inside.regions.now c.self.inside.labels c.self.inside.sides c.self.invariant o overlay _ (across_within c.args.side.number _ within) c.region_across.result (region o overlay) c.label.result.now c.label.ensures)
