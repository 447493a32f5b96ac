use Rattle.std.proofs.Common.{◌∙◌, ap, slice_index}
use Rattle.owner_label.proofs.Ready.{walked_overlay}
use Rattle.owner_label.proofs.labels.Labels.region_across.Goals as goal

pub returns-clause-across : goal.returns-clause-across
returns-clause-across c =
    rw (← c.self.view_is) (λ o overlay.
    c.region_of.ensures.numbering o.numbers (walked_overlay (record { edges = c.self.inside.edges.now; odd = c.self.inside.odd.now }) c.self.inside.regions.now c.self.inside.labels c.self.inside.sides c.self.invariant o overlay) ∙ ap (slice_index o.numbers) (c.number.ensures ∙ c.twin.ensures.across))
