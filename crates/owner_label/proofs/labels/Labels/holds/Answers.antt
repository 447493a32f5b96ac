use Rattle.std.proofs.Common.{◌∙◌, ap, slice_index}
use Rattle.owner_label.proofs.Ready.{walked_numbers, held_at}
use Rattle.owner_label.proofs.labels.Labels.holds.Goals as goal

pub returns : goal.returns
returns c =
    rw (← c.self.view_is) (λ p at.
    let region = c.region_of.ensures.numbering c.self.invariant.numbers (walked_numbers (record { edges = c.self.inside.edges.now; odd = c.self.inside.odd.now }) c.self.inside.regions.now c.self.inside.labels c.self.inside.sides c.self.invariant) ∙ ap (slice_index c.self.invariant.numbers) c.number.ensures in
    c.contains.ensures.value ∙ held_at (record { edges = c.self.inside.edges.now; odd = c.self.inside.odd.now }) c.self.inside.regions.now c.self.inside.labels c.self.inside.sides c.self.invariant c.args.side.number p at c.region_of.result region c.label.result.now c.label.ensures c.args.member)
