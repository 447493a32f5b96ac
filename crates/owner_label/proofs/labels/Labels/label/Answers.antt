use Rattle.owner_label.specs.Lists.{sided_of}
use Rattle.owner_label.proofs.Overlays.{region_within, label_value, label_points, label_outer, label_differs, some_overlay}
use Rattle.owner_label.proofs.labels.Labels.label.Goals as goal

pub label-requires : goal.label-requires
label-requires c =
    let region = rw (← c.self.view_is) at c.requires.region in
    record { within = region_within (sided_of (record { edges = c.self.inside.edges.now; odd = c.self.inside.odd.now }) c.self.invariant.numbers) c.self.invariant.tables.sided c.self.inside.labels c.self.invariant.tables.labels c.args.region region }

pub returns-clause-label : goal.returns-clause-label
returns-clause-label c =
    let region = rw (← c.self.view_is) at c.requires.region in
    rw (← c.self.view_is) (label_value (sided_of (record { edges = c.self.inside.edges.now; odd = c.self.inside.odd.now }) c.self.invariant.numbers) c.self.invariant.tables.sided _ c.self.invariant.tables.labels c.args.region region _ c.label.ensures)

pub returns-clause-points : goal.returns-clause-points
returns-clause-points c =
    let region = rw (← c.self.view_is) at c.requires.region in
    rw (← c.self.view_is) (label_points (sided_of (record { edges = c.self.inside.edges.now; odd = c.self.inside.odd.now }) c.self.invariant.numbers) c.self.invariant.tables.sided _ c.self.invariant.tables.labels c.args.region region _ c.label.ensures)

pub returns-clause-outer : goal.returns-clause-outer
returns-clause-outer c =
    let region = rw (← c.self.view_is) at c.requires.region in
    rw (← c.self.view_is) (label_outer (sided_of (record { edges = c.self.inside.edges.now; odd = c.self.inside.odd.now }) c.self.invariant.numbers) c.self.invariant.tables.sided _ c.self.invariant.tables.labels c.args.region region _ c.label.ensures)

pub returns-clause-sides : goal.returns-clause-sides
returns-clause-sides c =
    let region = rw (← c.self.view_is) at c.requires.region in
    rw (← c.self.view_is) (label_differs (sided_of (record { edges = c.self.inside.edges.now; odd = c.self.inside.odd.now }) c.self.invariant.numbers) c.self.invariant.tables.sided _ c.self.invariant.tables.labels c.args.region region _ c.label.ensures)

pub returns-clause-some : goal.returns-clause-some
returns-clause-some c = rw (← c.self.view_is) (some_overlay (sided_of (record { edges = c.self.inside.edges.now; odd = c.self.inside.odd.now }) c.self.invariant.numbers) c.self.invariant.tables.sided)
