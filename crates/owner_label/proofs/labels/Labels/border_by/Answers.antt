use Rattle.std.proofs.Common.{◌∙◌, ap, sum_by, arith}
use Rattle.std.proofs.lemmas.List.{take_all}
use Rattle.owner_label.specs.Labelled.{owner_in}
use Rattle.owner_label.specs.Lists.{sided_of}
use Rattle.owner_label.specs.Sides.{side_length, is_owned}
use Rattle.owner_label.proofs.Overlays.{sides_within, sides_here, sides_small}
use Rattle.owner_label.proofs.Ready.{tables_of}
use Rattle.owner_label.proofs.Sums.{border_is, border_more}
use Rattle.owner_label.proofs.labels.Labels.border_by.Goals as goal

pub group-side-items-requires : goal.group-side-items-requires
group-side-items-requires c =
    let region = rw (← c.self.view_is) at c.requires.region in
    record { within = sides_within (sided_of (record { edges = c.self.inside.edges.now; odd = c.self.inside.odd.now }) c.self.invariant.numbers) c.self.invariant.tables.sided c.self.inside.sides c.self.invariant.tables.sides c.args.region region }

pub length_if_owned-border-requires-clause-within : goal.length_if_owned-border-requires-clause-within
length_if_owned-border-requires-clause-within c = rw (← c.self.view_is) (omega (arith, c.of_number.ensures, (sides_small (sided_of (record { edges = c.self.inside.edges.now; odd = c.self.inside.odd.now }) c.self.invariant.numbers) c.self.invariant.tables.sided c.self.inside.sides c.self.invariant.tables.sides c.args.region c.group-side-items.result.now c.group-side-items.ensures) c.loop-side.side-index 0 c.loop-side-test.true))

pub loop-side-preserved : goal.loop-side-preserved
loop-side-preserved c =
    let step = c.length_if_owned-border.ensures in
    record {
      sum = λ o overlay. border_more (side_length o (is_owned o (owner_in c.args.owners.now) c.args.member)) c.group-side-items.result.now c.loop-side.side-index c.loop-side.border c.length_if_owned-border.result c.loop-side-test.true (c.loop-side.invariant.sum o overlay) (step.exact o overlay ∙ ap (side_length o (is_owned o (owner_in c.args.owners.now) c.args.member)) c.of_number.ensures);
      small = omega (arith, c.loop-side.invariant.small, step.small);
    }

pub returns : goal.returns
returns c =
    let sum = rw (← c.self.view_is) at c.loop-side.invariant.sum in
    rw (← c.self.view_is) (λ o overlay.
    let tables = tables_of (record { edges = c.self.inside.edges.now; odd = c.self.inside.odd.now }) c.self.inside.regions.now c.self.inside.labels c.self.inside.sides c.self.invariant o overlay in
    let items = sides_here (sided_of (record { edges = c.self.inside.edges.now; odd = c.self.inside.odd.now }) o.numbers) tables.sided c.self.inside.sides tables.sides c.args.region c.group-side-items.result.now c.group-side-items.ensures in
    sum o overlay ∙ ap (λ ns. sum_by (side_length o (is_owned o (owner_in c.args.owners.now) c.args.member)) ns) (take_all c.loop-side.side-index c.group-side-items.result.now c.loop-side-test.false)
    ∙ border_is (record { edges = c.self.inside.edges.now; odd = c.self.inside.odd.now }) o overlay tables.sided c.args.region (is_owned o (owner_in c.args.owners.now) c.args.member) c.group-side-items.result.now items)
