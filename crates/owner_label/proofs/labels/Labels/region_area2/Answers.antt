use mir.Syntax.{w128}
use Rattle.std.proofs.Common.{◌∙◌, ◌<◌, ◌^◌, ℤ, ap, to_z, arith}
use Rattle.std.proofs.lemmas.List.{take_all}
use Rattle.crossing_laws.specs.Crossing.{int_sum_by}
use Rattle.owner_label.specs.Lists.{sided_of}
use Rattle.owner_label.specs.Sides.{side_area}
use Rattle.owner_label.proofs.Gains.{sum_is, sum_small, int_sum_more}
use Rattle.owner_label.proofs.Overlays.{sides_within, sides_here, sides_small}
use Rattle.owner_label.proofs.Ready.{tables_of}
use Rattle.owner_label.proofs.Sums.{area_is}
use Rattle.owner_label.proofs.labels.Labels.region_area2.Goals as goal

pub group-side-items-requires : goal.group-side-items-requires
group-side-items-requires c =
    let region = rw (← c.self.view_is) at c.requires.region in
    record { within = sides_within (sided_of (record { edges = c.self.inside.edges.now; odd = c.self.inside.odd.now }) c.self.invariant.numbers) c.self.invariant.tables.sided c.self.inside.sides c.self.invariant.tables.sides c.args.region region }

pub area_of_side-area-requires-clause-within : goal.area_of_side-area-requires-clause-within
area_of_side-area-requires-clause-within c = omega (arith, c.of_number.ensures, (sides_small (sided_of (record { edges = c.self.inside.edges.now; odd = c.self.inside.odd.now }) c.self.invariant.numbers) c.self.invariant.tables.sided c.self.inside.sides c.self.invariant.tables.sides c.args.region c.group-side-items.result.now c.group-side-items.ensures) c.loop-side.side-index 0 c.loop-side-test.true)

pub area_of_side-area-requires-clause-in_range : goal.area_of_side-area-requires-clause-in_range
area_of_side-area-requires-clause-in_range c = c.self.invariant.tables.sided.planar.in_range

pub loop-side-preserved : goal.loop-side-preserved
loop-side-preserved c =
    rw (← c.self.view_is) (
    let so_far = rw (← c.self.view_is) at c.loop-side.invariant in
    let side = c.area_of_side-area.ensures in
    let area : ℤ = to_z w128 c.loop-side.area-bits in
    let below : c.loop-side.side-index < 2 ^ 64 = omega arith in
    record {
      sum = sum_is area c.area_of_side-area.result c.loop-side.side-index so_far.small side.small below
          ∙ int_sum_more (side_area c.self.inside.edges.now) c.group-side-items.result.now c.loop-side.side-index area c.area_of_side-area.result c.loop-side-test.true so_far.sum (side.exact ∙ ap (side_area c.self.inside.edges.now) c.of_number.ensures);
      small = sum_small area c.area_of_side-area.result c.loop-side.side-index so_far.small side.small below;
    })

pub returns : goal.returns
returns c =
    let sum = rw (← c.self.view_is) at c.loop-side.invariant.sum in
    rw (← c.self.view_is) (λ o overlay.
    let tables = tables_of (record { edges = c.self.inside.edges.now; odd = c.self.inside.odd.now }) c.self.inside.regions.now c.self.inside.labels c.self.inside.sides c.self.invariant o overlay in
    let items = sides_here (sided_of (record { edges = c.self.inside.edges.now; odd = c.self.inside.odd.now }) o.numbers) tables.sided c.self.inside.sides tables.sides c.args.region c.group-side-items.result.now c.group-side-items.ensures in
    sum ∙ ap (λ ns. int_sum_by (side_area c.self.inside.edges.now) ns) (take_all c.loop-side.side-index c.group-side-items.result.now c.loop-side-test.false)
    ∙ area_is (record { edges = c.self.inside.edges.now; odd = c.self.inside.odd.now }) o overlay c.args.region c.group-side-items.result.now items)
