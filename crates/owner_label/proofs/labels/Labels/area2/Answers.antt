use mir.Syntax.{w128}
use Rattle.std.proofs.Common.{◌∙◌, ◌<◌, ◌^◌, ℤ, to_z, arith}
use Rattle.owner_label.proofs.Gains.{sum_is, sum_small, gains_place, gains_more, gains_whole}
use Rattle.owner_label.proofs.labels.Labels.area2.Goals as goal

pub odd_of-o-items-requires : goal.odd_of-o-items-requires
odd_of-o-items-requires c = record { ascending = c.self.invariant.tables.sided.ascending }

pub gain-area-requires : goal.gain-area-requires
gain-area-requires c =
    rw (← c.self.view_is) (record {
      within = gains_place (record { edges = c.self.inside.edges.now; odd = c.self.inside.odd.now }) c.self.invariant.tables.sided.places c.args.member c.odd_of-o-items.result.now c.odd_of-o-items.ensures c.loop-o.o-index _ c.loop-o-test.true;
    })

pub loop-o-preserved : goal.loop-o-preserved
loop-o-preserved c =
    let place = gains_place (record { edges = c.self.inside.edges.now; odd = c.self.inside.odd.now }) c.self.invariant.tables.sided.places c.args.member c.odd_of-o-items.result.now c.odd_of-o-items.ensures c.loop-o.o-index _ c.loop-o-test.true in
    let so_far = rw (← c.self.view_is) at c.loop-o.invariant in
    let pair = rw (← c.self.view_is) at c.gain-area.ensures in
    let area : ℤ = to_z w128 c.loop-o.area-bits in
    let below : c.loop-o.o-index < 2 ^ 64 = omega arith in
    rw (← c.self.view_is) (record {
      sum = sum_is area c.gain-area.result c.loop-o.o-index so_far.small pair.small below
          ∙ gains_more (record { edges = c.self.inside.edges.now; odd = c.self.inside.odd.now }) c.args.member c.odd_of-o-items.result.now c.odd_of-o-items.ensures c.loop-o.o-index _ c.loop-o-test.true place area c.gain-area.result so_far.sum pair.exact;
      small = sum_small area c.gain-area.result c.loop-o.o-index so_far.small pair.small below;
    })

pub returns : goal.returns
returns c =
    let sum = rw (← c.self.view_is) at c.loop-o.invariant.sum in
    rw (← c.self.view_is) (gains_whole (record { edges = c.self.inside.edges.now; odd = c.self.inside.odd.now }) c.args.member c.odd_of-o-items.result.now c.loop-o.o-index _ c.odd_of-o-items.ensures c.loop-o-test.false sum)
