use Rattle.std.proofs.Common.{sym, subst, get_or, arith}
use Rattle.cov_types.specs.Range.{IsSegInRange}
use Rattle.box_tree.specs.Rect.{IsInside}
use Rattle.gap_width.proofs.Round.{whole, edge_in_whole, lower_in, upper_in, inside_more, inside_all}
use Rattle.gap_width.proofs.block.hull_of_edges.Goals as goal

pub loop-o-init : goal.loop-o-init
loop-o-init c =
    let o = c.index-own-0.result in
    record {
      each = λ k d below. absurd (omega (arith, below));
      within = subst (λ b. IsInside b whole) (sym c.of_segment-hull.ensures) (edge_in_whole (get_or c.args.own.now 0 o).edge (c.requires.edges 0 o c.requires.some).edge);
    }

pub loop-o-preserved : goal.loop-o-preserved
loop-o-preserved c =
    let so_far = c.loop-o.invariant in
    let o = c.o-item.result in
    let i = c.loop-o.o-index in
    let in_range = subst (λ x. IsSegInRange x.edge) (sym c.o-item.is) (c.requires.edges i o c.loop-o-test.true).edge in
    let has = c.hull-hull.ensures in
    record {
      each = inside_more c.args.own.now i c.loop-o.hull c.hull-hull.result o c.loop-o-test.true c.o-item.is has.has_self (subst (λ b. IsInside b c.hull-hull.result) c.of_segment.ensures has.has_other) so_far.each;
      within = has.least whole so_far.within (subst (λ b. IsInside b whole) (sym c.of_segment.ensures) (edge_in_whole o.edge in_range));
    }

pub returns-clause-each : goal.returns-clause-each
returns-clause-each c = inside_all c.args.own.now c.loop-o.o-index c.loop-o.hull c.loop-o-test.false c.loop-o.invariant.each

pub returns-clause-lower : goal.returns-clause-lower
returns-clause-lower c = lower_in c.loop-o.hull c.loop-o.invariant.within

pub returns-clause-upper : goal.returns-clause-upper
returns-clause-upper c = upper_in c.loop-o.hull c.loop-o.invariant.within
