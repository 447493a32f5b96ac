use Rattle.std.proofs.Common.{◌≡◌, ◌∙◌, ap, sym, arith}
use Rattle.distance_laws.specs.Room.{reach}
use Rattle.gap_width.proofs.Steps.{least_next}
use Rattle.gap_width.proofs.near.least_reach.Goals as goal
use Rattle.gap_width.proofs.near.least_reach.Goals.{then-here-least, else-here-least}

pub loop-o-init : goal.loop-o-init
loop-o-init c = record {
  each = λ k o below. absurd (omega (arith, below));
  some = (c.index-near-0.result, ((0, c.requires.some, sym c.index-near-0.is), ap (λ o. reach c.args.c o.edge) c.index-near-0.is ∙ sym c.reach-least.ensures.exact));
  small = c.reach-least.ensures.small;
}

pub loop-o-preserved : goal.loop-o-preserved
loop-o-preserved c =
    let so_far = c.loop-o.invariant in
    let o = c.o-item.result in
    let i = c.loop-o.o-index in
    let here = c.reach-here.result in
    let read = c.o-item.is in
    let exact : here ≡ reach c.args.c o.edge = c.reach-here.ensures.exact in
    elim c.if-here-least.branch [
      | then-here-least w ↦ record {
        each = least_next c.args.near.now c.args.c i o c.loop-o.least here c.if-here-least.least c.loop-o-test.true read exact (omega (arith, w.least-is, w.if-here-least.true)) (omega (arith, w.least-is)) so_far.each;
        some = (o, ((i, c.loop-o-test.true, sym read), sym exact ∙ sym w.least-is));
        small = omega (arith, w.least-is, c.reach-here.ensures.small);
      }
      | else-here-least w ↦ record {
        each = least_next c.args.near.now c.args.c i o c.loop-o.least here c.if-here-least.least c.loop-o-test.true read exact (omega (arith, w.least-is)) (omega (arith, w.least-is, w.if-here-least.false)) so_far.each;
        some = (so_far.some.0, (so_far.some.1.0, so_far.some.1.1 ∙ sym w.least-is));
        small = omega (arith, w.least-is, so_far.small);
      }
    ]
