use Rattle.std.proofs.Common.{arith}
use Rattle.visvalingam.proofs.Begun.{line_linked}
use Rattle.visvalingam.proofs.begin.first_links.Goals as goal

pub loop-line-preserved : goal.loop-line-preserved
loop-line-preserved c = record {
  count = omega (arith, c.in_ok-push.ensures.len, c.loop-line.invariant.count);
  each = line_linked c.args.lines.now c.loop-line.links.items c.push.new.self.items c.in_ok-first.field-0 c.loop-line.line-index c.line-item.result c.line-item.is c.loop-line.invariant.count c.in_ok-push.ensures.items (λ points long. c.in_ok-first.ensures points (omega (arith, long, c.len.ensures, c.line-item.result.ok.0))) c.loop-line.invariant.each;
}

pub returns : goal.returns
returns c = (
  let past = c.loop-line-test.false in let end = c.loop-line.auto.line-index-end in let count = c.loop-line.invariant.count in omega arith,
  c.loop-line.invariant.each,
)
