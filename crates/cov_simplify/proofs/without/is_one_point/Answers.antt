use Rattle.std.proofs.Common.{sym, ◌+◌, ◌≤◌, ◌<◌, length, arith}
use Rattle.cov_simplify.proofs.Withouts.{all_equal, two_differ}
use Rattle.cov_simplify.proofs.without.is_one_point.Goals as goal

pub returns-then-ne : goal.returns-then-ne
returns-then-ne c = two_differ c.args.points.now c.loop-i.i _ c.ne.result c.loop-i.auto.i c.loop-i-test.true c.if-ne.true c.ne.ensures

pub returns : goal.returns
returns c = sym (all_equal c.args.points.now (λ k d within. c.loop-i.invariant k d (omega (arith, c.loop-i-test.false))))
