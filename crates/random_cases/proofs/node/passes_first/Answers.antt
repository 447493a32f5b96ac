-- The tests before the call have just what it asks.
use Rattle.random_cases.proofs.node.passes_first.Goals as goal

pub before-requires-clause-meets_a : goal.before-requires-clause-meets_a
before-requires-clause-meets_a c = c.meets.ensures.0 c.if-not-meets.false

pub before-requires-clause-meets_b : goal.before-requires-clause-meets_b
before-requires-clause-meets_b c = c.meets-2.ensures.0 c.if-not-meets-2.false
