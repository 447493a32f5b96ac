use Rattle.std.proofs.lemmas.Bool.{iff_false}
use Rattle.cov_valid.proofs.CornerFaults.{two_at, apart_more, alone}
use Rattle.cov_valid.proofs.corners.has_two.Goals as goal

pub returns-then-are_alike-clause-two : goal.returns-then-are_alike-clause-two
returns-then-are_alike-clause-two c = λ told.
    two_at c.args.entries.now c.loop-k.k c.index-entries-k.result c.index-entries-k-in-loop-k.result c.loop-k.auto.k c.loop-k-test.true c.index-entries-k.is c.index-entries-k-in-loop-k.is
    (c.are_alike.ensures.0 c.if-are_alike.true)

pub loop-k-preserved : goal.loop-k-preserved
loop-k-preserved c =
    apart_more c.args.entries.now c.loop-k.k c.index-entries-k.result c.index-entries-k-in-loop-k.result c.loop-k.auto.k c.loop-k-test.true c.index-entries-k.is c.index-entries-k-in-loop-k.is
    (iff_false c.are_alike.ensures c.if-are_alike.false) c.loop-k.invariant

pub returns-clause-alone : goal.returns-clause-alone
returns-clause-alone c = λ told. alone c.args.entries.now c.loop-k.k c.requires c.loop-k-test.false c.loop-k.invariant
