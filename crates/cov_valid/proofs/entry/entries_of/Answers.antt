use Rattle.std.proofs.Common.{refl}
use Rattle.cov_valid.proofs.Sorting.{placed_more}
use Rattle.cov_valid.proofs.entry.entries_of.Goals as goal

pub loop-place-preserved : goal.loop-place-preserved
loop-place-preserved c =
    placed_more c.args.uses.now c.loop-place.place c.loop-place.entries.items c.push.new.self.items c.index-uses-place.result _
    c.loop-place-test.true c.index-uses-place.is refl refl refl c.curve.ensures c.in_ok-push.ensures.items c.loop-place.invariant
