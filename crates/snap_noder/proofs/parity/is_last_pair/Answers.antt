use Rattle.snap_noder.proofs.Lasts.{is_last_told}
use Rattle.snap_noder.proofs.OddOrder.{is_same_odd, Decides-same_odds}
use Rattle.snap_noder.proofs.parity.is_last_pair.Goals as goal

pub returns-in-Some : goal.returns-in-Some
returns-in-Some c = is_last_told is_same_odd Decides-same_odds c.args.pairs.now c.in-Some.last.now c.args.o c.eq.result c.in-Some.ensures.value c.eq.ensures
