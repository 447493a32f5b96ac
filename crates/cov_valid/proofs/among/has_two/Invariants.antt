use Rattle.cov_valid.proofs.Peers.{AreOneAtMost}
use Rattle.cov_valid.proofs.among.has_two.Given as goal

abbrev pub invariant-loop-k : goal.invariant-loop-k
invariant-loop-k l = AreOneAtMost l.users l.held l.side l.k l.first
