use Rattle.cov_valid.proofs.Peers.{AddsFirst}
use Rattle.cov_valid.proofs.among.Sides.add_kinds.Given as goal

abbrev pub invariant-loop-k : goal.invariant-loop-k
invariant-loop-k l = AddsFirst l.users l.holders l.fn.kinds.items l.k l.kinds.items
