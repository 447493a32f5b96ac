use Rattle.std.proofs.Common.{◌≡◌, ◌+◌, length}
use Rattle.cov_valid.proofs.Judging.{AddsMeets}
use Rattle.cov_valid.proofs.kinds.add_meets.Given as goal

abbrev pub invariant-loop : goal.invariant-loop
invariant-loop l = (length l.kinds.items + l.fn.group.from ≡ length l.fn.kinds.items + l.counter) × AddsMeets l.fn.kinds.items l.kinds.items
