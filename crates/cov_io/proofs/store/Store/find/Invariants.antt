use Rattle.std.proofs.Common.{◌≢◌, ℕ, ◌<◌}
use Rattle.cov_io.specs.Entry.{entry_at}
use Rattle.cov_io.proofs.store.Store.find.Given as goal

abbrev pub invariant-loop-i : goal.invariant-loop-i
invariant-loop-i l = (k : ℕ) → k < l.i → (entry_at l.self.entries k).name ≢ l.name
