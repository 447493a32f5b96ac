use Rattle.std.proofs.Common.{◌≡◌, ℕ, ◌<◌, ◌≤◌, get_or}
use Rattle.cov_valid.specs.declared.entry.Entry.{Entry}
use Rattle.cov_valid.proofs.group.end_of_group.Given as goal

abbrev pub invariant-loop-to : goal.invariant-loop-to
invariant-loop-to l = (k : ℕ) (d : Entry) → l.from ≤ k → k < l.to → (get_or l.entries k d).seg ≡ (get_or l.entries l.from d).seg
