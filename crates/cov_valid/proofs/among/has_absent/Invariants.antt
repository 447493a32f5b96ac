use Rattle.std.proofs.Common.{◌≡◌, ℕ, ◌<◌, true, get_or}
use Rattle.cov_valid.proofs.among.has_absent.Given as goal

abbrev pub invariant-loop-is_present : goal.invariant-loop-is_present
invariant-loop-is_present l = (k : ℕ) → k < l.is_present-index → get_or l.present k true ≡ true
