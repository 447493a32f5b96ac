use Rattle.std.proofs.Common.{ℕ, ◌<◌, ◌≤◌, length, get_or}
use Rattle.cov_valid.proofs.Presence.{ArePresentTo}
use Rattle.cov_valid.proofs.present.present_into.Given as goal

abbrev pub invariant-loop-n : goal.invariant-loop-n
invariant-loop-n l =
    (l.at ≤ length l.list) × ((k d e j : ℕ) → k < l.at → l.n-index ≤ j → j < length l.numbers → get_or l.list k d < get_or l.numbers j e) × ArePresentTo l.numbers l.list l.n-index l.present.items
