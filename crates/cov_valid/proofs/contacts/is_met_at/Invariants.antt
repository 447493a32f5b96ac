use Rattle.std.specs.List.{AllWithin}
use Rattle.cov_valid.proofs.Meeting.{IsBadAt}
use Rattle.cov_valid.proofs.contacts.is_met_at.Given as goal

abbrev pub invariant-loop-k : goal.invariant-loop-k
invariant-loop-k l = AllWithin (λ k. ¬ IsBadAt l.groups l.s k) l.places 0 l.k-index
