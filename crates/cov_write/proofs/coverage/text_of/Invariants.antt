-- The members that were gone over are written.
use Rattle.std.proofs.Common.{◌≡◌, take}
use Rattle.cov_write.specs.Written.{coverage_text}
use Rattle.cov_write.proofs.coverage.text_of.Given as goal

abbrev pub invariant-loop-member : goal.invariant-loop-member
invariant-loop-member l = l.out.items ≡ coverage_text l.scale (take l.member-index l.member-items)
