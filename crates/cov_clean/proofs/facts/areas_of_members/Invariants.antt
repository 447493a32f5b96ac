use Rattle.std.proofs.Common.{◌≡◌}
use Rattle.cov_clean.specs.Asked.{member_areas}
use Rattle.cov_clean.proofs.facts.areas_of_members.Given as goal

abbrev pub invariant-loop-member : goal.invariant-loop-member
invariant-loop-member l = l.areas.items ≡ member_areas l.labels l.member
