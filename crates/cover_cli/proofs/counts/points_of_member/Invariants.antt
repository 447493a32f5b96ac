use Rattle.std.proofs.Common.{◌≡◌, take}
use Rattle.cover_cli.specs.Sample.{member_points}
use Rattle.cover_cli.proofs.counts.points_of_member.Given as goal

abbrev pub invariant-loop-poly : goal.invariant-loop-poly
invariant-loop-poly l = l.count ≡ member_points (take l.poly-index l.member)
