use Rattle.std.proofs.Common.{◌≡◌, take}
use Rattle.cover_cli.specs.Sample.{points_in}
use Rattle.cover_cli.proofs.counts.points_of.Given as goal

abbrev pub invariant-loop-member : goal.invariant-loop-member
invariant-loop-member l = l.count ≡ points_in (take l.member-index l.c)
