use Rattle.std.proofs.Common.{◌≡◌, take}
use Rattle.cover_cli.specs.Sample.{polygons_in}
use Rattle.cover_cli.proofs.counts.polygons_of.Given as goal

abbrev pub invariant-loop-member : goal.invariant-loop-member
invariant-loop-member l = l.count ≡ polygons_in (take l.member-index l.c)
