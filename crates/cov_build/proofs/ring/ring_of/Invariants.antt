use Rattle.std.proofs.Common.{◌≡◌, map, take}
use Rattle.cov_build.specs.Walks.{target_of}
use Rattle.cov_build.proofs.ring.ring_of.Given as goal

abbrev pub invariant-loop-h : goal.invariant-loop-h
invariant-loop-h l = l.points.items ≡ map (target_of l.a) (take l.h-index l.h-items)
