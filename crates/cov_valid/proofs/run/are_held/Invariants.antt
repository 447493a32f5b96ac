use Rattle.std.proofs.Common.{◌≡◌, ◌%◌, ◌==◌, count_by, take}
use Rattle.cov_valid.proofs.run.are_held.Given as goal
use Rattle.plane.specs.Ray.{is_over}
use Rattle.plane.specs.Segment.{midpoint}

abbrev pub invariant-loop-u : goal.invariant-loop-u
invariant-loop-u l = l.holds ≡ (count_by (λ u. is_over u.seg (midpoint l.s)) (take l.u-index l.uses) % 2 == 1)
