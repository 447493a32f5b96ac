-- The lists that were gone over are written.
use Rattle.std.proofs.Common.{◌≡◌, take, map}
use Rattle.cov_write.specs.Written.{lines_text}
use Rattle.cov_write.proofs.segment.lines_of.Given as goal

abbrev pub invariant-loop-segments : goal.invariant-loop-segments
invariant-loop-segments l = l.out.items ≡ lines_text l.scale (map (λ s. s.items) (take l.segments-index l.lists))
