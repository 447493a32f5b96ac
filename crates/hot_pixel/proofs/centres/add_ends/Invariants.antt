use Rattle.std.specs.Prelude.{Any, take}
use Rattle.hot_pixel.specs.Centres.{Gains, HasEnd}
use Rattle.hot_pixel.proofs.centres.add_ends.Given as goal

abbrev pub invariant-loop-s : goal.invariant-loop-s
invariant-loop-s l = Gains l.fn.centres.items l.centres.items (λ r. Any (λ s. HasEnd s r) (take l.s-index l.segs))
