use Rattle.std.specs.Prelude.{Any, take}
use Rattle.hot_pixel.specs.Centres.{Gains, CrossAt}
use Rattle.hot_pixel.proofs.crossings.add_crossings_of.Given as goal

abbrev pub invariant-loop-k : goal.invariant-loop-k
invariant-loop-k l = Gains l.fn.centres.items l.centres.items (λ r. Any (λ k. CrossAt l.segs l.i k r) (take l.k-index l.near))
