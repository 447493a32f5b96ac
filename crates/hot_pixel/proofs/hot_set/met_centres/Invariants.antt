use Rattle.std.proofs.Common.{take}
use mathlib.Core.List.{[]}
use Rattle.std.specs.Prelude.{Any}
use Rattle.hot_pixel.specs.Centres.{Gains, HasMetCentre}
use Rattle.hot_pixel.proofs.hot_set.met_centres.Given as goal

abbrev pub invariant-loop-k : goal.invariant-loop-k
invariant-loop-k l = Gains [] l.met.items (λ r. Any (HasMetCentre l.s l.centres r) (take l.k-index l.near))
