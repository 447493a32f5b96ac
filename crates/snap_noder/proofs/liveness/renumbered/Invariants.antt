use Rattle.std.proofs.Common.{◌≡◌, map, take}
use Rattle.std.specs.Prelude.{slice_index}
use Rattle.snap_noder.proofs.liveness.renumbered.Given as goal

abbrev pub invariant-loop-pair : goal.invariant-loop-pair
invariant-loop-pair l = l.new.items ≡ map (λ o. record { member = o.member; edge = slice_index l.numbers o.edge }) (take l.pair-index l.odd)
