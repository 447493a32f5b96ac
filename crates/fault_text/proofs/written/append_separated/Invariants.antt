-- The rest that was gone over is written, each item after its comma.
use Rattle.std.proofs.Common.{◌≡◌, ◌++◌, take}
use Rattle.std.specs.Prelude.{codes}
use Rattle.std.specs.List.{flat_map}
use Rattle.fault_text.proofs.written.append_separated.Given as goal

abbrev pub invariant-loop-item : goal.invariant-loop-item
invariant-loop-item g l =
    l.out.items ≡ l.initial.out.items ++ flat_map (λ y. codes "," ++ g.T.Written.text l.scale y) (take l.item-index l.rest)
