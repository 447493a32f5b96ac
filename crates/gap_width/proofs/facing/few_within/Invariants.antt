use Rattle.std.proofs.Common.{◌*◌, take, filter, nat_lt}
use Rattle.distance_laws.specs.Room.{reach}
use Rattle.gap_width.specs.Facing.{AreFew}
use Rattle.gap_width.proofs.facing.few_within.Given as goal

abbrev pub invariant-loop-o : goal.invariant-loop-o
invariant-loop-o l = AreFew l.few (filter (λ o. nat_lt (reach l.c o.edge) (l.room * l.room)) (take l.o-index l.near))
