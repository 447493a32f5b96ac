use Rattle.std.proofs.Common.{◌≡◌, ◌≤◌, ◌*◌, ◌^◌, take, unsigned_abs}
use Rattle.owner_label.proofs.Gains.{gains_of}
use Rattle.owner_label.proofs.labels.Labels.area2.Given as goal

abbrev pub invariant-loop-o : goal.invariant-loop-o
invariant-loop-o l = record {
  sum : l.area ≡ gains_of l.self l.member (take l.o-index l.o-items);
  small : unsigned_abs l.area ≤ l.o-index * 2 ^ 60;
}
