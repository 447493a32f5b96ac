use Rattle.std.proofs.Common.{◌≡◌, take}
use Rattle.integer_laws.specs.Bound.{IsWithin}
use Rattle.crossing_laws.specs.Crossing.{crossing_sum}
use Rattle.clearance_laws.specs.Inside.{half_point}
use Rattle.gap_width.specs.Own.{weighed}
use Rattle.gap_width.proofs.own.weight_over.Given as goal

abbrev pub invariant-loop-o : goal.invariant-loop-o
invariant-loop-o l = record {
  sum : l.weight ≡ crossing_sum (weighed (take l.o-index l.own)) (half_point l.c);
  small : IsWithin l.o-index l.weight;
}
