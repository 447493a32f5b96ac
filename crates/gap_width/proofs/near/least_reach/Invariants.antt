use Rattle.std.proofs.Common.{◌≡◌, ℕ, ◌<◌, ◌≤◌, ◌^◌, get_or, Contains}
use Rattle.distance_laws.specs.Room.{reach}
use Rattle.gap_width.specs.declared.own.OwnEdge.{OwnEdge}
use Rattle.gap_width.proofs.near.least_reach.Given as goal

abbrev pub invariant-loop-o : goal.invariant-loop-o
invariant-loop-o l = record {
  each : (k : ℕ) (o : OwnEdge) → k < l.o-index → get_or l.near k o ≡ o → l.least ≤ reach l.c o.edge;
  some : (o : OwnEdge) × (Contains l.near o × (reach l.c o.edge ≡ l.least));
  small : l.least ≤ 2 ^ 61;
}
