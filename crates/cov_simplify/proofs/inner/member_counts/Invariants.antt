use Rattle.std.proofs.Common.{◌≡◌, ◌≤◌, length, take}
use Rattle.cov_simplify.specs.Inner.{AreMemberCounts}
use Rattle.cov_simplify.proofs.inner.member_counts.Given as goal

abbrev pub invariant-loop-o : goal.invariant-loop-o
invariant-loop-o l = record {
  within : l.o-index ≤ length l.o-items;
  same : l.o-items ≡ l.live.odd.items;
  long : length l.counts.items ≡ length l.live.edges.items;
  counts : AreMemberCounts (take l.o-index l.o-items) l.counts.items;
}
