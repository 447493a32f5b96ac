use Rattle.std.proofs.Common.{ℕ, ◌≤◌, ◌^◌, List}
use Rattle.cov_types.specs.declared.seg.Seg.{Seg}
use Rattle.gap_width.specs.Own.{AreOwn}
use Rattle.gap_width.specs.Search.{IsKnown, IsBest}
use Rattle.gap_width.proofs.search.coarse_room.Given as goal

abbrev pub invariant-loop-finest : goal.invariant-loop-finest
invariant-loop-finest l = record {
  small : l.most ≤ 2 ^ 31;
  some : (edges : List Seg) (r : ℕ) → AreOwn edges r l.own → IsKnown edges r l.whole.block → IsBest edges r 0 l.whole.block l.best l.most;
}

abbrev pub decreases-loop-finest : goal.decreases-loop-finest
decreases-loop-finest l = l.finest
