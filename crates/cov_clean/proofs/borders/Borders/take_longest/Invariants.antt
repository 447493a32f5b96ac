use Rattle.std.proofs.Common.{◌≡◌, length}
use Rattle.cov_clean.proofs.LongestSides.{IsBestSoFar}
use Rattle.cov_clean.proofs.borders.Borders.take_longest.Given as goal

abbrev pub invariant-loop-side : goal.invariant-loop-side
invariant-loop-side l = record {
  best : IsBestSoFar l.sides l.side-index l.self.lengths.items l.best;
  count : length l.self.lengths.items ≡ length l.initial.self.lengths.items;
}
