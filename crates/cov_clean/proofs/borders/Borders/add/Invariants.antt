use Rattle.std.proofs.Common.{◌≡◌, length}
use Rattle.cov_clean.proofs.LongestSides.{AreAdded}
use Rattle.cov_clean.proofs.borders.Borders.add.Given as goal

abbrev pub invariant-loop-side : goal.invariant-loop-side
invariant-loop-side l = record {
  added : AreAdded l.sides l.side-index l.self.lengths.items;
  count : length l.self.lengths.items ≡ length l.initial.self.lengths.items;
}
