use Rattle.std.proofs.Common.{ℕ, ◌<◌, length}
use Rattle.box_tree.specs.Levels.{level_at, number_above}
use Rattle.box_tree.proofs.tree.BoxTree.search.Given as goal

abbrev pub invariant-loop-place : goal.invariant-loop-place
invariant-loop-place g l = record {
  among : g.S.Search.is_among l.search (level_at l.self-inside.levels.items 0);
  settled : (k : ℕ) → k < length (level_at l.self-inside.levels.items 0) → number_above l.top k < l.place → g.S.Search.is_settled l.search k;
}
