use Rattle.std.proofs.Common.{ℕ, ◌-◌, ◌*◌, ◌<◌, ◌≤◌, length}
use Rattle.box_tree.specs.Levels.{level_at, number_above}
use Rattle.box_tree.proofs.search.+search_under.Given as goal

abbrev pub decreases-search_under : goal.decreases-search_under
decreases-search_under g l = l.level

abbrev pub invariant-loop-child : goal.invariant-loop-child
invariant-loop-child g l = record {
  among : g.S.Search.is_among l.search (level_at l.levels 0);
  kept : (j : ℕ) → g.S.Search.is_settled l.fn.search j → g.S.Search.is_settled l.search j;
  settled : (k : ℕ) → k < length (level_at l.levels 0) → 8 * l.place ≤ number_above (l.level - 1) k → number_above (l.level - 1) k < l.child → g.S.Search.is_settled l.search k;
}
