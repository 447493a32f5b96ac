use Rattle.std.specs.List.{IsFirstBest}
use Rattle.merge_rule.proofs.Best.{has_less}
use Rattle.merge_rule.proofs.by_area.LeastAreaMergeRule.choose.Given as goal

abbrev pub invariant-loop-i : goal.invariant-loop-i
invariant-loop-i l = IsFirstBest has_less l.candidates l.i l.best
