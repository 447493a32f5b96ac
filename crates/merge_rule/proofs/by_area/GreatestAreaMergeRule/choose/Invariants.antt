use Rattle.std.specs.List.{IsFirstBest}
use Rattle.merge_rule.proofs.Best.{has_more}
use Rattle.merge_rule.proofs.by_area.GreatestAreaMergeRule.choose.Given as goal

abbrev pub invariant-loop-i : goal.invariant-loop-i
invariant-loop-i l = IsFirstBest has_more l.candidates l.i l.best
