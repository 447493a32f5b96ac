use Rattle.std.specs.List.{IsFirstBest}
use Rattle.merge_rule.proofs.Best.{is_longer}
use Rattle.merge_rule.proofs.by_border.LongestBorderMergeRule.choose.Given as goal

abbrev pub invariant-loop-i : goal.invariant-loop-i
invariant-loop-i l = IsFirstBest is_longer l.candidates l.i l.best
