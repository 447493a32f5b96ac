use Rattle.std.specs.List.{IsFirstBest}
use Rattle.cov_rules.specs.EvenShare.{got_less}
use Rattle.cov_rules.proofs.even_share.EvenShare.least.Given as goal

abbrev pub invariant-loop-i : goal.invariant-loop-i
invariant-loop-i l = IsFirstBest (got_less l.self) l.candidates l.i l.best
