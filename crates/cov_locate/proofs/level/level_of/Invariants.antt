use Rattle.std.proofs.Common.{List, ◌++◌, length}
use Rattle.box_tree.specs.declared.rect.Rect.{Rect}
use Rattle.cov_locate.specs.Levels.{AreHullsBy}
use Rattle.cov_locate.proofs.level.level_of.Given as goal

abbrev pub decreases-loop-rest : goal.decreases-loop-rest
decreases-loop-rest l = length l.rest

abbrev pub invariant-loop-rest : goal.invariant-loop-rest
invariant-loop-rest l = (later : List Rect) → AreHullsBy l.width later l.rest → AreHullsBy l.width (l.hulls.items ++ later) l.boxes
