use Rattle.std.proofs.Common.{◌++◌, List, length}
use Rattle.box_tree.specs.Hulls.{AreHulls}
use Rattle.box_tree.specs.declared.rect.Rect.{Rect}
use Rattle.box_tree.proofs.hulls.hulls_of.Given as goal

abbrev pub invariant-loop-rest : goal.invariant-loop-rest
invariant-loop-rest l = (more : List Rect) → AreHulls more l.rest → AreHulls (l.hulls.items ++ more) l.boxes

abbrev pub decreases-loop-rest : goal.decreases-loop-rest
decreases-loop-rest l = length l.rest
