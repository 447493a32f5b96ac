use Rattle.std.proofs.Common.{◌≡◌, take}
use Rattle.std.specs.Prelude.{filter}
use Rattle.box_tree.specs.Rect.{is_touching}
use Rattle.box_tree.proofs.Narrowed.{passes_at}
use Rattle.box_tree.proofs.narrow.narrow_into.Given as goal

abbrev pub invariant-loop-k : goal.invariant-loop-k
invariant-loop-k l = l.found.items ≡ filter (passes_at (is_touching l.own) l.boxes) (take l.k-index l.wide)
