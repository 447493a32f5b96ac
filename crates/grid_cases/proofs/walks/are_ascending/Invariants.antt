use Rattle.std.proofs.Common.{ℕ, ◌<◌, get_or, IsTrue}
use Rattle.cov_types.specs.Seg.{is_seg_before}
use Rattle.cov_types.specs.declared.seg.Seg.{Seg}
use Rattle.grid_cases.proofs.walks.are_ascending.Given as goal

abbrev pub invariant-loop-i : goal.invariant-loop-i
invariant-loop-i l = (a b : ℕ) (d : Seg) → a < b → b < l.i → IsTrue (is_seg_before (get_or l.edges a d) (get_or l.edges b d))
