-- The order of uses and of odd pairs.
use Rattle.std.specs.Prelude.{◌≡◌, false, IsTrue, List, AllPairs}
use Rattle.std.specs.Ordering.{nat_cmp, ordering_then}
use Rattle.std.specs.declared.cmp.Ordering.{Ordering}
use Rattle.cov_types.specs.declared.edge_use.EdgeUse.{EdgeUse}
use Rattle.cov_types.specs.Seg.{is_seg_before}
use Rattle.arrangement.specs.Noding.{is_odd_before}
use Rattle.arrangement.specs.declared.odd_use.OddUse.{OddUse}

-- what `cmp` answers of two odd pairs
abbrev pub odd_cmp : OddUse → OddUse → Ordering
odd_cmp o p = ordering_then (nat_cmp o.member p.member) (nat_cmp o.edge p.edge)

-- the odd pairs ascend, each of them once
abbrev pub AreOddAscending : List OddUse → Type 0
AreOddAscending odd = AllPairs (λ o p. IsTrue (is_odd_before o p)) odd

-- no use comes after one whose segment is greater
abbrev pub AreBySegment : List EdgeUse → Type 0
AreBySegment uses = AllPairs (λ u v. is_seg_before v.seg u.seg ≡ false) uses
