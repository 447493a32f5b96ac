-- Uses that are sorted by their segments.
use Rattle.std.proofs.Common.{◌≡◌, sym, ◌∙◌, refl, true≢false, false, List, get_or, Ordering, Less, Equal, Greater, is_lt, nat_cmp, IsSortedBy, arith}
use Rattle.std.specs.Cmp.{IsTotalOrder, IsStrictWeakOrder}
use Rattle.std.specs.Ordering.{ordering_then}
use Rattle.std.proofs.lemmas.Cmp.{nat_cmp_total, then_total}
use Rattle.std.proofs.lemmas.List.Sorted.{ranks_by, sorted_far}
use Rattle.cov_types.specs.Seg.{seg_cmp}
use Rattle.cov_types.specs.declared.edge_use.EdgeUse.{EdgeUse}
use Rattle.cov_types.proofs.SegOrder.{seg_cmp_total, is_lt-seg_cmp}
use Rattle.snap_noder.specs.Order.{AreBySegment}

-- what the sort compares: the segments, then the members
abbrev pub use_cmp : EdgeUse → EdgeUse → Ordering
use_cmp u v = ordering_then (seg_cmp u.seg v.seg) (nat_cmp u.member v.member)

by_seg : IsTotalOrder (λ (u v : EdgeUse). seg_cmp u.seg v.seg)
by_seg = record {
  antisymm = λ u v. seg_cmp_total.antisymm u.seg v.seg;
  trans = λ u v w. seg_cmp_total.trans u.seg v.seg w.seg;
  congr = λ u v w. seg_cmp_total.congr u.seg v.seg w.seg;
}

by_member : IsTotalOrder (λ (u v : EdgeUse). nat_cmp u.member v.member)
by_member = record {
  antisymm = λ u v. nat_cmp_total.antisymm u.member v.member;
  trans = λ u v w. nat_cmp_total.trans u.member v.member w.member;
  congr = λ u v w. nat_cmp_total.congr u.member v.member w.member;
}

use_weak : IsStrictWeakOrder (λ (u v : EdgeUse). is_lt (use_cmp u v))
use_weak = ranks_by (then_total by_seg by_member) (λ (u : EdgeUse). u)

first_not_less : (o p : Ordering) → is_lt (ordering_then o p) ≡ false → is_lt o ≡ false
first_not_less Less p h = absurd (true≢false h)
first_not_less Equal p h = refl
first_not_less Greater p h = refl

pub sorted_by_segment : (uses : List EdgeUse) → IsSortedBy (λ (u v : EdgeUse). is_lt (use_cmp u v)) uses → AreBySegment uses
sorted_by_segment uses sorted i j d before within =
    let u = get_or uses i d in
    let v = get_or uses j d in
    sym (is_lt-seg_cmp v.seg u.seg) ∙ first_not_less (seg_cmp v.seg u.seg) (nat_cmp v.member u.member) (sorted_far (λ (a b : EdgeUse). is_lt (use_cmp a b)) use_weak uses sorted i j d (omega arith) within)
