use Rattle.std.proofs.Common.{ap, ◌∙◌, sym, ◌-◌, take, Vec, Global}
use Rattle.cov_types.specs.declared.seg.Seg.{Seg}
use Rattle.cov_union.proofs.Cancelled.{odd_segments_start, odd_segments_all, odd_segment_gone, odd_segment_come}
use Rattle.cov_union.proofs.Lasts.{told_not_last}
use Rattle.cov_union.proofs.rim.odd_segments.Goals as goal
use Rattle.cov_union.proofs.rim.odd_segments.Goals.{then-is_last, else-is_last+in_ok-push}

pub loop-s-init : goal.loop-s-init
loop-s-init c = odd_segments_start c.new-odd.result.items c.new-odd.ensures.items

pub loop-s-preserved : goal.loop-s-preserved
loop-s-preserved c =
    elim c.if-is_last.branch [
      | then-is_last w ↦ (
          odd_segment_gone c.args.sorted.now c.loop-s.odd.items c.loop-s.s-index c.s-item.result c.loop-s-test.true c.s-item.is c.requires c.loop-s.invariant
          (c.is_last.ensures.0 w.if-is_last.true).0 (sym c.as_slice.ensures.value ∙ (c.is_last.ensures.0 w.if-is_last.true).1) _
          (ap (λ (v : Vec Seg Global). v.items) w.odd-is ∙ w.pop.ensures.rest ∙ ap (λ n. take (n - 1) c.loop-s.odd.items) c.loop-s.odd.ok.0))
      | else-is_last+in_ok-push w ↦ odd_segment_come c.args.sorted.now c.loop-s.odd.items c.loop-s.s-index c.s-item.result c.loop-s-test.true c.s-item.is c.requires c.loop-s.invariant
          (told_not_last _ _ _ _ c.as_slice.ensures.value c.is_last.ensures w.if-is_last.false) _
          (ap (λ (v : Vec Seg Global). v.items) w.odd-is ∙ w.in_ok-push.ensures.items)
    ]

pub returns-clause-exact : goal.returns-clause-exact
returns-clause-exact c = (odd_segments_all c.args.sorted.now _ c.loop-s.s-index c.loop-s-test.false c.loop-s.invariant).exact

pub returns-clause-ascending : goal.returns-clause-ascending
returns-clause-ascending c = (odd_segments_all c.args.sorted.now _ c.loop-s.s-index c.loop-s-test.false c.loop-s.invariant).ascending
