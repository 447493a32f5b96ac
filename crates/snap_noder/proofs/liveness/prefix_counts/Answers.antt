use Rattle.std.proofs.Common.{◌∙◌, ap, ◌++◌, ◌∷◌, false, get_or}
use mathlib.Core.List.{[]}
use Rattle.std.proofs.lemmas.List.{get_or_default}
use Rattle.snap_noder.proofs.Marking.{counted_read, counts_more}
use Rattle.snap_noder.proofs.liveness.prefix_counts.Goals as goal

pub loop-mark-preserved : goal.loop-mark-preserved
loop-mark-preserved c =
    let mark = get_or c.args.marks.now c.loop-mark.mark-index false in
    let is = get_or_default c.args.marks.now c.loop-mark.mark-index false mark c.loop-mark-test.true in
    record {
      counted = counted_read c.args.marks.now c.loop-mark.mark-index false _ _ c.loop-mark-test.true c.loop-mark.invariant.counted c.from-so_far.ensures;
      so_far = counts_more c.args.marks.now c.loop-mark.mark-index mark c.loop-mark-test.true is _ _ c.loop-mark.invariant.so_far
          (c.in_ok-push.ensures.items ∙ ap (λ n. c.loop-mark.counts.items ++ n ∷ []) c.loop-mark.invariant.counted);
    }
