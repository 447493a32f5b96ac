use Rattle.std.proofs.Common.{◌≡◌, true, length, take}
use Rattle.arrangement.specs.Overlay.{Overlay}
use Rattle.gap_replay.specs.Replay.{state_after_gaps}
use Rattle.owner_label.specs.Labelled.{IsOverlay, owner_in}
use Rattle.cov_clean.specs.Filled.{AreFilled, filler_by}
use Rattle.cov_clean.proofs.fillers.filled_by_rule.Given as goal

abbrev pub invariant-loop-gap : goal.invariant-loop-gap
invariant-loop-gap g l = record {
  filled : (o : Overlay) → IsOverlay l.labels o → o.members ≡ length l.areas
      → AreFilled (filler_by true g.R.MergeRule.rule (g.R.MergeRule.state l.initial.rule) o (owner_in l.owners) l.gaps) l.owners (take l.gap-index l.gaps) l.filled.items;
  long : length l.filled.items ≡ length l.owners;
  state : (o : Overlay) → IsOverlay l.labels o → o.members ≡ length l.areas
      → g.R.MergeRule.state l.rule ≡ state_after_gaps g.R.MergeRule.rule (g.R.MergeRule.state l.initial.rule) o (owner_in l.owners) (take l.gap-index l.gaps);
}
