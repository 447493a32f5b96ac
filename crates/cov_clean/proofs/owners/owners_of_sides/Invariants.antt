use Rattle.std.proofs.Common.{◌≡◌, map}
use Rattle.plane.specs.Label.{numbers_below}
use Rattle.arrangement.specs.Overlay.{Overlay}
use Rattle.region_owners.specs.Owner.{state_after}
use Rattle.owner_label.specs.Labelled.{IsOverlay}
use Rattle.cov_clean.specs.Asked.{side_owner}
use Rattle.cov_clean.proofs.Asking.{shared_below}
use Rattle.cov_clean.proofs.owners.owners_of_sides.Given as goal

abbrev pub invariant-loop-side : goal.invariant-loop-side
invariant-loop-side g l = record {
  owners : (o : Overlay) → IsOverlay l.labels o → l.owners.items ≡ map (side_owner g.R.MergeRule.rule (g.R.MergeRule.state l.initial.rule) o) (numbers_below l.side);
  state : (o : Overlay) → IsOverlay l.labels o → g.R.MergeRule.state l.rule ≡ state_after g.R.MergeRule.rule (g.R.MergeRule.state l.initial.rule) o (shared_below o l.side);
}
