use Rattle.std.proofs.Common.{◌≡◌, map}
use Rattle.plane.specs.Label.{numbers_below}
use Rattle.arrangement.specs.Overlay.{Overlay}
use Rattle.owner_label.specs.Labelled.{IsOverlay}
use Rattle.cov_overlay.specs.SidePairs.{side_pair}
use Rattle.cov_overlay.proofs.region_pair.pairs_of_sides.Given as goal

abbrev pub invariant-loop-side : goal.invariant-loop-side
invariant-loop-side l = (o : Overlay) → IsOverlay l.labels o → l.pairs.items ≡ map (side_pair l.first o) (numbers_below l.side)
