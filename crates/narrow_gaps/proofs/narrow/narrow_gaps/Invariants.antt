use Rattle.std.proofs.Common.{◌<◌, All}
use Rattle.std.specs.Prelude.{AllPairs}
use Rattle.arrangement.specs.Overlay.{Overlay}
use Rattle.owner_label.specs.Labelled.{IsOverlay}
use Rattle.narrow_gaps.proofs.Gaps.{AreNarrowBelow}
use Rattle.narrow_gaps.proofs.narrow.narrow_gaps.Given as goal

abbrev pub invariant-loop-side : goal.invariant-loop-side
invariant-loop-side l = record {
  below : All (λ n. n < l.side) l.gaps.items;
  ascending : AllPairs (λ m n. m < n) l.gaps.items;
  exact : (o : Overlay) → IsOverlay l.labels o → AreNarrowBelow o l.width l.side l.gaps.items;
}
