-- The rows of the regions below the side are written.
use Rattle.arrangement.specs.Overlay.{Overlay}
use Rattle.owner_label.specs.Labelled.{IsOverlay}
use Rattle.cover_cli.specs.Regions.{AreRows}
use Rattle.cover_cli.proofs.RegionRows.{regions_below}
use Rattle.cover_cli.proofs.regions.rows_of.Given as goal

abbrev pub invariant-loop-side : goal.invariant-loop-side
invariant-loop-side l = (o : Overlay) → IsOverlay l.labels o → AreRows o (regions_below o l.side) l.text.items
