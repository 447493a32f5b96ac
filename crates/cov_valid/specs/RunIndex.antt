-- The boxes about the rings of an outline, and what is known of an index over it.
use Rattle.std.specs.Prelude.{◌≡◌, ℕ, ◌<◌, ◌≤◌, List, length, All, AllPairs, slice_index_or, slice_range}
use Rattle.box_tree.specs.declared.rect.Rect.{Rect}
use Rattle.cov_types.specs.Range.{IsSegInRange}
use Rattle.cov_types.specs.Rings.{AreInRow, IsRing}
use Rattle.cov_types.specs.declared.edge_use.EdgeUse.{EdgeUse}
use Rattle.cov_types.specs.declared.outline.Outline.{Outline}
use Rattle.cov_types.specs.declared.ring_run.RingRun.{RingRun}
use Rattle.cov_valid.specs.Levels.{IsAbout}
use Rattle.cov_valid.specs.Parts.{IsLevelled}
use Rattle.cov_valid.specs.declared.run_index.RunIndex.{RunIndex}

-- each box is about the uses of the run with its number
pub record AreRingBoxes (uses : List EdgeUse) (runs : List RingRun) (boxes : List Rect) : Type 0 where
  pub count : length boxes ≡ length runs
  pub about : (k : ℕ) (d : RingRun) (b : Rect) → k < length runs → IsAbout (slice_range uses (slice_index_or runs k d).from (slice_index_or runs k d).to) (slice_index_or boxes k b)

-- the index has the boxes about the rings of the outline and about its blocks of uses
pub record IsIndexed (outline : Outline) (index : RunIndex) : Type 0 where
  pub levelled : IsLevelled outline index.levels.items
  pub boxes : AreRingBoxes outline.uses.items outline.rings.items index.rings

-- the outline's uses are in range, and its runs fill them, go round rings and ascend by member
pub record IsInOrder (outline : Outline) : Type 0 where
  pub in_range : All (λ u. IsSegInRange u.seg) outline.uses.items
  pub in_row : AreInRow 0 outline.rings.items (length outline.uses.items)
  pub round : All (IsRing outline.uses.items outline.starts.items) outline.rings.items
  pub ascending : AllPairs (λ r s. r.member ≤ s.member) outline.rings.items
