-- The rings of an outline along a curve, and those of them that hold a point.
use Rattle.std.specs.Prelude.{◌≡◌, ℕ, ◌<◌, ◌≤◌, false, true, List, length, All, AllPairs, Contains, slice_index_or}
use Rattle.box_tree.specs.Rect.{IsInside, box_of_segment}
use Rattle.box_tree.specs.declared.rect.Rect.{Rect}
use Rattle.cov_locate.specs.Levels.{IsLevel}
use Rattle.cov_locate.specs.Parts.{IsLevelled, AreClear}
use Rattle.cov_locate.specs.Where.{IsOnEdge}
use Rattle.cov_locate.specs.declared.level.Level.{Level}
use Rattle.cov_locate.specs.declared.next_ring.RingPart.{RingPart}
use Rattle.cov_locate.specs.declared.ring_index.RingIndex.{RingIndex}
use Rattle.cov_types.specs.Rings.{AreInRow, IsRing}
use Rattle.cov_types.specs.declared.coord.Coord.{Coord}
use Rattle.cov_types.specs.declared.edge_use.EdgeUse.{EdgeUse}
use Rattle.cov_types.specs.declared.outline.Outline.{Outline}
use Rattle.cov_types.specs.declared.ring_run.RingRun.{RingRun}
use Rattle.parity_laws.specs.Runs.{run_holds}
use Rattle.plane.specs.Point.{at_coord}

-- the numbers are those below the count, in some order
pub record AreNumbersBelow (count : ℕ) (numbers : List ℕ) : Type 0 where
  pub within : All (λ n. n < count) numbers
  pub each : (n : ℕ) → n < count → Contains numbers n

-- the segments of the run are within the box
abbrev pub IsAboutRun : List EdgeUse → RingRun → Rect → Type 0
IsAboutRun uses run b = (k : ℕ) (d : EdgeUse) → run.from ≤ k → k < run.to → IsInside (box_of_segment (slice_index_or uses k d).seg) b

-- the boxes are about the runs with these numbers
pub record AreBoxesOf (uses : List EdgeUse) (runs : List RingRun) (numbers : List ℕ) (boxes : List Rect) : Type 0 where
  pub count : length boxes ≡ length numbers
  pub about : (k n : ℕ) (d : RingRun) (b : Rect) → k < length numbers → IsAboutRun uses (slice_index_or runs (slice_index_or numbers k n) d) (slice_index_or boxes k b)

-- the levels are over boxes about the runs with these numbers
pub record AreRingLevels (uses : List EdgeUse) (runs : List RingRun) (numbers : List ℕ) (levels : List Level) : Type 0 where
  pub boxes : List Rect
  pub boxes_are : AreBoxesOf uses runs numbers boxes
  pub levels_are : All (IsLevel boxes) levels

-- the runs of the outline fill its uses, go round rings and ascend by member
pub record IsInOrder (outline : Outline) : Type 0 where
  pub in_row : AreInRow 0 outline.rings.items (length outline.uses.items)
  pub round : All (IsRing outline.uses.items outline.starts.items) outline.rings.items
  pub ascending : AllPairs (λ r s. r.member ≤ s.member) outline.rings.items

-- the index has all rings of the outline, with levels over them and over their uses
pub record IsRingIndex (index : RingIndex) : Type 0 where
  pub in_order : IsInOrder index.outline
  pub levelled : IsLevelled index.outline index.over_uses.items
  pub numbers_are : AreNumbersBelow (length index.outline.rings.items) index.numbers.items
  pub ring_levels : AreRingLevels index.outline.uses.items index.outline.rings.items index.numbers.items index.over_rings.items

-- of the runs whose numbers stand from one place to before another: no segment has the point, and the least run from a number on that
-- holds it; the count of all runs where none does
pub record IsNextIn (uses : List EdgeUse) (runs : List RingRun) (numbers : List ℕ) (p : Coord) (least from to next : ℕ) : Type 0 where
  pub clear : (k n : ℕ) (d : RingRun) → from ≤ k → k < to → AreClear uses (slice_index_or runs (slice_index_or numbers k n) d).from (slice_index_or runs (slice_index_or numbers k n) d).to p
  pub passed : (k n : ℕ) (d : RingRun) → from ≤ k → k < to → least ≤ slice_index_or numbers k n → slice_index_or numbers k n < next → run_holds uses (at_coord p) (slice_index_or runs (slice_index_or numbers k n) d) ≡ false
  pub ends : next ≤ length runs
  pub holds : (d : RingRun) → next < length runs → (least ≤ next) × (run_holds uses (at_coord p) (slice_index_or runs next d) ≡ true)

-- a part of the numbers of the runs that begins at a place: where it ends, and the next run of it
pub record IsRingPart (index : RingIndex) (p : Coord) (least from : ℕ) (part : RingPart) : Type 0 where
  pub some : from < part.to
  pub ends : part.to ≤ length index.numbers.items
  pub next : IsNextIn index.outline.uses.items index.outline.rings.items index.numbers.items p least from part.to part.next

-- no segment has the point, and this is the least run from a number on that holds it; the count of all runs where none does
pub record IsNextRing (uses : List EdgeUse) (runs : List RingRun) (p : Coord) (least next : ℕ) : Type 0 where
  pub clear : ¬ IsOnEdge uses p
  pub passed : (n : ℕ) (d : RingRun) → least ≤ n → n < next → run_holds uses (at_coord p) (slice_index_or runs n d) ≡ false
  pub ends : next ≤ length runs
  pub holds : (d : RingRun) → next < length runs → (least ≤ next) × (run_holds uses (at_coord p) (slice_index_or runs next d) ≡ true)
