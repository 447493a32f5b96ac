-- The rings near a point: those that may hold it, or have it on a segment.
use Rattle.std.specs.Prelude.{◌≡◌, ℕ, ◌+◌, ◌<◌, ◌≤◌, false, List, [], ◌∷◌, ◌++◌, length, map, slice_index_or}
use Rattle.box_tree.specs.Rect.{box_of_segment}
use Rattle.cov_locate.specs.Blocks.{AreBlocks}
use Rattle.cov_locate.specs.Parts.{IsRunTold}
use Rattle.cov_locate.specs.declared.block.Placed.{Placed}
use Rattle.cov_locate.specs.declared.block.Placed.TheVariants.{Beside, Higher, Near}
use Rattle.cov_locate.specs.declared.near.NearRing.{NearRing}
use Rattle.cov_types.specs.declared.coord.Coord.{Coord}
use Rattle.cov_types.specs.declared.edge_use.EdgeUse.{EdgeUse}
use Rattle.cov_types.specs.declared.ring_run.RingRun.{RingRun}

-- the runs from one number to before another have no point on a segment and do not hold it
abbrev pub AreFar : List EdgeUse → List RingRun → Coord → ℕ → ℕ → Type 0
AreFar uses runs p from to = (n : ℕ) (d : RingRun) → from ≤ n → n < to → IsRunTold uses (slice_index_or runs n d) p false

-- the ring is that with its number, and its blocks fill its run
pub record IsNearRing (uses : List EdgeUse) (runs : List RingRun) (p : Coord) (ring : NearRing) : Type 0 where
  pub within : ring.number < length runs
  pub is : (d : RingRun) → ring.run ≡ slice_index_or runs ring.number d
  pub blocks : AreBlocks (map (λ u. box_of_segment u.seg) uses) ring.run.from ring.run.to p ring.blocks.items

-- of the runs from a number on, all that are not listed are far
abbrev pub AreNear : List EdgeUse → List RingRun → Coord → ℕ → List NearRing → Type 0
AreNear uses runs p passed [] = AreFar uses runs p passed (length runs)
AreNear uses runs p passed (ring ∷ rings) = IsNearRing uses runs p ring × AreFar uses runs p passed ring.number × AreNear uses runs p (ring.number + 1) rings

-- with the number of a box, where that is near
abbrev pub with_near : List ℕ → Placed → ℕ → List ℕ
with_near numbers Beside number = numbers
with_near numbers Higher number = numbers
with_near numbers Near number = numbers ++ number ∷ []
