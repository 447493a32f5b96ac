-- Which points the answers of clean and of union hold.
use Rattle.std.specs.Prelude.{◌≡◌, ℕ, true, ◌↔◌, List, length, Option, Some, None}
use Rattle.cov_types.specs.declared.edge_use.EdgeUse.{EdgeUse}
use Rattle.cov_types.specs.declared.seg.Seg.{Seg}
use Rattle.cov_types.specs.Coverage.{Members}
use Rattle.cov_types.specs.Uses.{uses_of}
use Rattle.plane.specs.Joined.{IsOff}
use Rattle.plane.specs.Parity.{member_holds}
use Rattle.plane.specs.Point.{Point}
use Rattle.plane.specs.Region.{IsRegionOf}
use Rattle.arrangement.specs.Noding.{segments}
use Rattle.arrangement.specs.Overlay.{Overlay}

-- the owner holds p and no other member does, or none where there is no owner
abbrev pub IsHeldBy : List EdgeUse → Option ℕ → Point → Type 0
IsHeldBy uses owner p = (member : ℕ) → (member_holds uses member p ≡ true) ↔ (owner ≡ Some member)

-- each point off the noded edges is held by the owner of its region and by no other member, and by none where it has no region
pub record HoldsByOwner (noded : List Seg) (o : Overlay) (owners : ℕ → Option ℕ) (out : Members) : Type 0 where
  pub within : (p : Point) → IsOff noded p → (r : ℕ) → IsRegionOf o.edges p r → IsHeldBy (uses_of out) (owners r) p
  pub without : (p : Point) → IsOff noded p → ((r : ℕ) → ¬ IsRegionOf o.edges p r) → IsHeldBy (uses_of out) None p

-- out is one member that holds each point off the segments exactly where some member of the coverage does
pub record IsUnionOf (members out : Members) : Type 0 where
  pub one : length out ≡ 1
  pub holds : (p : Point) → IsOff (segments (uses_of members)) p → (member_holds (uses_of out) 0 p ≡ true) ↔ ((member : ℕ) × (member_holds (uses_of members) member p ≡ true))
