-- How the label of a point tells who holds it in the cleaned coverage.
use Rattle.std.specs.Prelude.{◌≡◌, ℕ, ◌≤◌, List, [], ◌∷◌, length, Contains, Some, None}
use Rattle.cov_types.specs.Coverage.{Members}
use Rattle.cov_types.specs.Uses.{uses_of}
use Rattle.plane.specs.Point.{Point}
use Rattle.plane.specs.Region.{IsRegionOf}
use Rattle.arrangement.specs.Overlay.{Overlay}
use Rattle.region_owners.specs.Owner.{Rule, picked_owner, label_owner, neighbour_of, IsNarrowGap}
use Rattle.sound_polygons.specs.Holding.{IsHeldBy}

-- p is held by the member of its label that the rule picks for its region
pub record IsHeldByPick {State : Type 0} (rule : Rule State) (state : State) (o : Overlay) (out : Members) (label : List ℕ) (p : Point) : Type 0 where
  pub region : ℕ
  pub within : IsRegionOf o.edges p region
  pub member : ℕ
  pub listed : Contains label member
  pub picked : picked_owner rule state o region ≡ Some member
  pub held : IsHeldBy (uses_of out) (Some member) p

-- p is held by the member with the longest owned border with its region, a narrow gap
pub record IsHeldByNeighbour {State : Type 0} (rule : Rule State) (state : State) (o : Overlay) (out : Members) (region : ℕ) (p : Point) : Type 0 where
  pub member : ℕ
  pub neighbour : neighbour_of o (label_owner rule state o) region ≡ Some member
  pub held : IsHeldBy (uses_of out) (Some member) p

-- p with this label is held by the one member of it, by the pick of several, in a narrow gap by the neighbour, and elsewhere by none
pub record IsHeldByLabel {State : Type 0} (rule : Rule State) (state : State) (o : Overlay) (w : ℕ) (out : Members) (label : List ℕ) (p : Point) : Type 0 where
  pub single : (i : ℕ) → label ≡ i ∷ [] → IsHeldBy (uses_of out) (Some i) p
  pub several : 2 ≤ length label → IsHeldByPick rule state o out label p
  pub narrow : (r : ℕ) → IsRegionOf o.edges p r → IsNarrowGap o r w → IsHeldByNeighbour rule state o out r p
  pub empty : label ≡ [] → ((r : ℕ) → IsRegionOf o.edges p r → ¬ IsNarrowGap o r w) → IsHeldBy (uses_of out) None p
