-- How the label of a point tells who holds it in the coverage that was cleaned with gaps by rule.
use Rattle.std.specs.Prelude.{◌≡◌, ℕ, ◌≤◌, List, [], ◌∷◌, length, Some, None}
use Rattle.cov_types.specs.Coverage.{Members}
use Rattle.cov_types.specs.Uses.{uses_of}
use Rattle.plane.specs.Point.{Point}
use Rattle.plane.specs.Region.{IsRegionOf}
use Rattle.arrangement.specs.Overlay.{Overlay}
use Rattle.region_owners.specs.Owner.{Rule, IsNarrowGap}
use Rattle.sound_polygons.specs.Holding.{IsHeldBy}
use Rattle.cleaned_laws.specs.HeldByLabel.{IsHeldByPick}
use Rattle.gap_replay.specs.Replay.{picked_filler}

-- p is held by the candidate that the rule picks for its region, one of the gaps
pub record IsHeldByFiller {State : Type 0} (rule : Rule State) (state : State) (o : Overlay) (gaps : List ℕ) (out : Members) (region : ℕ) (p : Point) : Type 0 where
  pub member : ℕ
  pub picked : picked_filler rule state o gaps region ≡ Some member
  pub held : IsHeldBy (uses_of out) (Some member) p

-- p with this label is held by the one member of it, by the pick of several, in a narrow gap by the pick for it, and elsewhere by none
pub record IsHeldByReplay {State : Type 0} (rule : Rule State) (state : State) (o : Overlay) (w : ℕ) (gaps : List ℕ) (out : Members) (label : List ℕ) (p : Point) : Type 0 where
  pub single : (i : ℕ) → label ≡ i ∷ [] → IsHeldBy (uses_of out) (Some i) p
  pub several : 2 ≤ length label → IsHeldByPick rule state o out label p
  pub narrow : (r : ℕ) → IsRegionOf o.edges p r → IsNarrowGap o r w → IsHeldByFiller rule state o gaps out r p
  pub empty : label ≡ [] → ((r : ℕ) → IsRegionOf o.edges p r → ¬ IsNarrowGap o r w) → IsHeldBy (uses_of out) None p
