-- What the laws ask of the owners of the regions of an overlay.
use Rattle.std.specs.Prelude.{◌≡◌, ℕ, ◌<◌, [], length, Option, Some, None}
use Rattle.plane.specs.Region.{IsOuterRegion, AreRegions}
use Rattle.sector_laws.specs.Sector.{AreDistinct, IsPlanar}
use Rattle.arrangement.specs.Overlay.{Overlay, IsRegion, label_of}

-- the edges are distinct and meet in ends alone, the numbers are those of their regions, each owner is one of so many members, and the outer region has none
pub record AreMemberOwners (o : Overlay) (owners : ℕ → Option ℕ) (members : ℕ) : Type 0 where
  pub planar : IsPlanar o.edges
  pub distinct : AreDistinct o.edges
  pub regions : AreRegions o.edges o.numbers
  pub below : (r i : ℕ) → IsRegion o.edges r → owners r ≡ Some i → i < members
  pub outer_free : (r i : ℕ) → IsOuterRegion o.edges r → ¬ (owners r ≡ Some i)

-- member 0 owns each region with a label, and no other region has an owner
pub record AreUnionOwners (o : Overlay) (owners : ℕ → Option ℕ) : Type 0 where
  pub held : (r : ℕ) → IsRegion o.edges r → 0 < length (label_of o r) → owners r ≡ Some 0
  pub free : (r : ℕ) → IsRegion o.edges r → label_of o r ≡ [] → owners r ≡ None
