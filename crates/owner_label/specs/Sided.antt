-- Edges with their odd pairs, and the region of each side.
use Rattle.std.specs.Prelude.{◌≡◌, ℕ, ◌<◌, true, IsTrue, List, [], length, All, AllPairs, slice_index, Option, MatchOption}
use Rattle.cov_types.specs.declared.edge_use.EdgeUse.{EdgeUse}
use Rattle.cov_types.specs.declared.seg.Seg.{Seg}
use Rattle.cov_types.specs.Uses.{HasEvenEnds}
use Rattle.plane.specs.Parity.{member_holds}
use Rattle.plane.specs.Point.{Point}
use Rattle.plane.specs.Region.{IsSide, IsOuterRegion, AreRegions}
use Rattle.sector_laws.specs.Sector.{IsPlanar, AreDistinct}
use Rattle.arrangement.specs.declared.odd_use.OddUse.{OddUse}
use Rattle.arrangement.specs.Noding.{is_odd_before, odd_uses}
use Rattle.owner_label.specs.Members.{has, IsFrom, members_of}

-- edges, their odd pairs, and for each side a number
pub record Sided : Type 0 where
  pub edges : List Seg
  pub odd : List OddUse
  pub regions : List ℕ

-- the uses that the odd pairs stand for
abbrev pub odd_uses_of : Sided → List EdgeUse
odd_uses_of s = odd_uses s.edges s.odd

-- the region of a side
abbrev pub region_on : Sided → ℕ → ℕ
region_on s n = slice_index s.regions n

-- distinct edges that meet in ends alone, each odd for some member; ascending odd pairs with even ends; the regions of the sides
pub record AreSided (s : Sided) : Type 0 where
  pub planar : IsPlanar s.edges
  pub distinct : AreDistinct s.edges
  pub ascending : AllPairs (λ o p. IsTrue (is_odd_before o p)) s.odd
  pub places : All (λ o. o.edge < length s.edges) s.odd
  pub used : (k : ℕ) → k < length s.edges → (member : ℕ) × (has (members_of s.odd k) member ≡ true)
  pub even : HasEvenEnds (odd_uses_of s)
  pub numbered : AreRegions s.edges s.regions

-- the label of a point: the members that hold it, ascending
pub record IsLabelAt (uses : List EdgeUse) (p : Point) (label : List ℕ) : Type 0 where
  pub ascending : IsFrom 0 label
  pub exact : (member : ℕ) → has label member ≡ member_holds uses member p

-- the label of each side point of the region
abbrev pub IsRegionLabel : Sided → ℕ → List ℕ → Type 0
IsRegionLabel s r label = (n : ℕ) (p : Point) → IsSide s.edges n p → region_on s n ≡ r → IsLabelAt (odd_uses_of s) p label

-- the number is that of the outer region, and there is none where there is no edge
abbrev pub IsOuterOf : Sided → Option ℕ → Type 0
IsOuterOf s outer = MatchOption outer (s.edges ≡ []) (λ r. IsOuterRegion s.edges r × (region_on s r ≡ r))
