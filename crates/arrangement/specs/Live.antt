-- What an overlay of a coverage keeps.
use Rattle.std.specs.Prelude.{ℕ, ◌<◌, All, Contains}
use Rattle.cov_types.specs.declared.edge_use.EdgeUse.{EdgeUse}
use Rattle.cov_types.specs.declared.seg.Seg.{Seg}
use Rattle.cov_types.specs.Uses.{HasEvenEnds}
use Rattle.plane.specs.Region.{AreRegions}
use Rattle.sector_laws.specs.Sector.{IsPlanar}
use Rattle.arrangement.specs.Noding.{IsOdd}
use Rattle.arrangement.specs.Overlay.{Overlay}

-- the edges meet in ends alone and each is odd for some member, the uses are of these edges by members below the number and
-- have even ends, and the numbers are those of the regions
pub record IsLiveOverlay (o : Overlay) : Type 0 where
  pub planar : IsPlanar o.edges
  pub odd : (e : Seg) → Contains o.edges e → (member : ℕ) × IsOdd o.uses member e
  pub listed : (u : EdgeUse) → Contains o.uses u → Contains o.edges u.seg
  pub below : All (λ u. u.member < o.members) o.uses
  pub even : HasEvenEnds o.uses
  pub regions : AreRegions o.edges o.numbers
