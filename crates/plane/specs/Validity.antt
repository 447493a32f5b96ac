-- Valid coverages, after the definition of JTS, in words of segments and points.
use Rattle.std.specs.Prelude.{◌≡◌, ℕ, ◌<◌, List, Contains, Some, slice_get, true, map}
use Rattle.cov_types.specs.declared.edge_use.EdgeUse.{EdgeUse}
use Rattle.plane.specs.Joined.{IsOff}
use Rattle.plane.specs.Noded.{MeetInEnds}
use Rattle.plane.specs.Parity.{member_holds}
use Rattle.plane.specs.Point.{Point}

-- the use stands at two places: its member has its segment more than once
pub record IsRepeated (uses : List EdgeUse) (edge : EdgeUse) : Type 0 where
  pub first : ℕ
  pub second : ℕ
  pub apart : first < second
  pub at_first : slice_get uses first ≡ Some edge
  pub at_second : slice_get uses second ≡ Some edge

-- any two segments are equal or meet in ends alone, no member has a segment twice, and no point off the segments is held by two members
pub record IsValid (uses : List EdgeUse) : Type 0 where
  pub ends : (u v : EdgeUse) → Contains uses u → Contains uses v → MeetInEnds u.seg v.seg
  pub once : (u : EdgeUse) → ¬ IsRepeated uses u
  pub apart : (p : Point) → IsOff (map (λ u. u.seg) uses) p → (i j : ℕ) → member_holds uses i p ≡ true → member_holds uses j p ≡ true → i ≡ j
