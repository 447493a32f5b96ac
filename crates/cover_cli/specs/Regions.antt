-- What listing the regions of a coverage answers and writes.
use Rattle.std.specs.Prelude.{◌≡◌, ◌⊎◌, ℕ, List, [], length, Option, Some, None}
use Rattle.std.specs.List.{AllZip, concat}
use Rattle.arrangement.specs.Measure.{region_area2}
use Rattle.arrangement.specs.Overlay.{Overlay, region_numbers, label_of, IsSnappedOverlay}
use Rattle.cov_types.specs.declared.coord.Coord.{Coord}
use Rattle.cov_types.specs.Uses.{uses_of}
use Rattle.cov_write.specs.Rows.{outer_row, inner_row}
use Rattle.cover_cli.specs.declared.outcome.Outcome.{Outcome}
use Rattle.cover_cli.specs.declared.outcome.Outcome.TheVariants.{Done}
use Rattle.plane.specs.Region.{IsOuterRegion}
use Rattle.region_owners.specs.Gap.{IsClearance}

-- what a row tells of a clearance: of a region that no member holds its own, and of others none
abbrev pub IsClearanceTold : Overlay → ℕ → Option ℕ → Type 0
IsClearanceTold o r None = ¬ (label_of o r ≡ [])
IsClearanceTold o r (Some w) = (label_of o r ≡ []) × IsClearance o.edges r w

-- the line is the row of a region that is not outer
pub record IsInnerRow (o : Overlay) (r : ℕ) (line : List ℕ) : Type 0 where
  pub inner : ¬ IsOuterRegion o.edges r
  pub clearance : Option ℕ
  pub told : IsClearanceTold o r clearance
  pub row : line ≡ inner_row r (label_of o r) (region_area2 o r) clearance

-- the line is the row of the region
abbrev pub IsRow : Overlay → ℕ → List ℕ → Type 0
IsRow o r line = (IsOuterRegion o.edges r × (line ≡ outer_row r)) ⊎ IsInnerRow o r line

-- the text has a row for each of the regions, in their order
pub record AreRows (o : Overlay) (regions : List ℕ) (text : List ℕ) : Type 0 where
  pub rows : List (List ℕ)
  pub each : AllZip (IsRow o) regions rows
  pub lines : text ≡ concat rows

-- it is done, and the text lists the regions of the snapped members of the coverage
pub record IsRegionList (members : List (List (List (List Coord)))) (outcome : Outcome) (text : List ℕ) : Type 0 where
  pub done : outcome ≡ Done
  pub overlay : Overlay
  pub is_overlay : IsSnappedOverlay (uses_of members) (length members) overlay
  pub rows : AreRows overlay (region_numbers overlay) text
