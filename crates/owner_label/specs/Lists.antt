-- For each region its sides and its label.
use Rattle.std.specs.Prelude.{◌≡◌, ℕ, ◌<◌, List, length, Some, slice_get}
use Rattle.cov_types.specs.declared.seg.Seg.{Seg}
use Rattle.counting_sort.specs.Grouped.{IsGrouped}
use Rattle.owner_label.specs.Labelled.{Labelled}
use Rattle.owner_label.specs.Sided.{Sided, AreSided, region_on, IsRegionLabel}

-- for each region its label
pub record AreRegionLabels (s : Sided) (labels : List (List ℕ)) : Type 0 where
  pub count : length labels ≡ length s.regions
  pub each : (n : ℕ) → n < length s.regions → (label : List ℕ) → slice_get labels (region_on s n) ≡ Some label → IsRegionLabel s (region_on s n) label

-- the edges and the odd pairs, with a number for each side
abbrev pub sided_of : Labelled → List ℕ → Sided
sided_of l numbers = record { edges = l.edges; odd = l.odd; regions = numbers }

-- with the numbers of the regions of the sides: the label of each region, and its sides
pub record AreTables (l : Labelled) (numbers : List ℕ) (table groups : List (List ℕ)) : Type 0 where
  pub sided : AreSided (sided_of l numbers)
  pub labels : AreRegionLabels (sided_of l numbers) table
  pub sides : IsGrouped numbers (length numbers) groups

-- regions have numbers, and these tables have the label of each region and its sides
pub record AreLabels (l : Labelled) (walked : List Seg) (table groups : List (List ℕ)) : Type 0 where
  pub walked_edges : walked ≡ l.edges
  pub numbers : List ℕ
  pub tables : AreTables l numbers table groups
