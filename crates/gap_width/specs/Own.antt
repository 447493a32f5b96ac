-- The own edges of a region, each with what it weighs.
use Rattle.std.specs.Prelude.{◌≡◌, ◌↔◌, ℕ, ◌*◌, ◌/◌, ◌%◌, ◌==◌, cond, List, length, map, All, Contains, Option, Some, None, slice_get, ℤ, pos, neg_ℤ}
use Rattle.cov_types.specs.declared.seg.Seg.{Seg}
use Rattle.cov_types.specs.Range.{IsSegInRange}
use Rattle.integer_laws.specs.Bound.{IsWithin}
use Rattle.plane.specs.Point.{Point}
use Rattle.plane.specs.Ray.{is_over}
use Rattle.plane.specs.Segment.{upper, lower}
use Rattle.plane.specs.Region.{IsOuterRegion, IsRegionOf, AreRegions}
use Rattle.crossing_laws.specs.Crossing.{WeightedEdge, crossing_sum, int_sum_by}
use Rattle.sector_laws.specs.Sector.{AreDistinct, IsPlanar}
use Rattle.region_owners.specs.Box.{IsEdgeOf}
use Rattle.clearance_laws.specs.Inside.{IsOffOwn}
use Rattle.counting_sort.specs.Grouped.{IsGrouped}
use Rattle.gap_width.specs.declared.own.OwnEdge.{OwnEdge}

-- the edges of a list
abbrev pub edges_in : List OwnEdge → List Seg
edges_in own = map (λ o. o.edge) own

-- its edges with their weights
abbrev pub weighed : List OwnEdge → List WeightedEdge
weighed own = map (λ o. record { edge = o.edge; weight = o.weight }) own

-- an edge in range that weighs -1, 0 or 1
pub record IsSmallEdge (o : OwnEdge) : Type 0 where
  pub edge : IsSegInRange o.edge
  pub weight : IsWithin 1 o.weight

-- these are the edges of a region that is not outer, each for each of its sides with the region there, and off them they weigh 1 over its points alone
pub record AreOwn (edges : List Seg) (r : ℕ) (own : List OwnEdge) : Type 0 where
  pub planar : IsPlanar edges
  pub distinct : AreDistinct edges
  pub not_outer : ¬ IsOuterRegion edges r
  pub each : (e : Seg) → IsEdgeOf edges r e ↔ Contains (edges_in own) e
  pub above : (e : Seg) → Contains edges e → IsRegionOf edges (upper e) r → Contains own (record { edge = e; weight = neg_ℤ (pos 1) })
  pub below : (e : Seg) → Contains edges e → IsRegionOf edges (lower e) r → Contains own (record { edge = e; weight = pos 1 })
  pub inside : (p : Point) → IsOffOwn edges r p → IsRegionOf edges p r ↔ (crossing_sum (weighed own) p ≡ pos 1)

-- what the edge of a side weighs: 1 for a lower side, -1 for an upper one
abbrev pub weight_of_side : ℕ → ℤ
weight_of_side n = cond (n % 2 == 0) (neg_ℤ (pos 1)) (pos 1)

-- what it weighs over p: nothing where it is not over p
abbrev pub weight_by : Option Seg → ℕ → Point → ℤ
weight_by None n p = pos 0
weight_by (Some e) n p = cond (is_over e p) (weight_of_side n) (pos 0)

-- the list has the edge of each of the sides, and over each point it weighs what they weigh
pub record AreOfSides (edges : List Seg) (sides : List ℕ) (own : List OwnEdge) : Type 0 where
  pub sum : (p : Point) → crossing_sum (weighed own) p ≡ int_sum_by (λ n. weight_by (slice_get edges (n / 2)) n p) sides
  pub from : (e : Seg) → Contains (edges_in own) e → (n : ℕ) × (Contains sides n × (slice_get edges (n / 2) ≡ Some e))
  pub to : (n : ℕ) (e : Seg) → Contains sides n → slice_get edges (n / 2) ≡ Some e → Contains own (record { edge = e; weight = weight_of_side n })
  pub small : All IsSmallEdge own

-- the sides of each region of distinct planar edges, by its number
pub record AreSides (edges : List Seg) (groups : List (List ℕ)) : Type 0 where
  pub planar : IsPlanar edges
  pub distinct : AreDistinct edges
  pub numbers : List ℕ
  pub regions : AreRegions edges numbers
  pub grouped : IsGrouped numbers (2 * length edges) groups
