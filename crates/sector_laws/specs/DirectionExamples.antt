-- Half-edges round the grid point (1, 1) in the order of their directions.
use Rattle.std.specs.Prelude.{◌≡◌, true}
use Rattle.std.proofs.Common.{refl}
use Rattle.std.specs.declared.cmp.Ordering.TheVariants.{Less, Equal}
use Rattle.sector_laws.specs.Direction.{direction_cmp}
use Rattle.plane.specs.Examples.{grid, segment}
use Rattle.sector_laws.specs.Examples.{south_east, east, north_east, north, north_west, west, south_west, south}

-- the eight directions round a vertex begin to the right of straight down; a longer half-edge elsewhere has the direction too
pub record DirectionExamples : Type 0 where
  pub first : direction_cmp south_east east ≡ Less
  pub second : direction_cmp east north_east ≡ Less
  pub third : direction_cmp north_east north ≡ Less
  pub fourth : direction_cmp north north_west ≡ Less
  pub fifth : direction_cmp north_west west ≡ Less
  pub sixth : direction_cmp west south_west ≡ Less
  pub seventh : direction_cmp south_west south ≡ Less
  pub elsewhere : direction_cmp (record { edge = segment (grid 4 7) (grid 7 10) refl; forwards = true }) north_east ≡ Equal
