-- Examples of edges below points.
use Rattle.std.specs.Prelude.{◌≡◌, true, false}
use Rattle.plane.specs.Point.{at_coord}
use Rattle.plane.specs.Examples.{grid, bottom, top, right}
use Rattle.region_laws.specs.Below.{is_under}

-- which edges of a square are under which points
pub record UnderExamples : Type 0 where
  pub from_inside : is_under bottom (at_coord (grid 5 5)) ≡ true
  pub none_above : is_under top (at_coord (grid 5 5)) ≡ false
  pub from_above : is_under top (at_coord (grid 5 15)) ≡ true
  pub not_on_the_edge : is_under bottom (at_coord (grid 5 0)) ≡ false
  pub just_past_the_lesser_end : is_under bottom (at_coord (grid 0 5)) ≡ true
  pub not_at_the_greater_end : is_under right (at_coord (grid 10 10)) ≡ false
  pub past_the_edge : is_under bottom (at_coord (grid 15 5)) ≡ false
