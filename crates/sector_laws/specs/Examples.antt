-- Half-edges round the grid point (1, 1), and those of a square.
use Rattle.std.specs.Prelude.{◌≡◌, true, false}
use Rattle.std.proofs.Common.{refl}
use Rattle.plane.specs.Examples.{grid, segment, bottom, right, square}
use Rattle.sector_laws.specs.Sector.{HalfEdge, IsHalfEdge, is_before_by_angle, is_in_sector}

-- half-edges that leave (1, 1), named after where they lead
abbrev pub south_east : HalfEdge
south_east = record { edge = segment (grid 1 1) (grid 2 0) refl; forwards = true }

-- it leads to (2, 1)
abbrev pub east : HalfEdge
east = record { edge = segment (grid 1 1) (grid 2 1) refl; forwards = true }

-- it leads to (2, 2)
abbrev pub north_east : HalfEdge
north_east = record { edge = segment (grid 1 1) (grid 2 2) refl; forwards = true }

-- it leads to (1, 2)
abbrev pub north : HalfEdge
north = record { edge = segment (grid 1 1) (grid 1 2) refl; forwards = true }

-- it leads to (0, 2)
abbrev pub north_west : HalfEdge
north_west = record { edge = segment (grid 0 2) (grid 1 1) refl; forwards = false }

-- it leads to (0, 1)
abbrev pub west : HalfEdge
west = record { edge = segment (grid 0 1) (grid 1 1) refl; forwards = false }

-- it leads to (0, 0)
abbrev pub south_west : HalfEdge
south_west = record { edge = segment (grid 0 0) (grid 1 1) refl; forwards = false }

-- it leads to (1, 0)
abbrev pub south : HalfEdge
south = record { edge = segment (grid 1 0) (grid 1 1) refl; forwards = false }

-- the fan of eight directions begins to the right of straight down
pub record FanExamples : Type 0 where
  pub first : is_before_by_angle south_east east ≡ true
  pub second : is_before_by_angle east north_east ≡ true
  pub third : is_before_by_angle north_east north ≡ true
  pub fourth : is_before_by_angle north north_west ≡ true
  pub fifth : is_before_by_angle north_west west ≡ true
  pub sixth : is_before_by_angle west south_west ≡ true
  pub seventh : is_before_by_angle south_west south ≡ true
  pub last : is_before_by_angle south_east south ≡ true
  pub not_round : is_before_by_angle south south_east ≡ false

-- sectors counter-clockwise from the first to the second
pub record SectorExamples : Type 0 where
  pub quarter : is_in_sector east north north_east ≡ true
  pub ends_are_outside : is_in_sector east north east ≡ false
  pub three_quarters : is_in_sector north east south ≡ true
  pub rest_is_outside : is_in_sector north east north_east ≡ false
  pub half : is_in_sector east west north ≡ true
  pub other_half : is_in_sector east west south ≡ false
  pub over_straight_down : is_in_sector west east south ≡ true
  pub full_turn : is_in_sector east east west ≡ true
  pub full_turn_but_itself : is_in_sector east east east ≡ false

-- the half-edges of the square: 0 and 1 along the bottom, then the right side
pub record SquareExamples : Type 0 where
  pub along_the_bottom : IsHalfEdge square 0 (record { edge = bottom; forwards = true })
  pub back_along_the_bottom : IsHalfEdge square 1 (record { edge = bottom; forwards = false })
  pub up_on_the_right : IsHalfEdge square 2 (record { edge = right; forwards = true })
