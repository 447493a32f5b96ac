-- Instances over one square of size 10: its ring, its part, and that clean leaves it as it is.
use Rattle.std.specs.Prelude.{ℕ, ◌==◌, [], ◌∷◌}
use Rattle.cov_types.specs.Coverage.{Members}
use Rattle.arrangement.specs.Square.{shell, square_edges, lone}
use Rattle.region_owners.specs.Square.{lone_owners, by_index}
use Rattle.sound_polygons.specs.Parts.{IsSimple, IsPartOf, IsSound}
use Rattle.sound_polygons.specs.Cleaned.{IsCleaned}
use Rattle.sound_polygons.specs.Holding.{HoldsByOwner, IsUnionOf}

-- the coverage of the one member with the one ring
abbrev pub lone_square : Members
lone_square = ((shell ∷ []) ∷ []) ∷ []

-- what the definitions say of it
pub record SquareExamples : Type 0 where
  pub simple : IsSimple shell
  pub part : IsPartOf lone lone_owners 0 1 (λ r. r == 1)
  pub sound : IsSound lone (λ r. r == 1) (shell ∷ [])
  pub cleaned : (w : ℕ) → IsCleaned lone_square by_index 0 w lone_square

-- a member with nothing
abbrev pub no_square : Members
no_square = [] ∷ []

-- the square, and beside it a member with nothing
abbrev pub square_and_nothing : Members
square_and_nothing = ((shell ∷ []) ∷ []) ∷ [] ∷ []

-- the square holds the points that its owner has to hold, and nothing does not
pub record HoldingExamples : Type 0 where
  pub by_owner : HoldsByOwner square_edges lone lone_owners lone_square
  pub not_by_owner : ¬ HoldsByOwner square_edges lone lone_owners no_square
  pub union : IsUnionOf square_and_nothing lone_square
  pub no_union : ¬ IsUnionOf square_and_nothing no_square
