-- Instances of valid coverages: two neighbours, and two members in one place.
use Rattle.std.specs.Prelude.{[], ◌∷◌, ◌++◌}
use Rattle.cov_types.specs.Coverage.{Members}
use Rattle.cov_types.specs.Uses.{uses_of}
use Rattle.plane.specs.Validity.{IsValid}
use Rattle.arrangement.specs.Examples.{at}

-- the two halves of a square of size 10 with a diagonal as their common border
abbrev pub halves : Members
halves = (((at 0 0 ++ at 10 0 ++ at 10 10) ∷ []) ∷ []) ∷ (((at 0 0 ++ at 10 10 ++ at 0 10) ∷ []) ∷ []) ∷ []

-- the lower one twice
abbrev pub twins : Members
twins = (((at 0 0 ++ at 10 0 ++ at 10 10) ∷ []) ∷ []) ∷ (((at 0 0 ++ at 10 0 ++ at 10 10) ∷ []) ∷ []) ∷ []

-- neighbours are valid, and two members that hold the same points are not
pub record ValidExamples : Type 0 where
  pub valid : IsValid (uses_of halves)
  pub not_valid : ¬ IsValid (uses_of twins)
