-- Examples of pairs, and two squares that overlap, one in each coverage.
use Rattle.std.specs.Prelude.{◌≡◌, ℕ, ◌==◌, List, [], ◌∷◌, ◌++◌, map, cond, Option, Some, None}
use Rattle.cov_types.specs.declared.coord.Coord.{Coord}
use Rattle.arrangement.specs.Examples.{at, overlap}
use Rattle.sound_polygons.specs.Cleaned.{IsBuilt}
use Rattle.overlaid_laws.specs.declared.pair.Pair.{Pair}
use Rattle.overlaid_laws.specs.Overlaid.{AreOverlaidOwners}
use Rattle.overlaid_laws.specs.Pairs.{pair_of, region_pair, ArePairs}

-- the pair of member i of the first coverage and member j of the second
abbrev pub pair : ℕ → ℕ → Pair
pair i j = record { a = i; b = j }

-- the pairs of labels, where the first coverage has three members
pub record LabelExamples : Type 0 where
  pub least_of_each : pair_of 3 (1 ∷ 2 ∷ 4 ∷ 5 ∷ []) ≡ Some (pair 1 1)
  pub first_of_second : pair_of 3 (0 ∷ 3 ∷ []) ≡ Some (pair 0 0)
  pub none_of_second : pair_of 3 (0 ∷ 2 ∷ []) ≡ None
  pub none_of_first : pair_of 3 (3 ∷ 4 ∷ []) ≡ None
  pub nobody : pair_of 3 [] ≡ None

-- who owns the regions of two squares that overlap: the one pair has region 7, which is in both
abbrev pub overlap_owners : ℕ → Option ℕ
overlap_owners r = cond (r == 7) (Some 0) None

-- the ring round what both squares hold
abbrev pub middle : List Coord
middle = at 5 0 ++ at 10 0 ++ at 10 10 ++ at 5 10

-- two squares that overlap have one pair, with the rectangle that both hold
pub record OverlapExamples : Type 0 where
  pub labelled : map (region_pair 1 overlap) (0 ∷ 1 ∷ 7 ∷ 13 ∷ []) ≡ None ∷ None ∷ Some (pair 0 0) ∷ None ∷ []
  pub pairs : ArePairs 1 overlap (pair 0 0 ∷ [])
  pub some_pair : ¬ ArePairs 1 overlap []
  pub owners : AreOverlaidOwners 1 overlap (pair 0 0 ∷ []) overlap_owners
  pub built : IsBuilt overlap overlap_owners 1 (((middle ∷ []) ∷ []) ∷ [])
