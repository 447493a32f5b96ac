-- What uniting a coverage answers and writes.
use Rattle.std.specs.Prelude.{◌≡◌, ℕ, List, Option}
use Rattle.cov_types.specs.Coverage.{Members, IsFormed}
use Rattle.cov_types.specs.Uses.{uses_of}
use Rattle.plane.specs.Validity.{IsValid}
use Rattle.sound_polygons.specs.Holding.{IsUnionOf}
use Rattle.cov_union.specs.United.{IsUnited}
use Rattle.feature_files.specs.Form.{IsWrittenAs}
use Rattle.feature_files.specs.Reading.{bare}
use Rattle.cover_cli.specs.declared.outcome.Outcome.{Outcome}
use Rattle.cover_cli.specs.declared.outcome.Outcome.TheVariants.{Done}

-- the coverage is valid, it is done, and the text is the written form, by the name of the output and at the scale, of one valid member that holds what some member
-- of the coverage holds, with null properties and no id
pub record IsUniting (scale : Option ℕ) (to : List ℕ) (members : Members) (outcome : Outcome) (text : List ℕ) : Type 0 where
  pub admitted : IsValid (uses_of members)
  pub done : outcome ≡ Done
  pub out : Members
  pub united : IsUnited members out
  pub union : IsUnionOf members out
  pub valid : IsValid (uses_of out)
  pub formed : IsFormed out
  pub written : IsWrittenAs to scale (bare out) text
