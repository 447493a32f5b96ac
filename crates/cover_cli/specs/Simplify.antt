-- What simplifying a coverage answers and writes.
use Rattle.std.specs.Prelude.{◌≡◌, ℕ, Bool, List, Option}
use Rattle.cov_types.specs.Coverage.{Members, IsFormed}
use Rattle.cov_types.specs.Uses.{uses_of}
use Rattle.plane.specs.Validity.{IsValid}
use Rattle.greedy_run.specs.Run.{IsSimplified}
use Rattle.feature_files.specs.Form.{IsWrittenAs}
use Rattle.feature_files.specs.Reading.{with_members}
use Rattle.geo_json.specs.Reading.{Reading}
use Rattle.cover_cli.specs.declared.outcome.Outcome.{Outcome}
use Rattle.cover_cli.specs.declared.outcome.Outcome.TheVariants.{Done}

-- the coverage is valid, it is done, and the text is the written form, by the name of the output and at the scale, of the coverage, simplified at the tolerance,
-- which is valid too, with the properties and ids that were read
pub record IsSimplifying (tolerance : ℕ) (inner : Bool) (scale : Option ℕ) (to : List ℕ) (r : Reading) (outcome : Outcome) (text : List ℕ) : Type 0 where
  pub admitted : IsValid (uses_of r.members)
  pub done : outcome ≡ Done
  pub out : Members
  pub simplified : IsSimplified r.members tolerance inner out
  pub valid : IsValid (uses_of out)
  pub formed : IsFormed out
  pub written : IsWrittenAs to scale (with_members r out) text
