-- When an operation on valid coverages refuses its input.
use Rattle.std.specs.Prelude.{◌⊎◌, ℕ, List, Option}
use Rattle.cov_types.specs.Coverage.{Members}
use Rattle.cov_types.specs.Uses.{uses_of}
use Rattle.plane.specs.Validity.{IsValid}
use Rattle.cov_admit.specs.FirstMark.{IsFirstMark}
use Rattle.cover_cli.specs.Text.{IsReadAnd, RefusesInput}
use Rattle.cover_cli.specs.declared.outcome.Outcome.{Outcome}
use Rattle.cover_cli.specs.declared.outcome.Outcome.TheVariants.{NotValid}

-- the coverage is not valid, and the outcome tells its first mark
abbrev pub TellsMark : Members → Outcome → Type 0
TellsMark members (NotValid mark) = IsFirstMark members mark × ¬ IsValid (uses_of members)
TellsMark members outcome = ⊥

-- the input of this name has a fault at the scale, or it is read as a coverage that is not valid
abbrev pub RefusesInvalid : List ℕ → Option ℕ → List ℕ → Outcome → Type 0
RefusesInvalid name scale input outcome = RefusesInput name scale input outcome ⊎ IsReadAnd name scale input (λ r. TellsMark r.members outcome)
