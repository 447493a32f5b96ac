-- The outcomes that refuse an operation before anything is written, and their causes.
use Rattle.std.specs.Prelude.{◌≡◌, ℕ, List, IsTrue, Any, ◌⊎◌}
use Rattle.cov_io.specs.State.{State}
use Rattle.cov_io.specs.Count.{Rose}
use Rattle.cov_io.specs.declared.input.SlurpError.{SlurpError}
use Rattle.cov_io.specs.declared.input.SlurpError.TheVariants as slurps
use Rattle.cov_admit.specs.declared.error.AdmitError.{AdmitError}
use Rattle.cov_admit.specs.declared.error.AdmitError.TheVariants as admits
use Rattle.cov_locate.specs.declared.points.PointsError.{PointsError}
use Rattle.cov_locate.specs.declared.points.PointsError.TheVariants as points
use Rattle.cov_overlay.specs.declared.error.OverlayError.{OverlayError}
use Rattle.cov_overlay.specs.declared.error.OverlayError.TheVariants as overlays
use Rattle.cover_cli.specs.Input.{HoldsTooMuch}
use Rattle.cover_cli.specs.declared.outcome.Outcome.{Outcome}
use Rattle.cover_cli.specs.declared.outcome.Outcome.TheVariants.{ReadFault, TooLong, BadText, BadJson, BadPoints, NotValid, TooMany, NoMemory}
use Rattle.feature_files.specs.declared.error.FileError.{FileError}
use Rattle.feature_files.specs.declared.error.FileError.TheVariants as files
use Rattle.feature_files.specs.declared.error.FileFault.TheVariants.{Text, Json}

-- the outcome where a file is not read
abbrev pub outcome_of_slurp : SlurpError → Outcome
outcome_of_slurp slurps.ReadFault = ReadFault
outcome_of_slurp slurps.TooLong = TooLong
outcome_of_slurp slurps.NoMemory = NoMemory

-- the outcome where an input is not read as features
abbrev pub outcome_of_file : FileError → Outcome
outcome_of_file (files.Fault (Text fault)) = BadText fault
outcome_of_file (files.Fault (Json fault)) = BadJson fault
outcome_of_file files.NoMemory = NoMemory

-- the outcome where a coverage is not admitted
abbrev pub outcome_of_refusal : AdmitError → Outcome
outcome_of_refusal (admits.NotValid coverage mark) = NotValid mark
outcome_of_refusal (admits.NoMemory coverage) = NoMemory

-- the outcome where points are not read
abbrev pub outcome_of_points : PointsError → Outcome
outcome_of_points (points.Fault fault) = BadPoints fault
outcome_of_points points.NoMemory = NoMemory

-- the outcome where two coverages have no overlay
abbrev pub outcome_of_overlay : OverlayError → Outcome
outcome_of_overlay (overlays.TooMany count) = TooMany count
outcome_of_overlay overlays.NoMemory = NoMemory

-- memory ran out, or the refusal has this cause
abbrev pub IsRefusedFor : (Outcome → Type 0) → Outcome → Type 0
IsRefusedFor Cause outcome = (outcome ≡ NoMemory) ⊎ Cause outcome

-- the cause of an outcome where the files of these names are not read
abbrev pub IsUnread : Outcome → List (List ℕ) → State → State → Type 0
IsUnread ReadFault names old new = Rose old.read_faults new.read_faults
IsUnread TooLong names old new = (new.read_faults ≡ old.read_faults) × (IsTrue old.tells_files → Any (HoldsTooMuch old) names)
IsUnread NoMemory names old new = new.read_faults ≡ old.read_faults
IsUnread outcome names old new = ⊥
