-- Why a coverage is not admitted.
use Rattle.std.specs.Prelude.{◌≡◌}
use Rattle.cov_types.specs.Coverage.{Members}
use Rattle.cov_types.specs.Uses.{uses_of}
use Rattle.cov_admit.specs.FirstMark.{IsFirstMark}
use Rattle.cov_admit.specs.declared.error.AdmitError.{AdmitError}
use Rattle.cov_admit.specs.declared.error.AdmitError.TheVariants.{NotValid, NoMemory}
use Rattle.plane.specs.Validity.{IsValid}

-- the coverage is handed back: with its first mark where it is not valid, or for want of memory
abbrev pub IsRefusal : Members → AdmitError → Type 0
IsRefusal members (NotValid coverage mark) = (coverage ≡ members) × IsFirstMark members mark × ¬ IsValid (uses_of members)
IsRefusal members (NoMemory coverage) = coverage ≡ members
