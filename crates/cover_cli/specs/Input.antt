-- What the files hold that an operation reads.
use Rattle.std.specs.Prelude.{◌≡◌, ℕ, ◌<◌, ◌≤◌, List, length, Some}
use Rattle.std.specs.List.{AllZip}
use Rattle.cov_io.specs.State.{State}
use Rattle.geo_text.specs.declared.reader.TheConstants.{LONGEST_INPUT}

-- the file of this name holds these bytes, and no more than an input may
pub record Holds (s : State) (name bytes : List ℕ) : Type 0 where
  pub file : s.files name ≡ Some bytes
  pub within : length bytes ≤ LONGEST_INPUT

-- the file of this name holds more bytes than an input may
pub record HoldsTooMuch (s : State) (name : List ℕ) : Type 0 where
  pub bytes : List ℕ
  pub file : s.files name ≡ Some bytes
  pub longer : LONGEST_INPUT < length bytes

-- the inputs are what the files of these names hold, in their order
abbrev pub AreInputs : State → List (List ℕ) → List (List ℕ) → Type 0
AreInputs s names inputs = AllZip (Holds s) names inputs
