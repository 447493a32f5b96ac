-- What `slurp` answers.
use Rattle.std.specs.Prelude.{◌≡◌, ℕ, ◌+◌, ◌<◌, ◌≤◌, List, [], length, drop, Some, true, IsTrue, Err}
use Rattle.std.specs.declared.result.Result.{Result}
use Rattle.cov_io.specs.declared.input.SlurpError.{SlurpError}
use Rattle.cov_io.specs.declared.input.SlurpError.TheVariants.{ReadFault}
use Rattle.cov_io.specs.State.{State}
use Rattle.cov_io.specs.Count.{Rose}

-- there is a current input, and it has nothing left
pub record IsAtEnd (new : State) : Type 0 where
  pub present : new.has_input ≡ true
  pub left : IsTrue new.tells_files → new.left ≡ []

-- the file held more bytes than the limit, and the current input has left what comes after limit + 1 of them
pub record IsTooLong (name : List ℕ) (limit : ℕ) (old new : State) : Type 0 where
  pub held : List ℕ
  pub file : old.files name ≡ Some held
  pub longer : limit < length held
  pub left : new.left ≡ drop (limit + 1) held

-- the count of read faults rose at a read fault, and is as it was at every other answer
abbrev pub CountsReadFault : {T : Type 0} → Result T SlurpError → ℕ → ℕ → Type 0
CountsReadFault (Err ReadFault) before now = Rose before now
CountsReadFault _ before now = now ≡ before

-- the count of read faults never falls, and rises at a read fault alone
pub record HasReadCause {T : Type 0} (before now : ℕ) (result : Result T SlurpError) : Type 0 where
  pub later : before ≤ now
  pub counted : CountsReadFault result before now
