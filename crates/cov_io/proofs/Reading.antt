-- Reading a file to its end, piece by piece.
use Rattle.std.proofs.Common.{◌≡◌, ℕ, List, [], ◌++◌, take, Some, IsTrue, true, sym, ◌∙◌, ap, append_assoc}
use Rattle.cov_io.specs.State.{State, IsTelling}
use Rattle.cov_io.specs.Frame.{KeepsOutput}
use Rattle.cov_io.specs.Calls.{IsOpened, IsRead}
use Rattle.cov_io.proofs.Frames.{output-then}

-- the current input is the file of this name, which held what was taken and then what is left
pub record IsReading (name taken : List ℕ) (old now : State) : Type 0 where
  pub present : now.has_input ≡ true
  pub faults : now.read_faults ≡ old.read_faults
  pub kept : KeepsOutput old now
  pub all : IsTrue old.tells_files → old.files name ≡ Some (taken ++ now.left)

pub begun : (name : List ℕ) (old now : State) → IsOpened name old now → now.read_faults ≡ old.read_faults
    → KeepsOutput old now → IsReading name [] old now
begun name old now o f k = record { present = o.present; faults = f; kept = k; all = o.all }

-- an object that told what files hold tells what the input has left
pub tells-left : (old now : State) → KeepsOutput old now → IsTelling now → IsTrue old.tells_files → IsTrue now.tells_left
tells-left old now k t told = t.left (k.tells.files ∙ told)

pub goes_on : (name taken buffer : List ℕ) (n : ℕ) (old mid now : State) → IsReading name taken old mid
    → IsTelling mid → IsRead n buffer mid now → now.has_input ≡ true → now.read_faults ≡ mid.read_faults
    → KeepsOutput mid now → IsReading name (taken ++ take n buffer) old now
goes_on name taken buffer n old mid now r t s p f k = record {
  present = p;
  faults = f ∙ r.faults;
  kept = output-then old mid now r.kept k;
  all = λ told. r.all told ∙ ap (λ left. Some (taken ++ left)) (s.bytes (tells-left old mid r.kept t told))
      ∙ ap Some (sym (append_assoc taken (take n buffer) now.left));
}
