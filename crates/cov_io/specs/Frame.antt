-- What a call leaves as it was.
use Rattle.std.specs.Prelude.{◌≡◌, IsTrue}
use Rattle.cov_io.specs.State.{State}
use Rattle.cov_io.specs.Contents.{SameFiles}

-- the same meanings are told as before, and a told room is as it was
pub record TellsTheSame (old new : State) : Type 0 where
  pub output : new.tells_output ≡ old.tells_output
  pub left : new.tells_left ≡ old.tells_left
  pub files : new.tells_files ≡ old.tells_files
  pub room : new.tells_room ≡ old.tells_room
  pub bytes : IsTrue old.tells_room → new.room ≡ old.room

-- no file changed, nor the count of write faults, nor the current output
pub record KeepsOutput (old new : State) : Type 0 where
  pub tells : TellsTheSame old new
  pub faults : new.write_faults ≡ old.write_faults
  pub present : new.has_output ≡ old.has_output
  pub output : IsTrue old.tells_output → new.output ≡ old.output
  pub files : IsTrue old.tells_files → SameFiles old.files new.files

-- neither the count of read faults changed, nor whether there is a current input
pub record KeepsInput (old new : State) : Type 0 where
  pub tells : TellsTheSame old new
  pub faults : new.read_faults ≡ old.read_faults
  pub present : new.has_input ≡ old.has_input
