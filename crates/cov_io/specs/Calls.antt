-- What the calls of a files object do.
use Rattle.std.specs.Prelude.{◌≡◌, ℕ, ◌≤◌, ◌<◌, List, [], ◌++◌, take, length, Some, true, IsTrue, ◌↔◌}
use Rattle.cov_io.specs.State.{State}
use Rattle.cov_io.specs.Contents.{HoldsNow, Appends}

-- the current input is the file of this name, and what it has left is all that the file holds
pub record IsOpened (name : List ℕ) (old new : State) : Type 0 where
  pub present : new.has_input ≡ true
  pub all : IsTrue old.tells_files → old.files name ≡ Some new.left

-- the first n bytes of what was left are in the buffer, and n is 0 exactly where nothing was left
pub record IsRead (n : ℕ) (buffer : List ℕ) (old new : State) : Type 0 where
  pub fits : n ≤ length buffer
  pub bytes : IsTrue old.tells_left → old.left ≡ take n buffer ++ new.left
  pub ends : IsTrue old.tells_left → (n ≡ 0) ↔ (old.left ≡ [])

-- the current output is the file of this name, and it is empty
pub record IsCreated (name : List ℕ) (old new : State) : Type 0 where
  pub present : new.has_output ≡ true
  pub output : IsTrue old.tells_output → new.output ≡ name
  pub empty : IsTrue old.tells_files → HoldsNow name [] old.files new.files

-- the file of the current output holds what it held, then the first n bytes of the piece
pub record IsWritten (n : ℕ) (piece : List ℕ) (old new : State) : Type 0 where
  pub some : 1 ≤ n
  pub fits : n ≤ length piece
  pub bytes : IsTrue old.tells_files → Appends old.output (take n piece) old.files new.files

-- the current output stays the current output
pub record SameOutput (old new : State) : Type 0 where
  pub present : new.has_output ≡ old.has_output
  pub output : IsTrue old.tells_output → new.output ≡ old.output

-- a room is told, and there is a file of this name
pub record IsPromised (name : List ℕ) (s : State) : Type 0 where
  pub room : IsTrue s.tells_room
  pub held : List ℕ
  pub file : s.files name ≡ Some held

-- a room is told, and the output holds fewer bytes than that
pub record HasSpace (s : State) : Type 0 where
  pub room : IsTrue s.tells_room
  pub held : List ℕ
  pub file : s.files s.output ≡ Some held
  pub below : length held < s.room
