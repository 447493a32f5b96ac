-- What `spill` can rely on.
use Rattle.std.specs.Prelude.{◌≡◌, ℕ, ◌+◌, ◌≤◌, List, length, Some, IsTrue}
use Rattle.cov_io.specs.State.{State}

-- a room is told, and the output has space for so many bytes more
pub record HasSpaceFor (count : ℕ) (s : State) : Type 0 where
  pub room : IsTrue s.tells_room
  pub held : List ℕ
  pub file : s.files s.output ≡ Some held
  pub within : length held + count ≤ s.room
