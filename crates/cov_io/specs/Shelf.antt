-- Files in memory, as a files object that tells everything.
use Rattle.std.specs.Prelude.{◌≡◌, ℕ, ◌≤◌, List, [], ◌∷◌, Option, Bool, true, false, is_some, IsTrue, length}
use Rattle.std.specs.Option.{unwrap_or}
use Rattle.cov_io.specs.declared.fail.Call.{Call}
use Rattle.cov_io.specs.declared.fail.Fail.{Fail}
use Rattle.cov_io.specs.State.{State}
use Rattle.cov_io.specs.Plan.{Planned, counted}
use Rattle.cov_io.specs.Entry.{Stored, held}

-- the files, the calls that are to fail, the most bytes that a call moves, the faults so far,
-- what the current input has left and the name of the current output
pub record Shelved : Type 0 where
  pub stored : Stored
  pub planned : Planned
  pub piece : ℕ
  pub read_faults : ℕ
  pub write_faults : ℕ
  pub left : Option (List ℕ)
  pub output : Option (List ℕ)

-- no call is to fail
abbrev pub is_faultless : List Fail → Bool
is_faultless [] = true
is_faultless (_ ∷ _) = false

-- a shelf tells everything, its room exactly where no call is to fail
abbrev pub shelf_state : Shelved → State
shelf_state s = record {
  read_faults = s.read_faults;
  write_faults = s.write_faults;
  has_input = is_some s.left;
  has_output = is_some s.output;
  tells_output = true;
  tells_left = true;
  tells_files = true;
  tells_room = is_faultless s.planned.fails;
  output = unwrap_or s.output [];
  left = unwrap_or s.left [];
  files = held s.stored.entries;
  room = s.stored.room;
}

-- what the file of the current output holds
abbrev pub output_bytes : Shelved → List ℕ
output_bytes s = unwrap_or (held s.stored.entries (unwrap_or s.output [])) []

-- the call was counted, and what was set up with the shelf is as it was
pub record IsCall (call : Call) (old new : Shelved) : Type 0 where
  pub planned : new.planned ≡ counted old.planned call
  pub piece : new.piece ≡ old.piece
  pub room : new.stored.room ≡ old.stored.room
