-- What a files object tells of itself.
use Rattle.std.specs.Prelude.{ℕ, List, [], Option, None, Bool, false, IsTrue}

-- the faults so far, the current input and output, and what the files hold, as far as it is told
pub record State : Type 0 where
  pub read_faults : ℕ
  pub write_faults : ℕ
  pub has_input : Bool
  pub has_output : Bool
  pub tells_output : Bool
  pub tells_left : Bool
  pub tells_files : Bool
  pub tells_room : Bool
  pub output : List ℕ
  pub left : List ℕ
  pub files : List ℕ → Option (List ℕ)
  pub room : ℕ

-- whoever tells what files hold tells the output's name and what the input has left; whoever tells a room tells what files hold
pub record IsTelling (s : State) : Type 0 where
  pub output : IsTrue s.tells_files → IsTrue s.tells_output
  pub left : IsTrue s.tells_files → IsTrue s.tells_left
  pub files : IsTrue s.tells_room → IsTrue s.tells_files

-- an object that tells the two counts and whether there is an input and an output, and nothing besides
abbrev pub untold : ℕ → ℕ → Bool → Bool → State
untold reads writes input output = record {
  read_faults = reads;
  write_faults = writes;
  has_input = input;
  has_output = output;
  tells_output = false;
  tells_left = false;
  tells_files = false;
  tells_room = false;
  output = [];
  left = [];
  files = λ _. None;
  room = 0;
}
