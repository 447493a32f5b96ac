-- When the answers of `cover` come, and what they leave.
use Rattle.std.specs.Prelude.{◌≡◌, ◌≢◌, ℕ, ◌≤◌, Bool, true, false, ◌&&◌, List, length, Option, Some, IsTrue, ◌⊎◌, All, Any}
use Rattle.cov_io.specs.Calls.{IsPromised}
use Rattle.cov_io.specs.Contents.{SameFiles, HoldsNow, HoldsPrefix}
use Rattle.cov_io.specs.Count.{Rose}
use Rattle.cov_io.specs.State.{State}
use Rattle.cover_cli.specs.declared.outcome.Outcome.{Outcome}
use Rattle.cover_cli.specs.declared.outcome.Outcome.TheVariants.{Done, Marked, Usage, ReadFault, WriteFault, TooLong, BadText, BadJson, BadPoints, NotValid, TooMany, NoMemory, Sampled}
use Rattle.cover_cli.specs.Input.{HoldsTooMuch, AreInputs}
use Rattle.cover_cli.specs.Made.{Makes, Refuses}
use Rattle.cover_cli.specs.Task.{Task}
use Rattle.cover_words.specs.Words.{Validate, MapFaults, Clean, Simplify, Sample, inputs_of, output_of, scale_of}
use Rattle.feature_files.specs.Form.{HasNoFloat}
use Rattle.file_form.specs.Name.{is_json}
use Rattle.feature_files.specs.Reading.{IsRead}
use Rattle.geo_json.specs.Reading.{Reading}

-- whether the operation looks for segments at fault
abbrev pub is_validate : Task → Bool
is_validate (Validate gap scale from to) = true
is_validate (MapFaults gap scale from to) = true
is_validate _ = false

-- whether the operation makes a coverage of its own
abbrev pub is_sample : Task → Bool
is_sample (Sample side seed to) = true
is_sample _ = false

-- ---- the kinds of answers

-- the output was written
abbrev pub is_success : Outcome → Bool
is_success Done = true
is_success (Marked edges) = true
is_success (Sampled members polygons points) = true
is_success _ = false

-- the inputs were read, and refused
abbrev pub is_refusal : Outcome → Bool
is_refusal (BadText fault) = true
is_refusal (BadJson fault) = true
is_refusal (BadPoints fault) = true
is_refusal (NotValid mark) = true
is_refusal (TooMany count) = true
is_refusal _ = false

-- segments are listed that are at fault
abbrev pub is_marked : Outcome → Bool
is_marked (Marked edges) = true
is_marked _ = false

-- counts are answered
abbrev pub is_sampled : Outcome → Bool
is_sampled (Sampled members polygons points) = true
is_sampled _ = false

-- the output may have been touched
abbrev pub touches_output : Outcome → Bool
touches_output WriteFault = true
touches_output outcome = is_success outcome

-- ---- what the files give the operation to do

-- on what the files hold, the operation answers this success and writes this text
pub record MayWrite (operation : Task) (s : State) (outcome : Outcome) (text : List ℕ) : Type 0 where
  pub inputs : List (List ℕ)
  pub read : AreInputs s (inputs_of operation) inputs
  pub makes : Makes operation inputs outcome text

-- the operation writes the properties and ids that it read: clean and simplify, from GeoJSON to GeoJSON
abbrev pub keeps_properties : Task → Bool
keeps_properties (Clean rule gap too scale from to) = is_json from && is_json to
keeps_properties (Simplify tolerance inner scale from to) = is_json from && is_json to
keeps_properties _ = false

-- no property and no id that is read of this file at the scale has a number that serde_json holds as a float
abbrev pub HoldsNoFloat : State → Option ℕ → List ℕ → Type 0
HoldsNoFloat s scale name = (input : List ℕ) (r : Reading) → s.files name ≡ Some input → IsRead name scale input r → HasNoFloat r

-- each byte that the operation may write is determined: it writes no properties and ids that it read, or they have no float
abbrev pub HasOneText : Task → State → Type 0
HasOneText operation s = (keeps_properties operation ≡ false) ⊎ All (HoldsNoFloat s (scale_of operation)) (inputs_of operation)

-- no other success may be answered on what the files hold, and no other text written but for the digits of floats
abbrev pub IsOnlyText : Task → State → Outcome → List ℕ → Type 0
IsOnlyText operation s outcome text =
    (other_outcome : Outcome) (other : List ℕ) → MayWrite operation s other_outcome other → (other_outcome ≡ outcome) × (HasOneText operation s → other ≡ text)

-- what the files hold is a cause for the operation to refuse it with this outcome
pub record HoldsCause (operation : Task) (s : State) (refusal : Outcome) : Type 0 where
  pub inputs : List (List ℕ)
  pub read : AreInputs s (inputs_of operation) inputs
  pub refuses : Refuses operation inputs refusal

-- the files can be read, and what they hold is a cause for no refusal
pub record HoldsNoCause (operation : Task) (s : State) : Type 0 where
  pub inputs : List (List ℕ)
  pub read : AreInputs s (inputs_of operation) inputs
  pub none : (refusal : Outcome) → ¬ Refuses operation inputs refusal

-- ---- what the files hold afterwards

-- the output holds the operation's whole text, the only one that it may write but for digits of floats, and every other file is as it was
pub record HoldsText (operation : Task) (old new : State) (outcome : Outcome) : Type 0 where
  pub text : List ℕ
  pub writes : MayWrite operation old outcome text
  pub only : IsOnlyText operation old outcome text
  pub held : HoldsNow (output_of operation) text old.files new.files

-- the output is as before or holds the first bytes of such a text, and every other file is as it was
pub record HoldsPart (operation : Task) (old new : State) : Type 0 where
  pub outcome : Outcome
  pub text : List ℕ
  pub writes : MayWrite operation old outcome text
  pub only : IsOnlyText operation old outcome text
  pub held : HoldsPrefix (output_of operation) text old.files new.files

-- ---- answers

-- the answer, unless a read fault comes first or memory runs out
abbrev pub IsUnlessEarlier : Outcome → Outcome → Type 0
IsUnlessEarlier expected answer = (answer ≡ expected) ⊎ ((answer ≡ ReadFault) ⊎ (answer ≡ NoMemory))

-- a success, unless a read or a write fault comes or memory runs out
abbrev pub IsSuccessUnlessFault : Outcome → Type 0
IsSuccessUnlessFault answer = IsTrue (is_success answer) ⊎ ((answer ≡ ReadFault) ⊎ ((answer ≡ WriteFault) ⊎ (answer ≡ NoMemory)))

-- each text that the operation may write has at most as many bytes as the room
abbrev pub FitsRoom : Task → State → Type 0
FitsRoom operation s = (outcome : Outcome) (text : List ℕ) → MayWrite operation s outcome text → length text ≤ s.room

-- the answer of an operation whose words were accepted: when it comes, and what it leaves. What is said of contents holds where they are told
pub record IsAnswer (operation : Task) (old new : State) (answer : Outcome) : Type 0 where
  pub usage : answer ≢ Usage
  -- a success: the whole text is in the output, and nothing else could be
  pub written : IsTrue old.tells_files → IsTrue (is_success answer) → HoldsText operation old new answer
  -- marked segments are answered by validate and by the map of faults alone, and where there are some
  pub marked : IsTrue (is_marked answer) → IsTrue (is_validate operation)
  pub some : answer ≢ Marked 0
  -- of the successes sample answers its counts, and every other operation none
  pub sampled : IsTrue (is_success answer) → is_sampled answer ≡ is_sample operation
  -- once the output was created, there is no current output; before that, the current output stays
  pub closed : IsTrue (touches_output answer) → new.has_output ≡ false
  pub current : touches_output answer ≡ false → new.has_output ≡ old.has_output
  -- a fault comes only where its count rose, and otherwise the count is as it was
  pub read_fault : answer ≡ ReadFault → Rose old.read_faults new.read_faults
  pub no_read_fault : answer ≢ ReadFault → new.read_faults ≡ old.read_faults
  pub write_fault : answer ≡ WriteFault → Rose old.write_faults new.write_faults
  pub no_write_fault : answer ≢ WriteFault → new.write_faults ≡ old.write_faults
  -- too long, exactly for an input of more bytes than it may hold
  pub too_long : IsTrue old.tells_files → answer ≡ TooLong → Any (HoldsTooMuch old) (inputs_of operation)
  pub long : IsTrue old.tells_files → Any (HoldsTooMuch old) (inputs_of operation) → IsUnlessEarlier TooLong answer
  -- a refusal of what was read, exactly for inputs that are a cause for it
  pub refused : IsTrue old.tells_files → IsTrue (is_refusal answer) → HoldsCause operation old answer
  pub faulty : (refusal : Outcome) → IsTrue old.tells_files → HoldsCause operation old refusal → IsUnlessEarlier refusal answer
  -- inputs that are a cause for no refusal are answered, and where a room is told no fault comes
  pub good : IsTrue old.tells_files → HoldsNoCause operation old → IsSuccessUnlessFault answer
  pub readable : All (λ name. IsPromised name old) (inputs_of operation) → answer ≢ ReadFault
  pub writable : IsPromised (output_of operation) old → FitsRoom operation old → answer ≢ WriteFault
  -- every other answer leaves every file as it was, and after a write fault the output holds at most the first bytes of the text
  pub untouched : IsTrue old.tells_files → touches_output answer ≡ false → SameFiles old.files new.files
  pub left : IsTrue old.tells_files → answer ≡ WriteFault → HoldsPart operation old new
