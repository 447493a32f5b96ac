-- What the files hold gives an operation one answer.
use Rattle.std.specs.Prelude.{◌≡◌, ◌⊎◌, ℕ, Bool, true, false, List, IsTrue, All}
use Rattle.cov_io.specs.Calls.{IsPromised}
use Rattle.cov_io.specs.Count.{Rose}
use Rattle.cov_io.specs.State.{State}
use Rattle.cover_cli.specs.declared.outcome.Outcome.{Outcome}
use Rattle.cover_cli.specs.declared.outcome.Outcome.TheVariants.{ReadFault, WriteFault, NoMemory}
use Rattle.cover_cli.specs.Answers.{is_success, HasOneText, MayWrite, HoldsCause, HoldsNoCause, FitsRoom, IsAnswer}
use Rattle.cover_cli.specs.Task.{Task}
use Rattle.cover_words.specs.Words.{inputs_of, output_of}

-- on what the files hold, an operation answers one success, and writes one text where no float of properties or ids is kept
abbrev pub OneTextLaw : Type 0
OneTextLaw = (operation : Task) (s : State) (o p : Outcome) (text other : List ℕ) → MayWrite operation s o text → MayWrite operation s p other
    → (o ≡ p) × (HasOneText operation s → text ≡ other)

-- what the files hold is a cause for one refusal
abbrev pub OneRefusalLaw : Type 0
OneRefusalLaw = (operation : Task) (s : State) (o p : Outcome) → HoldsCause operation s o → HoldsCause operation s p → o ≡ p

-- where it is a cause for a refusal, no text is written
abbrev pub RefusedLaw : Type 0
RefusedLaw = (operation : Task) (s : State) (o p : Outcome) (text : List ℕ) → MayWrite operation s o text → HoldsCause operation s p → ⊥

-- no fault of a file came, and memory did not run out
abbrev pub is_settled : Outcome → Bool
is_settled ReadFault = false
is_settled WriteFault = false
is_settled NoMemory = false
is_settled _ = true

-- the inputs of the operation hold the same in both
abbrev pub HoldAlike : Task → State → State → Type 0
HoldAlike operation s t = All (λ name. s.files name ≡ t.files name) (inputs_of operation)

-- of two runs of an operation on the same inputs, faults and want of memory aside, the answers are equal, and the outputs where they are a success and
-- no float of properties or ids is kept
abbrev pub OneAnswerLaw : Type 0
OneAnswerLaw = (operation : Task) (s s_after t t_after : State) (o p : Outcome) → IsTrue s.tells_files → IsTrue t.tells_files → HoldAlike operation s t
    → IsAnswer operation s s_after o → IsAnswer operation t t_after p → IsTrue (is_settled o) → IsTrue (is_settled p)
    → (o ≡ p) × (HasOneText operation s → IsTrue (is_success o) → s_after.files (output_of operation) ≡ t_after.files (output_of operation))

-- inputs that are a cause for no refusal are answered by a success where no count rose, unless memory runs out
abbrev pub CompleteLaw : Type 0
CompleteLaw = (operation : Task) (old new : State) (answer : Outcome) → IsAnswer operation old new answer → IsTrue old.tells_files → HoldsNoCause operation old
    → ¬ Rose old.read_faults new.read_faults → ¬ Rose old.write_faults new.write_faults → IsTrue (is_success answer) ⊎ (answer ≡ NoMemory)

-- where a room is told, the files have their names and each text fits, no count rises
abbrev pub NoFaultLaw : Type 0
NoFaultLaw = (operation : Task) (old new : State) (answer : Outcome) → IsAnswer operation old new answer
    → All (λ name. IsPromised name old) (inputs_of operation) → IsPromised (output_of operation) old → FitsRoom operation old
    → (new.read_faults ≡ old.read_faults) × (new.write_faults ≡ old.write_faults)
