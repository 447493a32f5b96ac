-- The answer, and what the output then holds, are a function of the words and of what the inputs hold.
use Rattle.std.proofs.Common.{◌≡◌, ℕ, List, [], ◌∷◌, IsTrue, Some, refl, sym, ap, subst, ◌∙◌, inl, inr}
use Rattle.std.specs.Prelude.{◌⊎◌, All, Any}
use Rattle.std.proofs.lemmas.List.Elements.{All-head, All-tail}
use Rattle.cov_io.specs.Calls.{IsPromised}
use Rattle.cov_io.specs.Count.{Rose}
use Rattle.cov_io.specs.State.{State}
use Rattle.cover_cli.proofs.Causes.{not_both, differs}
use Rattle.cover_cli.proofs.OneText.{one_text}
use Rattle.cover_cli.specs.Answers.{is_success, is_refusal, HasOneText, MayWrite, HoldsCause, HoldsNoCause, FitsRoom, IsUnlessEarlier, IsSuccessUnlessFault, IsAnswer}
use Rattle.cover_cli.specs.Input.{HoldsTooMuch, AreInputs}
use Rattle.cover_cli.specs.Laws.{is_settled, HoldAlike}
use Rattle.cover_cli.specs.Task.{Task}
use Rattle.cover_words.specs.Words.{inputs_of, output_of}
use Rattle.cover_cli.specs.declared.outcome.Outcome.{Outcome}
use Rattle.cover_cli.specs.declared.outcome.Outcome.TheVariants.{Done, Marked, Usage, ReadFault, WriteFault, TooLong, BadText, BadJson, BadPoints, NotValid, TooMany, NoMemory, Sampled}

-- ---- files that hold the same

-- the inputs of one are those of the other
inputs_again : (s t : State) (names inputs : List (List ℕ)) → All (λ name. s.files name ≡ t.files name) names → AreInputs s names inputs → AreInputs t names inputs
inputs_again s t [] [] alike are = are
inputs_again s t [] (i ∷ is) alike are = absurd are
inputs_again s t (n ∷ ns) [] alike are = absurd are
inputs_again s t (n ∷ ns) (i ∷ is) alike are = (
  record { file = sym (All-head (λ name. s.files name ≡ t.files name) n ns alike) ∙ are.0.file; within = are.0.within },
  inputs_again s t ns is (All-tail (λ name. s.files name ≡ t.files name) n ns alike) are.1,
)

-- an input that is too long in one is too long in the other
long_again : (s t : State) (names : List (List ℕ)) → All (λ name. s.files name ≡ t.files name) names → Any (HoldsTooMuch s) names → Any (HoldsTooMuch t) names
long_again s t names alike (k, name, within, at, long) =
    let same : s.files name ≡ t.files name = subst (λ (n : List ℕ). s.files n ≡ t.files n) at (alike k name within) in
    (k, name, within, at, record { bytes = long.bytes; file = sym same ∙ long.file; longer = long.longer })

-- and the other way round
alike_back : (operation : Task) (s t : State) → HoldAlike operation s t → HoldAlike operation t s
alike_back operation s t alike k name within = sym (alike k name within)

writes_again : (operation : Task) (s t : State) (o : Outcome) (text : List ℕ) → HoldAlike operation s t → MayWrite operation s o text → MayWrite operation t o text
writes_again operation s t o text alike writes = record {
  inputs = writes.inputs;
  read = inputs_again s t (inputs_of operation) writes.inputs alike writes.read;
  makes = writes.makes;
}

cause_again : (operation : Task) (s t : State) (o : Outcome) → HoldAlike operation s t → HoldsCause operation s o → HoldsCause operation t o
cause_again operation s t o alike cause = record {
  inputs = cause.inputs;
  read = inputs_again s t (inputs_of operation) cause.inputs alike cause.read;
  refuses = cause.refuses;
}

-- what a text is written of is a cause for no refusal
no_cause_beside : (operation : Task) (s : State) (o : Outcome) (text : List ℕ) → MayWrite operation s o text → HoldsNoCause operation s
no_cause_beside operation s o text writes = record {
  inputs = writes.inputs;
  read = writes.read;
  none = λ refusal refuses. not_both operation writes.inputs o refusal text writes.makes refuses;
}

-- ---- answers without a fault

as_expected : (expected answer : Outcome) → IsTrue (is_settled answer) → IsUnlessEarlier expected answer → answer ≡ expected
as_expected expected answer settled (inl same) = same
as_expected expected answer settled (inr (inl fault)) = absurd (differs is_settled answer ReadFault settled refl fault)
as_expected expected answer settled (inr (inr none)) = absurd (differs is_settled answer NoMemory settled refl none)

as_success : (answer : Outcome) → IsTrue (is_settled answer) → IsSuccessUnlessFault answer → IsTrue (is_success answer)
as_success answer settled (inl ok) = ok
as_success answer settled (inr (inl fault)) = absurd (differs is_settled answer ReadFault settled refl fault)
as_success answer settled (inr (inr (inl fault))) = absurd (differs is_settled answer WriteFault settled refl fault)
as_success answer settled (inr (inr (inr none))) = absurd (differs is_settled answer NoMemory settled refl none)

-- ---- two runs

module _ (operation : Task) (s s_after t t_after : State) (told : IsTrue s.tells_files) (told_too : IsTrue t.tells_files) (alike : HoldAlike operation s t) where
  after_success : (o p : Outcome) → IsAnswer operation s s_after o → IsAnswer operation t t_after p → IsTrue (is_success o) → IsTrue (is_settled p) → (o ≡ p) × (HasOneText operation s → IsTrue (is_success o) → s_after.files (output_of operation) ≡ t_after.files (output_of operation))
  after_success o p first second ok settled =
      let held = first.written told ok in
      let writes = writes_again operation s t o held.text alike held.writes in
      let ok_too = as_success p settled (second.good told_too (no_cause_beside operation t o held.text writes)) in
      let held_too = second.written told_too ok_too in
      let same = one_text operation s o p held.text held_too.text held.writes (writes_again operation t s p held_too.text (alike_back operation s t alike) held_too.writes) in
      (same.0, λ one success. held.held.here ∙ ap Some (same.1 one) ∙ sym held_too.held.here)

  after_refusal : (o p : Outcome) → IsAnswer operation s s_after o → IsAnswer operation t t_after p → IsTrue (is_refusal o) → IsTrue (is_settled p) → o ≡ p
  after_refusal o p first second refusal settled =
      sym (as_expected o p settled (second.faulty o told_too (cause_again operation s t o alike (first.refused told refusal))))

  after_long : (p : Outcome) → IsAnswer operation s s_after TooLong → IsAnswer operation t t_after p → IsTrue (is_settled p) → TooLong ≡ p
  after_long p first second settled =
      sym (as_expected TooLong p settled (second.long told_too (long_again s t (inputs_of operation) alike (first.too_long told refl))))

  one_answer_told : (o p : Outcome) → IsAnswer operation s s_after o → IsAnswer operation t t_after p → IsTrue (is_settled o) → IsTrue (is_settled p) → (o ≡ p) × (HasOneText operation s → IsTrue (is_success o) → s_after.files (output_of operation) ≡ t_after.files (output_of operation))
  one_answer_told Done p first second settled settled_too = after_success Done p first second refl settled_too
  one_answer_told (Marked edges) p first second settled settled_too = after_success (Marked edges) p first second refl settled_too
  one_answer_told (Sampled m q r) p first second settled settled_too = after_success (Sampled m q r) p first second refl settled_too
  one_answer_told Usage p first second settled settled_too = absurd (first.usage refl)
  one_answer_told ReadFault p first second settled settled_too = absurd (differs is_settled ReadFault ReadFault settled refl refl)
  one_answer_told WriteFault p first second settled settled_too = absurd (differs is_settled WriteFault WriteFault settled refl refl)
  one_answer_told TooLong p first second settled settled_too = (after_long p first second settled_too, λ one success. cc)
  one_answer_told (BadText fault) p first second settled settled_too = (after_refusal (BadText fault) p first second refl settled_too, λ one success. cc)
  one_answer_told (BadJson fault) p first second settled settled_too = (after_refusal (BadJson fault) p first second refl settled_too, λ one success. cc)
  one_answer_told (BadPoints fault) p first second settled settled_too = (after_refusal (BadPoints fault) p first second refl settled_too, λ one success. cc)
  one_answer_told (NotValid mark) p first second settled settled_too = (after_refusal (NotValid mark) p first second refl settled_too, λ one success. cc)
  one_answer_told (TooMany count) p first second settled settled_too = (after_refusal (TooMany count) p first second refl settled_too, λ one success. cc)
  one_answer_told NoMemory p first second settled settled_too = absurd (differs is_settled NoMemory NoMemory settled refl refl)

pub one_answer : (operation : Task) (s s_after t t_after : State) (o p : Outcome) → IsTrue s.tells_files → IsTrue t.tells_files → HoldAlike operation s t
    → IsAnswer operation s s_after o → IsAnswer operation t t_after p → IsTrue (is_settled o) → IsTrue (is_settled p)
    → (o ≡ p) × (HasOneText operation s → IsTrue (is_success o) → s_after.files (output_of operation) ≡ t_after.files (output_of operation))
one_answer operation s s_after t t_after o p told told_too alike = one_answer_told operation s s_after t t_after told told_too alike o p

-- ---- completeness

no_other : (old new : State) (answer : Outcome) → (answer ≡ ReadFault → Rose old.read_faults new.read_faults) → (answer ≡ WriteFault → Rose old.write_faults new.write_faults)
    → ¬ Rose old.read_faults new.read_faults → ¬ Rose old.write_faults new.write_faults → IsSuccessUnlessFault answer → IsTrue (is_success answer) ⊎ (answer ≡ NoMemory)
no_other old new answer read_fault write_fault no_read no_write (inl ok) = inl ok
no_other old new answer read_fault write_fault no_read no_write (inr (inl fault)) = absurd (no_read (read_fault fault))
no_other old new answer read_fault write_fault no_read no_write (inr (inr (inl fault))) = absurd (no_write (write_fault fault))
no_other old new answer read_fault write_fault no_read no_write (inr (inr (inr none))) = inr none

pub complete : (operation : Task) (old new : State) (answer : Outcome) → IsAnswer operation old new answer → IsTrue old.tells_files → HoldsNoCause operation old
    → ¬ Rose old.read_faults new.read_faults → ¬ Rose old.write_faults new.write_faults → IsTrue (is_success answer) ⊎ (answer ≡ NoMemory)
complete operation old new answer a told none no_read no_write = no_other old new answer a.read_fault a.write_fault no_read no_write (a.good told none)

pub faultless : (operation : Task) (old new : State) (answer : Outcome) → IsAnswer operation old new answer
    → All (λ name. IsPromised name old) (inputs_of operation) → IsPromised (output_of operation) old → FitsRoom operation old
    → (new.read_faults ≡ old.read_faults) × (new.write_faults ≡ old.write_faults)
faultless operation old new answer a inputs output fits = (a.no_read_fault (a.readable inputs), a.no_write_fault (a.writable output fits))
