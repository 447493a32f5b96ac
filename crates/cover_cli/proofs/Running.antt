-- What a run answers and how it leaves the handed-in rules, from how its inputs were read, what it made of them and how that was written.
use Rattle.std.proofs.Common.{◌≡◌, ◌≢◌, ◌∙◌, ◌⊎◌, ℕ, List, Option, Some, None, IsTrue, refl, sym, subst, inl, inr}
use Rattle.std.specs.Prelude.{All, IfSome}
use Rattle.cov_io.specs.Calls.{IsPromised}
use Rattle.cov_io.specs.Frame.{KeepsOutput}
use Rattle.cov_io.specs.State.{State, IsTelling}
use Rattle.merge_rule.specs.RuleState.{RuleState}
use Rattle.cover_cli.proofs.Answering.{unread, unmade, answered}
use Rattle.cover_cli.proofs.Handing.{same_inputs_of, same_output_of, left_made, left_unmade}
use Rattle.cover_cli.specs.Answers.{IsAnswer}
use Rattle.cover_cli.specs.Handed.{used_place, AreHandedBack, AreRulesLeft, IsRuleMade, IsRuleUnmade}
use Rattle.cover_cli.specs.Input.{AreInputs}
use Rattle.cover_cli.specs.Made.{Makes, Refuses}
use Rattle.cover_cli.specs.Refusal.{IsRefusedFor, IsUnread}
use Rattle.cover_cli.specs.Task.{task_of}
use Rattle.cover_cli.specs.Written.{IsTextWritten, IsWrittenWhole, IsWrittenInPart}
use Rattle.cover_cli.specs.declared.making.Made.{Made}
use Rattle.cover_cli.specs.declared.outcome.Outcome.{Outcome}
use Rattle.cover_cli.specs.declared.outcome.Outcome.TheVariants.{ReadFault, WriteFault, NoMemory}
use Rattle.cover_words.specs.Words.{Operation, inputs_of, output_of}

-- where memory runs out before the words name an operation, nothing changes, and that is an answer of the one that they name
pub unnamed : (named : Option Operation) (rules : List RuleState) (s : State) → IfSome named (λ operation. IsAnswer (task_of rules operation) s s NoMemory)
unnamed None rules s = tt
unnamed (Some operation) rules s = unread (task_of rules operation) s s NoMemory refl (record {
  tells = record { output = refl; left = refl; files = refl; room = refl; bytes = λ told. refl };
  faults = refl;
  present = refl;
  output = λ told. refl;
  files = λ told name. refl;
}) (λ all h. cc)

module _ (rules : List RuleState) (operation : Operation) (old : State) (names : List (List ℕ)) (are : names ≡ inputs_of operation) where
  -- the names are those of the task too
  of_task : names ≡ inputs_of (task_of rules operation)
  of_task = are ∙ sym (same_inputs_of rules operation)

  pub run_unread : (new : State) (o : Outcome) → IsUnread o names old new → KeepsOutput old new → (All (λ name. IsPromised name old) names → o ≢ ReadFault) → IsAnswer (task_of rules operation) old new o
  run_unread new o cause kept promised =
      unread (task_of rules operation) old new o (subst (λ (ns : List (List ℕ)). IsUnread o ns old new) of_task cause) kept
      (subst (λ (ns : List (List ℕ)). All (λ name. IsPromised name old) ns → o ≢ ReadFault) of_task promised)

  module _ (inputs : List (List ℕ)) (read : IsTrue old.tells_files → AreInputs old names inputs) where
    read_of_task : IsTrue old.tells_files → AreInputs old (inputs_of (task_of rules operation)) inputs
    read_of_task told = subst (λ (ns : List (List ℕ)). AreInputs old ns inputs) of_task (read told)

    read_of : IsTrue old.tells_files → AreInputs old (inputs_of operation) inputs
    read_of told = subst (λ (ns : List (List ℕ)). AreInputs old ns inputs) are (read told)

    pub run_unmade : (new : State) (o : Outcome) → new.read_faults ≡ old.read_faults → KeepsOutput old new → IsRefusedFor (Refuses (task_of rules operation) inputs) o → IsAnswer (task_of rules operation) old new o
    run_unmade new o reads kept refused = unmade (task_of rules operation) old new inputs o read_of_task reads kept refused

    pub run_left_unmade : (o : Outcome) (after : List RuleState) → IsRefusedFor (Refuses (task_of rules operation) inputs) o → AreHandedBack (IsRuleUnmade operation inputs o) (used_place operation) rules after
        → AreRulesLeft operation old o rules after
    run_left_unmade o after refused left = left_unmade operation old o inputs rules after read_of left refused

    module _ (mid new : State) (made : Made) (o : Outcome) (to : List ℕ) (written : IsTextWritten to made mid new o) (makes : Makes (task_of rules operation) inputs made.outcome made.text.items) where
      pub run_made : to ≡ output_of operation → mid.read_faults ≡ old.read_faults → KeepsOutput old mid → IsTelling old → IsAnswer (task_of rules operation) old new o
      run_made there reads kept telling =
          answered (task_of rules operation) old mid new inputs made o read_of_task reads kept makes telling
          (subst (λ (name : List ℕ). IsTextWritten name made mid new o) (there ∙ sym (same_output_of rules operation)) written)

      ended : ((o ≡ made.outcome) × IsWrittenWhole to made.text.items mid new) ⊎ ((o ≡ WriteFault) × IsWrittenInPart to made.text.items mid new) → (o ≡ made.outcome) ⊎ (o ≡ WriteFault)
      ended (inl whole) = inl whole.0
      ended (inr part) = inr part.0

      pub run_left_made : (after : List RuleState) → AreHandedBack (IsRuleMade operation inputs) (used_place operation) rules after → AreRulesLeft operation old o rules after
      run_left_made after left = left_made operation old made.outcome o made.text.items inputs rules after read_of left makes (ended written.cases)
