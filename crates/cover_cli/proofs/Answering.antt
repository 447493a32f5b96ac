-- What an operation answers, from how its inputs were read, what it made of them and how that was written.
use Rattle.std.proofs.Common.{◌≡◌, ◌≢◌, ℕ, ◌≤◌, true, false, List, take, length, IsTrue, refl, sym, ap, subst, ◌∙◌, arith, inl, inr}
use Rattle.std.specs.Prelude.{All}
use Rattle.cov_io.specs.Calls.{IsPromised}
use Rattle.cov_io.specs.Contents.{Contents, SameFiles, HoldsNow, HoldsPrefix}
use Rattle.cov_io.specs.Count.{Rose}
use Rattle.cov_io.specs.Frame.{KeepsOutput, KeepsInput}
use Rattle.cov_io.specs.State.{State, IsTelling}
use Rattle.cover_cli.specs.Answers.{is_success, is_refusal, is_marked, is_sampled, touches_output, MayWrite, IsOnlyText, HoldsCause, IsAnswer}
use Rattle.cover_cli.specs.Input.{AreInputs}
use Rattle.cover_cli.specs.Made.{Makes, Refuses}
use Rattle.cover_cli.specs.Refusal.{IsRefusedFor, IsUnread}
use Rattle.cover_cli.specs.Task.{Task}
use Rattle.cover_words.specs.Words.{inputs_of, output_of}
use Rattle.cover_cli.specs.Written.{IsTextWritten, IsWrittenWhole, IsWrittenInPart}
use Rattle.cover_cli.specs.declared.outcome.Outcome.{Outcome}
use Rattle.cover_cli.specs.declared.outcome.Outcome.TheVariants.{Done, Marked, Usage, ReadFault, WriteFault, TooLong, BadText, BadJson, BadPoints, NotValid, TooMany, NoMemory, Sampled}
use Rattle.cover_cli.specs.declared.making.Made.{Made}
use Rattle.cover_cli.proofs.Causes.{one_refusal, refuses_refusal, not_both, makes_success, makes_marked, makes_sampled, makes_some, differs, refusal_no_success, refusal_no_touch, success_touches, marked_success, success_no_refusal, untouching_no_success}
use Rattle.cover_cli.proofs.Inputs.{same_inputs, none_too_long, promised_after}
use Rattle.cover_cli.proofs.OneText.{one_text}

-- ---- what was read excludes other causes

-- inputs that were read are a cause for no other refusal
same_cause : (operation : Task) (old : State) (inputs : List (List ℕ)) (o p : Outcome) → AreInputs old (inputs_of operation) inputs → Refuses operation inputs o → HoldsCause operation old p → p ≡ o
same_cause operation old inputs o p read refuses cause =
    let same : cause.inputs ≡ inputs = same_inputs old (inputs_of operation) cause.inputs inputs cause.read read in
    one_refusal operation inputs p o (subst (λ (is : List (List ℕ)). Refuses operation is p) same cause.refuses) refuses

-- inputs of which a text was made are a cause for no refusal
no_cause : (operation : Task) (old : State) (inputs : List (List ℕ)) (o p : Outcome) (text : List ℕ) → AreInputs old (inputs_of operation) inputs → Makes operation inputs o text → HoldsCause operation old p → ⊥
no_cause operation old inputs o p text read makes cause =
    let same : cause.inputs ≡ inputs = same_inputs old (inputs_of operation) cause.inputs inputs cause.read read in
    not_both operation inputs o p text makes (subst (λ (is : List (List ℕ)). Refuses operation is p) same cause.refuses)

-- ---- refusals

-- memory ran out, before the output was created
pub without_memory : (operation : Task) (old new : State) → new.read_faults ≡ old.read_faults → KeepsOutput old new → IsAnswer operation old new NoMemory
without_memory operation old new reads kept = record {
  usage = λ h. cc;
  written = λ told success. cc;
  marked = λ marks. cc;
  some = λ h. cc;
  sampled = λ success. cc;
  closed = λ touching. cc;
  current = λ h. kept.present;
  read_fault = λ h. cc;
  no_read_fault = λ h. reads;
  write_fault = λ h. cc;
  no_write_fault = λ h. kept.faults;
  too_long = λ told h. cc;
  long = λ told h. inr (inr refl);
  refused = λ told h. cc;
  faulty = λ refusal told h. inr (inr refl);
  good = λ told h. inr (inr (inr refl));
  readable = λ p h. cc;
  writable = λ p fits h. cc;
  untouched = λ told h. kept.files told;
  left = λ told h. cc;
}

-- an input was not read
pub unread : (operation : Task) (old new : State) (o : Outcome) → IsUnread o (inputs_of operation) old new → KeepsOutput old new
    → (All (λ name. IsPromised name old) (inputs_of operation) → o ≢ ReadFault) → IsAnswer operation old new o
unread operation old new ReadFault cause kept promised = record {
  usage = λ h. cc;
  written = λ told success. cc;
  marked = λ marks. cc;
  some = λ h. cc;
  sampled = λ success. cc;
  closed = λ touching. cc;
  current = λ h. kept.present;
  read_fault = λ h. cause;
  no_read_fault = λ h. absurd (h refl);
  write_fault = λ h. cc;
  no_write_fault = λ h. kept.faults;
  too_long = λ told h. cc;
  long = λ told h. inr (inl refl);
  refused = λ told h. cc;
  faulty = λ refusal told h. inr (inl refl);
  good = λ told h. inr (inl refl);
  readable = promised;
  writable = λ p fits h. cc;
  untouched = λ told h. kept.files told;
  left = λ told h. cc;
}
unread operation old new TooLong cause kept promised = record {
  usage = λ h. cc;
  written = λ told success. cc;
  marked = λ marks. cc;
  some = λ h. cc;
  sampled = λ success. cc;
  closed = λ touching. cc;
  current = λ h. kept.present;
  read_fault = λ h. cc;
  no_read_fault = λ h. cause.0;
  write_fault = λ h. cc;
  no_write_fault = λ h. kept.faults;
  too_long = λ told h. cause.1 told;
  long = λ told h. inl refl;
  refused = λ told h. cc;
  faulty = λ refusal told h. absurd (none_too_long old (inputs_of operation) h.inputs h.read (cause.1 told));
  good = λ told h. absurd (none_too_long old (inputs_of operation) h.inputs h.read (cause.1 told));
  readable = promised;
  writable = λ p fits h. cc;
  untouched = λ told h. kept.files told;
  left = λ told h. cc;
}
unread operation old new NoMemory cause kept promised = without_memory operation old new cause kept
unread operation old new Done cause kept promised = absurd cause
unread operation old new (Marked edges) cause kept promised = absurd cause
unread operation old new (Sampled members polygons points) cause kept promised = absurd cause
unread operation old new Usage cause kept promised = absurd cause
unread operation old new WriteFault cause kept promised = absurd cause
unread operation old new (BadText fault) cause kept promised = absurd cause
unread operation old new (BadJson fault) cause kept promised = absurd cause
unread operation old new (BadPoints fault) cause kept promised = absurd cause
unread operation old new (NotValid mark) cause kept promised = absurd cause
unread operation old new (TooMany count) cause kept promised = absurd cause

-- the inputs were read, and are a cause for the refusal
refused_for : (operation : Task) (old new : State) (inputs : List (List ℕ)) (o : Outcome) → (IsTrue old.tells_files → AreInputs old (inputs_of operation) inputs)
    → new.read_faults ≡ old.read_faults → KeepsOutput old new → Refuses operation inputs o → IsAnswer operation old new o
refused_for operation old new inputs o read reads kept refuses =
    let refusal : IsTrue (is_refusal o) = refuses_refusal operation inputs o refuses in
    let none : IsTrue (is_success o) → ⊥ = λ success. (let e : true ≡ false = sym success ∙ refusal_no_success o refusal in cc) in
    record {
      usage = differs is_refusal o Usage refusal refl;
      written = λ told success. absurd (none success);
      marked = λ marks. absurd (none (marked_success o marks));
      some = differs is_refusal o (Marked 0) refusal refl;
      sampled = λ success. absurd (none success);
      closed = λ touching. (let e : true ≡ false = sym touching ∙ refusal_no_touch o refusal in cc);
      current = λ h. kept.present;
      read_fault = λ h. absurd (differs is_refusal o ReadFault refusal refl h);
      no_read_fault = λ h. reads;
      write_fault = λ h. absurd (differs is_refusal o WriteFault refusal refl h);
      no_write_fault = λ h. kept.faults;
      too_long = λ told h. absurd (differs is_refusal o TooLong refusal refl h);
      long = λ told h. absurd (none_too_long old (inputs_of operation) inputs (read told) h);
      refused = λ told h. record { inputs = inputs; read = read told; refuses = refuses };
      faulty = λ other told h. inl (sym (same_cause operation old inputs o other (read told) refuses h));
      good = λ told h. absurd (h.none o (subst (λ (is : List (List ℕ)). Refuses operation is o) (same_inputs old (inputs_of operation) inputs h.inputs (read told) h.read) refuses));
      readable = λ p h. differs is_refusal o ReadFault refusal refl h;
      writable = λ p fits h. differs is_refusal o WriteFault refusal refl h;
      untouched = λ told h. kept.files told;
      left = λ told h. absurd (differs is_refusal o WriteFault refusal refl h);
    }

-- the inputs were read, and no text was made of them
pub unmade : (operation : Task) (old new : State) (inputs : List (List ℕ)) (o : Outcome) → (IsTrue old.tells_files → AreInputs old (inputs_of operation) inputs)
    → new.read_faults ≡ old.read_faults → KeepsOutput old new → IsRefusedFor (Refuses operation inputs) o → IsAnswer operation old new o
unmade operation old new inputs o read reads kept (inl none) = subst (IsAnswer operation old new) (sym none) (without_memory operation old new reads kept)
unmade operation old new inputs o read reads kept (inr refuses) = refused_for operation old new inputs o read reads kept refuses

-- ---- writing the text

-- the file holds the same, seen from before the inputs were read
held_from : (name bytes : List ℕ) (old mid new : Contents) → SameFiles old mid → HoldsNow name bytes mid new → HoldsNow name bytes old new
held_from name bytes old mid new same held = record { here = held.here; others = λ other apart. held.others other apart ∙ same other }

prefix_from : (name bytes : List ℕ) (old mid new : Contents) → SameFiles old mid → HoldsPrefix name bytes mid new → HoldsPrefix name bytes old new
prefix_from name bytes old mid new same (inl kept) = inl (λ other. kept other ∙ same other)
prefix_from name bytes old mid new same (inr (n, held)) = inr (n, held_from name (take n bytes) old mid new same held)

module _ (operation : Task) (old mid new : State) (inputs : List (List ℕ)) (made : Made) (o : Outcome) (read : IsTrue old.tells_files → AreInputs old (inputs_of operation) inputs) (reads : mid.read_faults ≡ old.read_faults) (kept : KeepsOutput old mid) (makes : Makes operation inputs made.outcome made.text.items) where
  -- what is told before the inputs are read is told after it
  still_told : IsTrue old.tells_files → IsTrue mid.tells_files
  still_told told = kept.tells.files ∙ told

  -- on what the files hold the operation writes what was made, and nothing else
  writes : IsTrue old.tells_files → MayWrite operation old made.outcome made.text.items
  writes told = record { inputs = inputs; read = read told; makes = makes }

  only : IsTrue old.tells_files → IsOnlyText operation old made.outcome made.text.items
  only told p other second = one_text operation old p made.outcome other made.text.items second (writes told)

  -- the text was written whole
  written_whole : o ≡ made.outcome → IsWrittenWhole (output_of operation) made.text.items mid new → new.has_output ≡ false → KeepsInput mid new → IsAnswer operation old new o
  written_whole is whole closed input =
      let ok : IsTrue (is_success o) = ap is_success is ∙ makes_success operation inputs made.outcome made.text.items makes in
      record {
        usage = differs is_success o Usage ok refl;
        written = λ told success. record {
          text = made.text.items;
          writes = subst (λ (p : Outcome). MayWrite operation old p made.text.items) (sym is) (writes told);
          only = subst (λ (p : Outcome). IsOnlyText operation old p made.text.items) (sym is) (only told);
          held = held_from (output_of operation) made.text.items old.files mid.files new.files (kept.files told) (whole.held (still_told told));
        };
        marked = λ marks. makes_marked operation inputs made.outcome made.text.items makes (ap is_marked (sym is) ∙ marks);
        some = λ h. makes_some operation inputs made.outcome made.text.items makes (sym is ∙ h);
        sampled = λ success. ap is_sampled is ∙ makes_sampled operation inputs made.outcome made.text.items makes;
        closed = λ touching. closed;
        current = λ h. (let e : true ≡ false = sym (success_touches o ok) ∙ h in cc);
        read_fault = λ h. absurd (differs is_success o ReadFault ok refl h);
        no_read_fault = λ h. input.faults ∙ reads;
        write_fault = λ h. absurd (differs is_success o WriteFault ok refl h);
        no_write_fault = λ h. whole.faults ∙ kept.faults;
        too_long = λ told h. absurd (differs is_success o TooLong ok refl h);
        long = λ told h. absurd (none_too_long old (inputs_of operation) inputs (read told) h);
        refused = λ told h. (let e : true ≡ false = sym h ∙ success_no_refusal o ok in cc);
        faulty = λ refusal told h. absurd (no_cause operation old inputs made.outcome refusal made.text.items (read told) makes h);
        good = λ told h. inl ok;
        readable = λ p h. differs is_success o ReadFault ok refl h;
        writable = λ p fits h. differs is_success o WriteFault ok refl h;
        untouched = λ told h. (let e : true ≡ false = sym ok ∙ untouching_no_success o h in cc);
        left = λ told h. absurd (differs is_success o WriteFault ok refl h);
      }

  -- the text was written in part
  written_in_part : IsTelling old → o ≡ WriteFault → IsWrittenInPart (output_of operation) made.text.items mid new → new.has_output ≡ false → KeepsInput mid new → IsAnswer operation old new o
  written_in_part telling is part closed input =
      record {
        usage = λ h. cc;
        written = λ told success. (let e : false ≡ true = sym (ap is_success is) ∙ success in cc);
        marked = λ marks. (let e : false ≡ true = sym (ap is_marked is) ∙ marks in cc);
        some = λ h. (let e : WriteFault ≡ Marked 0 = sym is ∙ h in cc);
        sampled = λ success. (let e : false ≡ true = sym (ap is_success is) ∙ success in cc);
        closed = λ touching. closed;
        current = λ h. (let e : true ≡ false = sym (ap touches_output is) ∙ h in cc);
        read_fault = λ h. cc;
        no_read_fault = λ h. input.faults ∙ reads;
        write_fault = λ h. subst (λ (n : ℕ). Rose n new.write_faults) kept.faults part.faults;
        no_write_fault = λ h. absurd (h is);
        too_long = λ told h. cc;
        long = λ told h. absurd (none_too_long old (inputs_of operation) inputs (read told) h);
        refused = λ told h. (let e : false ≡ true = sym (ap is_refusal is) ∙ h in cc);
        faulty = λ refusal told h. absurd (no_cause operation old inputs made.outcome refusal made.text.items (read told) makes h);
        good = λ told h. inr (inr (inl is));
        readable = λ p h. cc;
        writable = λ p fits h.
            (let told : IsTrue old.tells_files = telling.files p.room in
            let short : length made.text.items ≤ old.room = fits made.outcome made.text.items (writes told) in
            let same : mid.room ≡ old.room = kept.tells.bytes p.room in
            part.unpromised (promised_after (output_of operation) old mid telling kept p) (omega arith));
        untouched = λ told h. (let e : true ≡ false = sym (ap touches_output is) ∙ h in cc);
        left = λ told h. record {
          outcome = made.outcome;
          text = made.text.items;
          writes = writes told;
          only = only told;
          held = prefix_from (output_of operation) made.text.items old.files mid.files new.files (kept.files told) (part.held (still_told told));
        };
      }

  -- the text was written, whole or in part
  pub answered : IsTelling old → IsTextWritten (output_of operation) made mid new o → IsAnswer operation old new o
  answered telling w =
      elim w.cases as (λ _. IsAnswer operation old new o) [
        | inl p ↦ written_whole p.0 p.1 w.closed w.input
        | inr p ↦ written_in_part telling p.0 p.1 w.closed w.input
      ]
