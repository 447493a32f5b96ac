-- For any two files in the grammar and range whose readings are valid, and have not too many members or pairs, overlay writes a valid coverage of their pairs.
use Rattle.std.proofs.Common.{◌≡◌, ℕ, List, [], ◌∷◌, None, IsTrue, inl, inr, subst}
use Rattle.std.specs.Prelude.{◌⊎◌}
use Rattle.cov_io.specs.State.{State}
use Rattle.cov_types.specs.Coverage.{Members}
use Rattle.cov_types.specs.Uses.{uses_of}
use Rattle.feature_files.proofs.Files.{one_reading}
use Rattle.feature_files.specs.Reading.{IsRead}
use Rattle.geo_json.specs.Reading.{Reading}
use Rattle.overlaid_laws.proofs.Held.{overlaid_holds}
use Rattle.overlaid_laws.proofs.Joint.{joint_in_range}
use Rattle.plane.specs.Validity.{IsValid}
use Rattle.cover_cli.proofs.Causes.{not_overlaid_and_refused}
use Rattle.cover_cli.proofs.Inputs.{same_inputs}
use Rattle.cover_cli.specs.Answers.{is_success, HoldsNoCause, HoldsText, IsSuccessUnlessFault, IsAnswer}
use Rattle.cover_cli.specs.Headline.{IsFileFault}
use Rattle.cover_cli.specs.Input.{Holds, AreInputs}
use Rattle.cover_cli.specs.Made.{Makes}
use Rattle.cover_cli.specs.Overlaid.{IsOverlaidText, HoldsOverlaidText}
use Rattle.cover_cli.specs.Overlay.{IsOverlaying, TellsTooMany}
use Rattle.cover_cli.specs.Text.{IsReadAnd}
use Rattle.cover_words.specs.Words.{Overlay}
use Rattle.cover_cli.specs.declared.outcome.Outcome.{Outcome}
use Rattle.cover_cli.specs.declared.outcome.Outcome.TheVariants.{Done}

-- what overlay writes of two coverages is an overlaid text
overlaid_text : (to : List ℕ) (a b : Members) (outcome : Outcome) (text : List ℕ) → IsOverlaying to a b outcome text → IsOverlaidText to a b text
overlaid_text to a b outcome text made =
    let in_range = joint_in_range a b made.first.formed.in_range made.second.formed.in_range made.few_members in
    record {
      pairs = made.pairs;
      out = made.out;
      written = made.written;
      formed = made.formed;
      valid = made.valid;
      overlaid = made.overlaid;
      held = overlaid_holds a b in_range made.pairs made.out made.overlaid;
    }

module _ (first second to input other : List ℕ) (r s : Reading) (old new : State) (answer : Outcome) (told : IsTrue old.tells_files)
    (first_held : Holds old first input) (reads : IsRead first None input r) (valid : IsValid (uses_of r.members))
    (second_held : Holds old second other) (reads_too : IsRead second None other s) (valid_too : IsValid (uses_of s.members))
    (few : (outcome : Outcome) → ¬ TellsTooMany r.members s.members outcome)
    (a : IsAnswer (Overlay first second to) old new answer) where
  read : AreInputs old (first ∷ second ∷ []) (input ∷ other ∷ [])
  read = (first_held, (second_held, tt))

  no_cause : HoldsNoCause (Overlay first second to) old
  no_cause = record {
    inputs = input ∷ other ∷ [];
    read = read;
    none = λ refusal refuses. not_overlaid_and_refused first second input other r s refusal reads reads_too valid valid_too (few refusal) refuses;
  }

  -- what is written was made of the two inputs
  made : (h : HoldsText (Overlay first second to) old new answer) → IsReadAnd first None input (λ t. IsReadAnd second None other (λ u. IsOverlaying to t.members u.members answer h.text))
  made h =
      let same = same_inputs old (first ∷ second ∷ []) h.writes.inputs (input ∷ other ∷ []) h.writes.read read in
      subst (λ inputs. Makes (Overlay first second to) inputs answer h.text) same h.writes.makes

  overlaying : (h : HoldsText (Overlay first second to) old new answer) → IsOverlaying to r.members s.members answer h.text
  overlaying h =
      let m = made h in
      let same = one_reading first None input m.reading r m.reads reads in
      let again = subst (λ (t : Reading). IsReadAnd second None other (λ u. IsOverlaying to t.members u.members answer h.text)) same m.holds in
      let same_too = one_reading second None other again.reading s again.reads reads_too in
      subst (λ (u : Reading). IsOverlaying to r.members u.members answer h.text) same_too again.holds

  done : IsTrue (is_success answer) → (answer ≡ Done) × HoldsOverlaidText r.members s.members to old new
  done ok =
      let h = a.written told ok in
      let m = overlaying h in
      (m.done, record { text = h.text; is_overlaid = overlaid_text to r.members s.members answer h.text m; held = h.held })

  by_cases : IsSuccessUnlessFault answer → ((answer ≡ Done) × HoldsOverlaidText r.members s.members to old new) ⊎ IsFileFault answer
  by_cases (inl ok) = inl (done ok)
  by_cases (inr fault) = inr fault

  pub overlay_written : ((answer ≡ Done) × HoldsOverlaidText r.members s.members to old new) ⊎ IsFileFault answer
  overlay_written = by_cases (a.good told no_cause)
