-- For every file in the grammar and range clean writes a valid coverage.
use Rattle.std.proofs.Common.{◌≡◌, ℕ, ◌≤◌, Bool, true, false, List, [], ◌∷◌, length, Option, Some, IsTrue, refl, inl, inr, subst}
use Rattle.std.specs.Prelude.{◌⊎◌}
use Rattle.cov_rules.specs.Places.{lawful as handed_lawful}
use Rattle.cov_types.specs.Coverage.{Members, AllInRange, IsFormed}
use Rattle.cov_types.specs.Uses.{uses_of}
use Rattle.plane.specs.Validity.{IsValid}
use Rattle.gap_replay.proofs.Held.{replay_valid, replay_held}
use Rattle.gap_replay.specs.Cleaned.{IsCleanedBy}
use Rattle.region_owners.specs.Owner.{Rule, IsLawful}
use Rattle.region_owners.proofs.Held.{lawful}
use Rattle.merge_rule.specs.RuleState.{RuleState}
use Rattle.cleaned_laws.proofs.Cleaned.{cleaned_valid}
use Rattle.cleaned_laws.proofs.ByLabel.{held_by_label}
use Rattle.cov_io.specs.State.{State}
use Rattle.feature_files.proofs.Files.{one_reading, read_formed}
use Rattle.feature_files.specs.Reading.{IsRead}
use Rattle.geo_json.specs.Reading.{Reading}
use Rattle.cover_cli.proofs.Causes.{not_read_and_refused}
use Rattle.cover_cli.proofs.Inputs.{same_inputs}
use Rattle.cover_cli.specs.Answers.{is_success, HoldsNoCause, HoldsText, IsSuccessUnlessFault, IsAnswer}
use Rattle.cover_cli.specs.Clean.{rule_of, picks_of, state_for, IsCleaning}
use Rattle.cover_cli.specs.Headline.{AreHeldBy, IsCleanText, HoldsCleanText, IsFileFault}
use Rattle.cover_cli.specs.Input.{AreInputs}
use Rattle.geo_text.specs.declared.reader.TheConstants.{LONGEST_INPUT}
use Rattle.cover_cli.specs.Made.{Makes}
use Rattle.cover_cli.specs.Task.{TaskRule, OneOfFour, HandedIn}
use Rattle.cover_cli.specs.Text.{IsReadAnd}
use Rattle.cover_words.specs.Words.{Clean}
use Rattle.cover_cli.specs.declared.outcome.Outcome.{Outcome}
use Rattle.cover_cli.specs.declared.outcome.Outcome.TheVariants.{Done}
use Rattle.cover_words.specs.declared.rule_name.RuleName.{RuleName}
use Rattle.cover_words.specs.declared.rule_name.RuleName.TheVariants.{LeastIndex, GreatestArea, LeastArea, LongestBorder}

-- each of the four rules picks one of the candidates
named_lawful : (name : RuleName) → IsLawful (rule_of name)
named_lawful LeastIndex = lawful.index
named_lawful GreatestArea = lawful.greatest
named_lawful LeastArea = lawful.least
named_lawful LongestBorder = lawful.longest

-- and so does a handed-in one
rule_lawful : (rule : TaskRule) → IsLawful (picks_of rule)
rule_lawful (OneOfFour name) = named_lawful name
rule_lawful (HandedIn numbers) = handed_lawful

-- what is cleaned is valid
valid_by : (too : Bool) (members : Members) → AllInRange members → (rule : Rule RuleState) (state : RuleState) (w : ℕ) (out : Members) → IsCleanedBy too members rule state w out → IsValid (uses_of out)
valid_by false members in_range rule state w out cleaned = cleaned_valid members in_range rule state w out cleaned
valid_by true members in_range rule state w out cleaned = replay_valid members in_range rule state w out cleaned

-- and each point lies as its label tells
held_by : (too : Bool) (members : Members) → AllInRange members → (rule : Rule RuleState) → IsLawful rule → (state : RuleState) (w : ℕ) (out : Members) → (cleaned : IsCleanedBy too members rule state w out)
    → AreHeldBy too members rule state w out cleaned
held_by false members in_range rule law state w out cleaned = λ edges odd noded p off. held_by_label members in_range rule law state w out cleaned edges odd noded p off
held_by true members in_range rule law state w out cleaned = λ edges odd noded p off. replay_held members in_range rule law state w out cleaned edges odd noded p off

-- what clean writes of a coverage that was read is a clean text
clean_text : (rule : TaskRule) (gap : ℕ) (too : Bool) (scale : Option ℕ) (to : List ℕ) (r : Reading) (outcome : Outcome) (text : List ℕ) → IsFormed r.members → IsCleaning rule gap too scale to r outcome text → IsCleanText rule gap too scale to r text
clean_text rule gap too scale to r outcome text formed cleaning = record {
  out = cleaning.out;
  written = cleaning.written;
  formed = cleaning.formed;
  valid = valid_by too r.members formed.in_range (picks_of rule) (state_for rule (length r.members)) gap cleaning.out cleaning.cleaned;
  cleaned = cleaning.cleaned;
  held = held_by too r.members formed.in_range (picks_of rule) (rule_lawful rule) (state_for rule (length r.members)) gap cleaning.out cleaning.cleaned;
}

module _ (rule : TaskRule) (gap : ℕ) (too : Bool) (scale : Option ℕ) (from to input : List ℕ) (r : Reading) (old new : State) (answer : Outcome) (told : IsTrue old.tells_files)
    (file : old.files from ≡ Some input) (within : length input ≤ LONGEST_INPUT) (reads : IsRead from scale input r)
    (a : IsAnswer (Clean rule gap too scale from to) old new answer) where
  formed : IsFormed r.members
  formed = read_formed from scale input r within reads

  read : AreInputs old (from ∷ []) (input ∷ [])
  read = (record { file = file; within = within }, tt)

  no_cause : HoldsNoCause (Clean rule gap too scale from to) old
  no_cause = record { inputs = input ∷ []; read = read; none = λ refusal refuses. not_read_and_refused from scale input (λ s. s ≡ r) refusal (record { reading = r; reads = reads; holds = refl }) refuses }

  -- what is written was made of the input
  made : (h : HoldsText (Clean rule gap too scale from to) old new answer) → IsReadAnd from scale input (λ s. IsCleaning rule gap too scale to s answer h.text)
  made h =
      let same = same_inputs old (from ∷ []) h.writes.inputs (input ∷ []) h.writes.read read in
      subst (λ inputs. Makes (Clean rule gap too scale from to) inputs answer h.text) same h.writes.makes

  done : IsTrue (is_success answer) → (answer ≡ Done) × HoldsCleanText rule gap too scale r to old new
  done ok =
      let h = a.written told ok in
      let m = made h in
      let same = one_reading from scale input m.reading r m.reads reads in
      let cleaning = subst (λ s. IsCleaning rule gap too scale to s answer h.text) same m.holds in
      (cleaning.done, record { text = h.text; is_clean = clean_text rule gap too scale to r answer h.text formed cleaning; held = h.held })

  by_cases : IsSuccessUnlessFault answer → ((answer ≡ Done) × HoldsCleanText rule gap too scale r to old new) ⊎ IsFileFault answer
  by_cases (inl ok) = inl (done ok)
  by_cases (inr fault) = inr fault

  pub headline : ((answer ≡ Done) × HoldsCleanText rule gap too scale r to old new) ⊎ IsFileFault answer
  headline = by_cases (a.good told no_cause)
