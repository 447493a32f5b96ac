-- How handed-in rules come back, from what was made of the inputs.
use Rattle.std.proofs.Common.{◌≡◌, ◌∙◌, ℕ, ◌<◌, List, [], ◌∷◌, length, map, get_or, Bool, true, false, IsTrue, Option, Some, None, ◌⊎◌, inl, inr, refl, sym, ap, subst, set}
use Rattle.std.proofs.lemmas.List.{get_or-map, length-map, map-set, set-get_or}
use Rattle.std.proofs.Math.Seq.{take-length}
use Rattle.std.specs.Prelude.{Result, Ok, Err, IfOk, IfErr}
use Rattle.arrangement.specs.Overlay.{Overlay}
use Rattle.cov_io.specs.State.{State}
use Rattle.cov_rules.specs.Asked.{prepared, IsAskedAll, IsAskedUntil}
use Rattle.cov_rules.specs.Hired.{by_kind}
use Rattle.cov_types.specs.Coverage.{Members}
use Rattle.gap_replay.specs.Replay.{HasLastState, HasAskedSome}
use Rattle.geo_json.specs.Reading.{Reading}
use Rattle.merge_rule.specs.RuleState.{RuleState, no_state}
use Rattle.region_owners.specs.Owner.{Rule, shared_regions}
use Rattle.cover_cli.specs.Handed.{used_place, AreHandedBack, AreRulesLeft, IsMadeAsked, IsUnmadeAsked, IsRuleMade, IsRuleUnmade, IsRuleAfter}
use Rattle.cover_cli.specs.Input.{Holds, AreInputs}
use Rattle.cover_cli.proofs.Causes.{of_one, refuses_refusal, differs}
use Rattle.cover_cli.specs.Answers.{is_refusal}
use Rattle.cover_cli.specs.Made.{IsOneAnd, Makes, Refuses}
use Rattle.cover_cli.specs.Refusal.{IsRefusedFor, IsUnread}
use Rattle.cover_cli.specs.Task.{Task, TaskRule, task_of, told_rule}
use Rattle.cover_cli.specs.Text.{IsReadAnd}
use Rattle.cover_cli.specs.declared.outcome.Outcome.{Outcome}
use Rattle.cover_cli.specs.declared.outcome.Outcome.TheVariants.{Done, Marked, Usage, ReadFault, WriteFault, TooLong, BadText, BadJson, BadPoints, NotValid, TooMany, NoMemory, Sampled}
use Rattle.cover_words.specs.Words.{Operation, Validate, MapFaults, Clean, Simplify, Union, Node, Regions, Locate, Sample, Overlay as OverlayOf, inputs_of, output_of}
use Rattle.cover_words.specs.declared.rule_choice.RuleChoice.{RuleChoice}

-- ---- an operation and its task

-- they read and write the same files
pub same_inputs_of : (rules : List RuleState) (operation : Operation) → inputs_of (task_of rules operation) ≡ inputs_of operation
same_inputs_of rules (Validate gap scale from to) = refl
same_inputs_of rules (MapFaults gap scale from to) = refl
same_inputs_of rules (Clean rule gap too scale from to) = refl
same_inputs_of rules (Simplify tolerance inner scale from to) = refl
same_inputs_of rules (Union scale from to) = refl
same_inputs_of rules (Node scale from to) = refl
same_inputs_of rules (Regions scale from to) = refl
same_inputs_of rules (Sample side seed to) = refl
same_inputs_of rules (Locate from points to) = refl
same_inputs_of rules (OverlayOf first second to) = refl

pub same_output_of : (rules : List RuleState) (operation : Operation) → output_of (task_of rules operation) ≡ output_of operation
same_output_of rules (Validate gap scale from to) = refl
same_output_of rules (MapFaults gap scale from to) = refl
same_output_of rules (Clean rule gap too scale from to) = refl
same_output_of rules (Simplify tolerance inner scale from to) = refl
same_output_of rules (Union scale from to) = refl
same_output_of rules (Node scale from to) = refl
same_output_of rules (Regions scale from to) = refl
same_output_of rules (Sample side seed to) = refl
same_output_of rules (Locate from points to) = refl
same_output_of rules (OverlayOf first second to) = refl

-- ---- rules that are left

-- rules that no call changed are left, where one that is as it was is
pub unchanged : (Left : RuleState → RuleState → Type 0) → ((numbers : RuleState) → Left numbers numbers) → (place : Option ℕ) (rules : List RuleState) → AreHandedBack Left place rules rules
unchanged Left kept None rules = refl
unchanged Left kept (Some place) rules = (get_or rules place no_state, (sym (set-get_or rules place no_state), kept (get_or rules place no_state)))

-- what is left so is left in each way that follows from it
pub left_as : (Left Then : RuleState → RuleState → Type 0) → ((numbers now : RuleState) → Left numbers now → Then numbers now) → (place : Option ℕ) (before after : List RuleState)
    → AreHandedBack Left place before after → AreHandedBack Then place before after
left_as Left Then follows None before after left = left
left_as Left Then follows (Some place) before after left = (left.0, (left.1.0, follows (get_or before place no_state) left.0 left.1.1))

-- the rule at the place has another state, and the others their own
pub one_left : {X : Type 0} (Left : RuleState → RuleState → Type 0) (state : X → RuleState) (place : ℕ) (rules after : List X) (rule : X) → after ≡ set rules place rule
    → Left (get_or (map state rules) place no_state) (state rule) → AreHandedBack Left (Some place) (map state rules) (map state after)
one_left Left state place rules after rule is left = (state rule, (ap (map state) is ∙ map-set state rules place rule, left))

-- ---- what the states are

-- a rule that was asked for all was asked for the first of them, which are all
asked_all_some : (too : Bool) (rule : Rule RuleState) (state : RuleState) (o : Overlay) (w : ℕ) (now : RuleState) → HasLastState too rule state o w now → HasAskedSome too rule state o w now
asked_all_some false rule state o w now last = record { count = length (shared_regions o); reached = rw (take-length (shared_regions o)) last }
asked_all_some true rule state o w now last = inr (record { gaps = last.gaps; are_gaps = last.are_gaps; count = length last.gaps; reached = rw (take-length last.gaps) last.reached })

pub all_until : (members : Members) (gap : ℕ) (too : Bool) (numbers now : RuleState) → IsAskedAll members gap too numbers now → IsAskedUntil members gap too numbers now
all_until members gap too numbers now all = inr (λ o is. asked_all_some too by_kind (prepared numbers (length members)) o gap now (all o is))

-- ---- after making, and after writing

-- what an input was read as, of which this follows
pub read_as_before : (name : List ℕ) (scale : Option ℕ) (input : List ℕ) (P Q : Reading → Type 0) → ((r : Reading) → P r → Q r) → IsReadAnd name scale input P → IsReadAnd name scale input Q
read_as_before name scale input P Q follows read = record { reading = read.reading; reads = read.reads; holds = follows read.reading read.holds }

-- the outcome is one that leaves the rule of a cleaning as it was
abbrev pub LeavesRule : Outcome → Type 0
LeavesRule o = (s : State) (from : List ℕ) (scale : Option ℕ) (gap : ℕ) (too : Bool) (numbers : RuleState) → IsRuleAfter s from scale gap too o numbers numbers

unread_leaves : (o : Outcome) (names : List (List ℕ)) (old new : State) → IsUnread o names old new → LeavesRule o
unread_leaves ReadFault names old new cause = λ s from scale gap too numbers. refl
unread_leaves TooLong names old new cause = λ s from scale gap too numbers. refl
unread_leaves NoMemory names old new cause = λ s from scale gap too numbers. inl refl
unread_leaves Done names old new cause = absurd cause
unread_leaves (Marked edges) names old new cause = absurd cause
unread_leaves (Sampled members polygons points) names old new cause = absurd cause
unread_leaves Usage names old new cause = absurd cause
unread_leaves WriteFault names old new cause = absurd cause
unread_leaves (BadText fault) names old new cause = absurd cause
unread_leaves (BadJson fault) names old new cause = absurd cause
unread_leaves (BadPoints fault) names old new cause = absurd cause
unread_leaves (NotValid mark) names old new cause = absurd cause
unread_leaves (TooMany count) names old new cause = absurd cause

-- by cases of the operation: where a cleaning's rule is left so, and other operations have none, the rules are left
pub rules_left : (operation : Operation) (s : State) (o : Outcome) (before after : List RuleState)
    → ((rule : RuleChoice) (gap : ℕ) (too : Bool) (scale : Option ℕ) (from to : List ℕ) → operation ≡ Clean rule gap too scale from to → AreHandedBack (IsRuleAfter s from scale gap too o) (used_place operation) before after)
    → (used_place operation ≡ None → after ≡ before) → AreRulesLeft operation s o before after
rules_left (Validate gap scale from to) s o before after clean other = other refl
rules_left (MapFaults gap scale from to) s o before after clean other = other refl
rules_left (Clean rule gap too scale from to) s o before after clean other = clean rule gap too scale from to refl
rules_left (Simplify tolerance inner scale from to) s o before after clean other = other refl
rules_left (Union scale from to) s o before after clean other = other refl
rules_left (Node scale from to) s o before after clean other = other refl
rules_left (Regions scale from to) s o before after clean other = other refl
rules_left (Sample side seed to) s o before after clean other = other refl
rules_left (Locate from points to) s o before after clean other = other refl
rules_left (OverlayOf first second to) s o before after clean other = other refl

-- inputs that were not read leave the rules as they were
pub left_unread : (operation : Operation) (s : State) (o : Outcome) (names : List (List ℕ)) (old new : State) (rules : List RuleState) → IsUnread o names old new → AreRulesLeft operation s o rules rules
left_unread operation s o names old new rules cause =
    rules_left operation s o rules rules
    (λ rule gap too scale from to is. unchanged (IsRuleAfter s from scale gap too o) (unread_leaves o names old new cause s from scale gap too) (used_place operation) rules)
    (λ none. refl)

-- ---- a cleaning

module _ (rule : RuleChoice) (gap : ℕ) (too : Bool) (scale : Option ℕ) (from to : List ℕ) (s : State) where
  -- what is read, for the one input
  one_read : (P : List ℕ → RuleState → RuleState → Type 0) (o : Outcome) (inputs : List (List ℕ)) (numbers now : RuleState) → (IsTrue s.tells_files → AreInputs s (from ∷ []) inputs)
      → ((input : List ℕ) → (IsTrue s.tells_files → Holds s from input) → P input numbers now → IsRuleAfter s from scale gap too o numbers now)
      → IsOneAnd inputs (λ input. P input numbers now) → IsRuleAfter s from scale gap too o numbers now
  one_read P o [] numbers now read follows holds = absurd holds
  one_read P o (input ∷ []) numbers now read follows holds = follows input (λ told. (read told).0) holds
  one_read P o (input ∷ more ∷ rest) numbers now read follows holds = absurd holds

  unmade_after : (o : Outcome) (input : List ℕ) (numbers now : RuleState) → (IsTrue s.tells_files → Holds s from input) → IsUnmadeAsked from scale input gap too o numbers now
      → (o ≡ Done → ⊥) → (o ≡ WriteFault → ⊥) → IsRuleAfter s from scale gap too o numbers now
  unmade_after NoMemory input numbers now held (inl same) not_done not_fault = inl same
  unmade_after NoMemory input numbers now held (inr read) not_done not_fault = inr (record { input = input; held = held; read = read })
  unmade_after Done input numbers now held same not_done not_fault = absurd (not_done refl)
  unmade_after WriteFault input numbers now held same not_done not_fault = absurd (not_fault refl)
  unmade_after (Marked edges) input numbers now held same not_done not_fault = same
  unmade_after (Sampled members polygons points) input numbers now held same not_done not_fault = same
  unmade_after Usage input numbers now held same not_done not_fault = same
  unmade_after ReadFault input numbers now held same not_done not_fault = same
  unmade_after TooLong input numbers now held same not_done not_fault = same
  unmade_after (BadText fault) input numbers now held same not_done not_fault = same
  unmade_after (BadJson fault) input numbers now held same not_done not_fault = same
  unmade_after (BadPoints fault) input numbers now held same not_done not_fault = same
  unmade_after (NotValid mark) input numbers now held same not_done not_fault = same
  unmade_after (TooMany count) input numbers now held same not_done not_fault = same

  made_after : (o : Outcome) (input : List ℕ) (numbers now : RuleState) → (IsTrue s.tells_files → Holds s from input) → IsMadeAsked from scale input gap too numbers now
      → (o ≡ Done) ⊎ (o ≡ WriteFault) → IsRuleAfter s from scale gap too o numbers now
  made_after o input numbers now held read (inl done) =
      subst (λ (p : Outcome). IsRuleAfter s from scale gap too p numbers now) (sym done) (record { input = input; held = held; read = read })
  made_after o input numbers now held read (inr fault) =
      subst (λ (p : Outcome). IsRuleAfter s from scale gap too p numbers now) (sym fault) (record { input = input; held = held; read = read })

-- ---- a run

-- a cleaning is done
clean_done : (rule : TaskRule) (gap : ℕ) (too : Bool) (scale : Option ℕ) (from to : List ℕ) (inputs : List (List ℕ)) (o : Outcome) (text : List ℕ) → Makes (Clean rule gap too scale from to) inputs o text → o ≡ Done
clean_done rule gap too scale from to inputs o text = of_one inputs _ (o ≡ Done) (λ input makes. makes.holds.done)

-- what was made was written, whole or in part
pub left_made : (operation : Operation) (s : State) (p o : Outcome) (text : List ℕ) (inputs : List (List ℕ)) (before after : List RuleState)
    → (IsTrue s.tells_files → AreInputs s (inputs_of operation) inputs) → AreHandedBack (IsRuleMade operation inputs) (used_place operation) before after
    → Makes (task_of before operation) inputs p text → (o ≡ p) ⊎ (o ≡ WriteFault) → AreRulesLeft operation s o before after
left_made (MapFaults gap scale from to) s p o text inputs before after read left makes written = left
left_made (Clean rule gap too scale from to) s p o text inputs before after read left makes written =
    let ended : (o ≡ Done) ⊎ (o ≡ WriteFault) = by written in
    left_as (IsRuleMade (Clean rule gap too scale from to) inputs) (IsRuleAfter s from scale gap too o) (λ numbers now holds.
    one_read rule gap too scale from to s (λ input. IsMadeAsked from scale input gap too) o inputs numbers now read
    (λ input held asked. made_after rule gap too scale from to s o input numbers now held asked ended) holds)
    (used_place (Clean rule gap too scale from to)) before after left
  where
    by : (o ≡ p) ⊎ (o ≡ WriteFault) → (o ≡ Done) ⊎ (o ≡ WriteFault)
    by (inl same) = inl (same ∙ clean_done (told_rule before rule) gap too scale from to inputs p text makes)
    by (inr fault) = inr fault
left_made (Validate gap scale from to) s p o text inputs before after read left makes written = left
left_made (Simplify tolerance inner scale from to) s p o text inputs before after read left makes written = left
left_made (Union scale from to) s p o text inputs before after read left makes written = left
left_made (Node scale from to) s p o text inputs before after read left makes written = left
left_made (Regions scale from to) s p o text inputs before after read left makes written = left
left_made (Sample side seed to) s p o text inputs before after read left makes written = left
left_made (Locate from points to) s p o text inputs before after read left makes written = left
left_made (OverlayOf first second to) s p o text inputs before after read left makes written = left

-- an outcome that refuses what was read is no success and no write fault
unmade_apart : (task : Task) (inputs : List (List ℕ)) (o : Outcome) → IsRefusedFor (Refuses task inputs) o → ((o ≡ Done) → ⊥) × ((o ≡ WriteFault) → ⊥)
unmade_apart task inputs o (inl none) = (λ h. (let e : NoMemory ≡ Done = sym none ∙ h in cc), λ h. (let e : NoMemory ≡ WriteFault = sym none ∙ h in cc))
unmade_apart task inputs o (inr refuses) =
    let refusal = refuses_refusal task inputs o refuses in
    (differs is_refusal o Done refusal refl, differs is_refusal o WriteFault refusal refl)

-- nothing was made
pub left_unmade : (operation : Operation) (s : State) (o : Outcome) (inputs : List (List ℕ)) (before after : List RuleState)
    → (IsTrue s.tells_files → AreInputs s (inputs_of operation) inputs) → AreHandedBack (IsRuleUnmade operation inputs o) (used_place operation) before after
    → IsRefusedFor (Refuses (task_of before operation) inputs) o → AreRulesLeft operation s o before after
left_unmade (MapFaults gap scale from to) s o inputs before after read left refused = left
left_unmade (Clean rule gap too scale from to) s o inputs before after read left refused =
    let apart = unmade_apart (task_of before (Clean rule gap too scale from to)) inputs o refused in
    left_as (IsRuleUnmade (Clean rule gap too scale from to) inputs o) (IsRuleAfter s from scale gap too o) (λ numbers now holds.
    one_read rule gap too scale from to s (λ input. IsUnmadeAsked from scale input gap too o) o inputs numbers now read
    (λ input held asked. unmade_after rule gap too scale from to s o input numbers now held asked apart.0 apart.1) holds)
    (used_place (Clean rule gap too scale from to)) before after left
left_unmade (Validate gap scale from to) s o inputs before after read left refused = left
left_unmade (Simplify tolerance inner scale from to) s o inputs before after read left refused = left
left_unmade (Union scale from to) s o inputs before after read left refused = left
left_unmade (Node scale from to) s o inputs before after read left refused = left
left_unmade (Regions scale from to) s o inputs before after read left refused = left
left_unmade (Sample side seed to) s o inputs before after read left refused = left
left_unmade (Locate from points to) s o inputs before after read left refused = left
left_unmade (OverlayOf first second to) s o inputs before after read left refused = left

-- ---- the rule at a place

module _ {X : Type 0} (Left : RuleState → RuleState → Type 0) (state : X → RuleState) (place : ℕ) (rules : List X) (old new : X) (within : place < length rules) (is : old ≡ get_or rules place old) where
  -- its state is the one at the place among the states
  state_there : state old ≡ get_or (map state rules) place no_state
  state_there = ap state is ∙ sym (get_or-map state rules place old no_state within)

  one_back : Left (state old) (state new) → AreHandedBack Left (Some place) (map state rules) (map state (set rules place new))
  one_back left = one_left Left state place rules (set rules place new) new refl (subst (λ (numbers : RuleState). Left numbers (state new)) state_there left)

  -- it alone came back in another state, where a result is Ok
  pub back_ok : {T E : Type 0} (r : Result T E) → IfOk r (λ _. Left (state old) (state new)) → IfOk r (λ _. AreHandedBack Left (Some place) (map state rules) (map state (set rules place new)))
  back_ok (Ok x) left = one_back left
  back_ok (Err e) left = tt

  -- and where it is an error
  pub back_err : {T E : Type 0} (r : Result T E) → IfErr r (λ _. Left (state old) (state new)) → IfErr r (λ _. AreHandedBack Left (Some place) (map state rules) (map state (set rules place new)))
  back_err (Ok x) left = tt
  back_err (Err e) left = one_back left

-- ---- results

-- what holds anyway, holds of an error
pub of_error : {T E : Type 0} (r : Result T E) (P : E → Type 0) → ((e : E) → P e) → IfErr r P
of_error (Ok x) P all = tt
of_error (Err e) P all = all e

-- a rule that is as it was is left so by every outcome that no text was made with
pub kept_unmade : (from : List ℕ) (scale : Option ℕ) (input : List ℕ) (gap : ℕ) (too : Bool) (o : Outcome) (numbers : RuleState) → IsUnmadeAsked from scale input gap too o numbers numbers
kept_unmade from scale input gap too NoMemory numbers = inl refl
kept_unmade from scale input gap too o numbers = refl

-- lists of which the same is made are of one length
pub same_length : {X Y Z : Type 0} (f : X → Z) (g : Y → Z) (xs : List X) (ys : List Y) → map f xs ≡ map g ys → length xs ≡ length ys
same_length f g xs ys e = sym (length-map xs f) ∙ ap length e ∙ length-map ys g
