-- The rules that a caller hands in: which of them an operation goes by, and how they come back.
use Rattle.std.specs.Prelude.{◌≡◌, ◌⊎◌, ℕ, Bool, List, get_or, slice_set, Option, Some, None, IsTrue}
use Rattle.cov_io.specs.State.{State}
use Rattle.cov_rules.specs.Asked.{IsAskedAll, IsAskedUntil}
use Rattle.geo_json.specs.Reading.{Reading}
use Rattle.merge_rule.specs.RuleState.{RuleState, no_state}
use Rattle.cover_cli.specs.Input.{Holds}
use Rattle.cover_cli.specs.Made.{IsOneAnd}
use Rattle.cover_cli.specs.Text.{IsReadAnd}
use Rattle.cover_cli.specs.declared.outcome.Outcome.{Outcome}
use Rattle.cover_cli.specs.declared.outcome.Outcome.TheVariants.{Done, WriteFault, NoMemory}
use Rattle.cover_words.specs.Words.{Operation, Clean}
use Rattle.cover_words.specs.declared.rule_choice.RuleChoice.{RuleChoice}
use Rattle.cover_words.specs.declared.rule_choice.RuleChoice.TheVariants.{Own, Handed}

-- ---- the rule that is used

-- the place of the rule, where it is a handed-in one
abbrev pub chosen_place : RuleChoice → Option ℕ
chosen_place (Own name) = None
chosen_place (Handed place) = Some place

-- the place of the handed-in rule that the operation goes by, if it goes by one
abbrev pub used_place : Operation → Option ℕ
used_place (Clean rule gap too scale from to) = chosen_place rule
used_place _ = None

-- the same, where there is an operation
abbrev pub used_by : Option Operation → Option ℕ
used_by None = None
used_by (Some operation) = used_place operation

-- ---- the state of a rule

-- of the input of this name the cleaned coverage was made: the rule was asked for all of it
abbrev pub IsMadeAsked : List ℕ → Option ℕ → List ℕ → ℕ → Bool → RuleState → RuleState → Type 0
IsMadeAsked from scale input gap too numbers now = IsReadAnd from scale input (λ r. IsAskedAll r.members gap too numbers now)

-- none was made of it, with this outcome: without memory the rule may have been asked for some of it, and else it is as it was
abbrev pub IsUnmadeAsked : List ℕ → Option ℕ → List ℕ → ℕ → Bool → Outcome → RuleState → RuleState → Type 0
IsUnmadeAsked from scale input gap too NoMemory numbers now = (now ≡ numbers) ⊎ IsReadAnd from scale input (λ r. IsAskedUntil r.members gap too numbers now)
IsUnmadeAsked from scale input gap too outcome numbers now = now ≡ numbers

-- the same of any operation, which else goes by no such rule
abbrev pub IsRuleMade : Operation → List (List ℕ) → RuleState → RuleState → Type 0
IsRuleMade (Clean rule gap too scale from to) inputs numbers now = IsOneAnd inputs (λ input. IsMadeAsked from scale input gap too numbers now)
IsRuleMade _ inputs numbers now = now ≡ numbers

-- and where none was made
abbrev pub IsRuleUnmade : Operation → List (List ℕ) → Outcome → RuleState → RuleState → Type 0
IsRuleUnmade (Clean rule gap too scale from to) inputs outcome numbers now = IsOneAnd inputs (λ input. IsUnmadeAsked from scale input gap too outcome numbers now)
IsRuleUnmade _ inputs outcome numbers now = now ≡ numbers

-- this holds of what was read of the file of this name; where it is told what files hold, of what that holds
pub record HasReadAnd (s : State) (from : List ℕ) (scale : Option ℕ) (P : Reading → Type 0) : Type 0 where
  pub input : List ℕ
  pub held : IsTrue s.tells_files → Holds s from input
  pub read : IsReadAnd from scale input P

-- how the rule that a cleaning goes by comes back by the outcome: after all was asked and the text was written or not, after want of memory, and else as it was
abbrev pub IsRuleAfter : State → List ℕ → Option ℕ → ℕ → Bool → Outcome → RuleState → RuleState → Type 0
IsRuleAfter s from scale gap too Done numbers now = HasReadAnd s from scale (λ r. IsAskedAll r.members gap too numbers now)
IsRuleAfter s from scale gap too WriteFault numbers now = HasReadAnd s from scale (λ r. IsAskedAll r.members gap too numbers now)
IsRuleAfter s from scale gap too NoMemory numbers now = (now ≡ numbers) ⊎ HasReadAnd s from scale (λ r. IsAskedUntil r.members gap too numbers now)
IsRuleAfter s from scale gap too outcome numbers now = now ≡ numbers

-- the same of any operation, which else goes by no such rule
abbrev pub IsRuleLeft : Operation → State → Outcome → RuleState → RuleState → Type 0
IsRuleLeft (Clean rule gap too scale from to) s outcome numbers now = IsRuleAfter s from scale gap too outcome numbers now
IsRuleLeft _ s outcome numbers now = now ≡ numbers

-- ---- all rules

-- the rule at the place came to a state of which this holds, and every other is as it was; where there is no place, all are
abbrev pub AreHandedBack : (RuleState → RuleState → Type 0) → Option ℕ → List RuleState → List RuleState → Type 0
AreHandedBack Left None before after = after ≡ before
AreHandedBack Left (Some place) before after = (now : RuleState) × ((after ≡ slice_set before place now) × Left (get_or before place no_state) now)

-- how an operation leaves the handed-in rules
abbrev pub AreRulesLeft : Operation → State → Outcome → List RuleState → List RuleState → Type 0
AreRulesLeft operation s outcome before after = AreHandedBack (IsRuleLeft operation s outcome) (used_place operation) before after
