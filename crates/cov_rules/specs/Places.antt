-- What a rule picks is a place in the candidates: the proof of the law of its merge rule.
use mathlib.Core.List.{[], ◌∷◌}
use Rattle.std.proofs.Common.{◌≡◌, refl, ℕ, ◌<◌, Bool, true, false, cond, nat_lt, List, length, drop, Option, Some, None, unwrap_or, ℤ}
use Rattle.std.specs.Prelude.{position, IfSome}
use Rattle.std.specs.List.{position_or_len}
use Rattle.std.specs.Option.{option_or, option_map_or}
use Rattle.std.proofs.lemmas.Bool.{ltb-true}
use Rattle.region_owners.specs.Facts.{RegionFacts}
use Rattle.region_owners.specs.Owner.{IsLawful}
use Rattle.merge_rule.specs.RuleState.{RuleState}
use Rattle.cov_rules.specs.FirstGiven.{first_given}
use Rattle.cov_rules.specs.EvenShare.{even_pick}
use Rattle.cov_rules.specs.Priority.{is_member, priority_pick}
use Rattle.cov_rules.specs.ClearBorder.{clear_pick}
use Rattle.cov_rules.specs.Simple.{is_even_share, is_priority, is_clear_border, simple_pick}
use Rattle.cov_rules.specs.Chain.{parts_of, first_pick}
use Rattle.cov_rules.specs.Kinds.{pick}
use Rattle.cov_rules.specs.Hired.{by_kind}

-- a place below n, or none
abbrev Within : ℕ → Option ℕ → Type 0
Within n found = IfSome found (λ place. place < n)

position_within : {X : Type 0} (test : X → Bool) (xs : List X) → Within (length xs) (position test xs)
position_within test xs = by (nat_lt (position_or_len test xs) (length xs)) refl
  where
    by : (b : Bool) → nat_lt (position_or_len test xs) (length xs) ≡ b → Within (length xs) (cond b (Some (position_or_len test xs)) None)
    by true h = ltb-true (position_or_len test xs) (length xs) h
    by false h = tt

or_within : (n : ℕ) (a b : Option ℕ) → Within n a → Within n b → Within n (option_or a b)
or_within n None b p q = q
or_within n (Some place) b p q = p

if_within : (n : ℕ) (test : Bool) (a b : Option ℕ) → Within n a → Within n b → Within n (cond test a b)
if_within n true a b p q = p
if_within n false a b p q = q

given_within : {X : Type 0} (n : ℕ) (give : X → Option ℕ) → ((x : X) → Within n (give x)) → (xs : List X) → Within n (first_given give xs)
given_within n give each [] = tt
given_within n give each (x ∷ xs) = or_within n (give x) (first_given give xs) (each x) (given_within n give each xs)

simple_within : (rule : RuleState) (facts : RegionFacts) → Within (length facts.candidates) (simple_pick rule facts)
simple_within rule facts =
    let n = length facts.candidates in
    let order = drop 1 rule.0 in
    let clear = if_within n (is_clear_border rule) (clear_pick facts) None (position_within _ facts.candidates) tt in
    let priority = if_within n (is_priority rule) (priority_pick order facts) (cond (is_clear_border rule) (clear_pick facts) None) (given_within n _ (λ member. position_within (is_member member) facts.candidates) order) clear in
    if_within n (is_even_share rule) (even_pick rule.1 facts) (cond (is_priority rule) (priority_pick order facts) (cond (is_clear_border rule) (clear_pick facts) None))
    (position_within _ facts.candidates) priority

pub pick_within : (fixed kept : List ℤ) (facts : RegionFacts) → Within (length facts.candidates) (pick fixed kept facts)
pick_within fixed kept facts = by (parts_of (fixed, kept))
  where
    by : (found : Option (List RuleState)) → Within (length facts.candidates) (option_map_or (λ parts. first_pick parts facts) found (simple_pick (fixed, kept) facts))
    by None = simple_within (fixed, kept) facts
    by (Some parts) = given_within (length facts.candidates) _ (λ part. simple_within part facts) parts

pub lawful : IsLawful by_kind
lawful state facts some = by (pick state.0 state.1 facts) (pick_within state.0 state.1 facts)
  where
    by : (found : Option ℕ) → Within (length facts.candidates) found → unwrap_or found 0 < length facts.candidates
    by None within = some
    by (Some place) within = within
