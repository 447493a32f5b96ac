-- The candidate with a longer border than each other is the first with the longest, or there is none.
use mathlib.Core.List.{[], ◌∷◌}
use Rattle.std.proofs.Common.{◌≡◌, ◌⊎◌, inl, inr, sym, ◌∙◌, ap, subst, ℕ, zero, suc, ◌<◌, ◌≤◌, ◌==◌, Bool, true, false, cond, nat_lt, ◌||◌, List, length, get_or, Some, None, arith}
use Rattle.std.specs.Prelude.{position}
use Rattle.std.specs.List.{IsFirstBest}
use Rattle.std.proofs.lemmas.Bool.{and_parts, ltb-true, lt-ltb, le-ltb, ne_eqb, cases_lt, cases_eq}
use Rattle.std.proofs.lemmas.List.Folds.{list_all_at}
use Rattle.std.proofs.lemmas.List.Sums.{position_or_len_is, AllPass-from_list_all}
use Rattle.arrangement.specs.Ascending.{ascend_by}
use Rattle.region_owners.specs.declared.candidate.Candidate.{Candidate}
use Rattle.region_owners.specs.Candidates.{ascend}
use Rattle.region_owners.specs.Facts.{RegionFacts}
use Rattle.region_owners.specs.Owner.{longest_border}
use Rattle.region_owners.proofs.Picks.{picks}
use Rattle.cov_rules.specs.ClearBorder.{is_clear, clear_pick}

-- ---- places

module _ {X : Type 0} (test : X → Bool) where
  found_at : (xs : List X) (i : ℕ) (d : X) → i < length xs → ((k : ℕ) → k < i → test (get_or xs k d) ≡ false) → test (get_or xs i d) ≡ true → position test xs ≡ Some i
  found_at xs i d less before here =
      let is = position_or_len_is test xs i d (omega arith) before (λ _. here) in
      (λ t. cond (nat_lt (is t) (length xs)) (Some (is t)) None) ∙ ap (λ (b : Bool). cond b (Some i) None) (lt-ltb i (length xs) less)

  found_nowhere : (xs : List X) (d : X) → ((k : ℕ) → k < length xs → test (get_or xs k d) ≡ false) → position test xs ≡ None
  found_nowhere xs d each =
      let is = position_or_len_is test xs (length xs) d (omega arith) each (λ less. absurd (omega arith)) in
      (λ t. cond (nat_lt (is t) (length xs)) (Some (is t)) None) ∙ ap (λ (b : Bool). cond b (Some (length xs)) None) (le-ltb (length xs) (length xs) (omega arith))

-- ---- members

-- two places have two members
differ_before : {X : Type 0} (key : X → ℕ) (xs : List X) → ascend_by key xs ≡ true → (i j : ℕ) (d : X) → i < j → j < length xs → key (get_or xs i d) < key (get_or xs j d)
differ_before key [] h i j d before within = absurd (omega arith)
differ_before key (x ∷ xs) h i zero d before within = absurd (omega arith)
differ_before key (x ∷ xs) h zero (suc j) d before within =
    ltb-true (key x) (key (get_or xs j d)) (AllPass-from_list_all (λ y. nat_lt (key x) (key y)) xs (and_parts _ _ h).0 j d (omega arith))
differ_before key (x ∷ xs) h (suc i) (suc j) d before within = differ_before key xs (and_parts _ _ h).1 i j d (omega arith) (omega arith)

differ : (candidates : List Candidate) → ascend candidates ≡ true → (i j : ℕ) (d : Candidate) → i < length candidates → j < length candidates → ¬ (i ≡ j)
    → ¬ ((get_or candidates i d).member ≡ (get_or candidates j d).member)
differ candidates ascending i j d inside within other same = by (cases_lt i j)
  where
    by : (i < j) ⊎ (j ≤ i) → ⊥
    by (inl less) = (let before = differ_before (λ (c : Candidate). c.member) candidates ascending i j d less within in omega arith)
    by (inr more) = (let less : j < i = omega arith in let before = differ_before (λ (c : Candidate). c.member) candidates ascending j i d less inside in omega arith)

-- ---- the clear one

module _ (candidates : List Candidate) (ascending : ascend candidates ≡ true) (best : ℕ) (found : IsFirstBest (λ c d. nat_lt d.border c.border) candidates (length candidates) best) where
  -- no other is clear
  other_not : (k : ℕ) (d : Candidate) → k < length candidates → ¬ (k ≡ best) → is_clear candidates (get_or candidates k d) ≡ false
  other_not k d inside other =
      let within : best < length candidates = found.0 in
      let c = get_or candidates k d in
      let b = get_or candidates best d in
      list_all_at (λ e. (e.member == c.member) || nat_lt e.border c.border) candidates best d within
      ((λ t. ne_eqb b.member c.member (differ candidates ascending best k d within inside (λ same. other (sym same))) t || nat_lt b.border c.border) ∙ found.1 k d inside)

  clear_found : (d : Candidate) → is_clear candidates (get_or candidates best d) ≡ true → position (is_clear candidates) candidates ≡ Some best
  clear_found d clear = found_at (is_clear candidates) candidates best d found.0 (λ k below. other_not k d (let within = found.0 in omega arith) (λ same. omega arith)) clear

  none_clear : (d : Candidate) → is_clear candidates (get_or candidates best d) ≡ false → position (is_clear candidates) candidates ≡ None
  none_clear d unclear = found_nowhere (is_clear candidates) candidates d (λ k inside. by k inside (cases_eq k best))
    where
      by : (k : ℕ) → k < length candidates → (k ≡ best) ⊎ ¬ (k ≡ best) → is_clear candidates (get_or candidates k d) ≡ false
      by k inside (inl same) = ap (λ n. is_clear candidates (get_or candidates n d)) same ∙ unclear
      by k inside (inr other) = other_not k d inside other

-- ---- what is asked of a rule

module _ (facts : RegionFacts) (some : 0 < length facts.candidates) (items : List Candidate) (place : ℕ) (first : Candidate) (same : items ≡ facts.candidates) (is : place ≡ longest_border facts.candidates) where
  found_best : IsFirstBest (λ c d. nat_lt d.border c.border) facts.candidates (length facts.candidates) place
  found_best = subst (λ n. IsFirstBest (λ c d. nat_lt d.border c.border) facts.candidates (length facts.candidates) n) (sym is) (picks facts.candidates some).longest

  pub longest_within : place < length items
  longest_within = let within = found_best.0 in omega (arith, ap length same)

  test_is : (b : Bool) → first ≡ get_or items place first → is_clear items first ≡ b → is_clear facts.candidates (get_or facts.candidates place first) ≡ b
  test_is b there test = (λ i. is_clear (sym same i) (get_or (sym same i) place first)) ∙ ap (is_clear items) (sym there) ∙ test

  pub clear_then : first ≡ get_or items place first → is_clear items first ≡ true → Some place ≡ clear_pick facts
  clear_then there test = sym (clear_found facts.candidates facts.ascending place found_best first (test_is true there test))

  pub clear_else : first ≡ get_or items place first → is_clear items first ≡ false → None ≡ clear_pick facts
  clear_else there test = sym (none_clear facts.candidates facts.ascending place found_best first (test_is false there test))
