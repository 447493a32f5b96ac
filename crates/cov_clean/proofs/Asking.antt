-- The state of a rule that was asked for the shared regions below a number.
use Rattle.std.proofs.Common.{◌≡◌, sym, ◌∙◌, ap, ℕ, zero, suc, ◌+◌, ◌*◌, ◌-◌, ◌≤◌, ◌==◌, Bool, true, false, cond, nat_le, nat_lt, List, [], ◌∷◌, ◌++◌, length, take, add-one, add-zero, add-suc, append-nil, append_assoc, arith}
use Rattle.std.specs.Prelude.{filter}
use Rattle.std.proofs.Math.Seq.{take-append_seam}
use Rattle.std.proofs.lemmas.Bool.{eq-eqb, ne_eqb}
use Rattle.std.proofs.lemmas.List.Elements.{filter-append}
use Rattle.std.proofs.lemmas.List.Sums.{fold-append}
use Rattle.plane.specs.Label.{numbers_below}
use Rattle.arrangement.specs.Overlay.{Overlay, region_at, label_of}
use Rattle.region_owners.specs.Owner.{Rule, facts_of, shared_regions, state_after, state_before, last_state}
use Rattle.gap_replay.specs.Replay.{HasAskedFirst}
use Rattle.cov_clean.specs.Asked.{one_if_shared}
use Rattle.cov_clean.proofs.Numbers.{below_lesser, filter_swap}

module _ (o : Overlay) where
  abbrev is_own : ℕ → Bool
  is_own r = region_at o r == r

  abbrev is_shared : ℕ → Bool
  is_shared r = nat_le 2 (length (label_of o r))

  -- the shared regions below n
  abbrev pub shared_below : ℕ → List ℕ
  shared_below n = filter is_shared (filter is_own (numbers_below n))

  -- ---- one number more

  next : (n : ℕ) → shared_below (suc n) ≡ shared_below n ++ filter is_shared (filter is_own (n ∷ []))
  next n = ap (filter is_shared) (filter-append is_own (numbers_below n) (n ∷ [])) ∙ filter-append is_shared (filter is_own (numbers_below n)) (filter is_own (n ∷ []))

  one : (n : ℕ) (b : Bool) → is_own n ≡ b → shared_below (n + 1) ≡ shared_below n ++ filter is_shared (cond b (n ∷ []) [])
  one n b is = ap shared_below (add-one n) ∙ next n ∙ ap (λ (t : Bool). shared_below n ++ filter is_shared (cond t (n ∷ []) [])) is

  pub shared_own : (n : ℕ) → region_at o n ≡ n → shared_below (n + 1) ≡ shared_below n ++ one_if_shared o n
  shared_own n own = one n true (eq-eqb (region_at o n) n own)

  pub shared_other : (n : ℕ) → ¬ (region_at o n ≡ n) → shared_below (n + 1) ≡ shared_below n
  shared_other n other = one n false (ne_eqb (region_at o n) n other) ∙ append-nil (shared_below n)

  -- ---- the first shared regions

  -- those with lesser numbers
  pub shared_before : (n : ℕ) → n ≤ 2 * length o.edges → filter (λ g. nat_lt g n) (shared_regions o) ≡ shared_below n
  shared_before n within =
      let all = numbers_below (2 * length o.edges) in
      filter_swap (λ g. nat_lt g n) is_shared (filter is_own all)
      ∙ ap (filter is_shared) (filter_swap (λ g. nat_lt g n) is_own all ∙ ap (filter is_own) (below_lesser n (2 * length o.edges) within))

  more : (n k : ℕ) → (rest : List ℕ) × (shared_below (n + k) ≡ shared_below n ++ rest)
  more n zero = ([], ap shared_below (add-zero n) ∙ sym (append-nil (shared_below n)))
  more n (suc k) =
      let before = more n k in
      let last = filter is_shared (filter is_own ((n + k) ∷ [])) in
      (before.0 ++ last, ap shared_below (add-suc n k) ∙ next (n + k) ∙ ap (λ xs. xs ++ last) before.1 ∙ append_assoc (shared_below n) before.0 last)

  -- they are the first of all
  pub shared_first : (n : ℕ) → n ≤ 2 * length o.edges → take (length (shared_below n)) (shared_regions o) ≡ shared_below n
  shared_first n within =
      let rest = more n (2 * length o.edges - n) in
      let whole : 2 * length o.edges ≡ n + (2 * length o.edges - n) = omega arith in
      ap (take (length (shared_below n))) (ap shared_below whole ∙ rest.1) ∙ take-append_seam (shared_below n) rest.0

  -- ---- states

  module _ {State : Type 0} (rule : Rule State) (state : State) where
    pub state_more : (n : ℕ) (now after : State) → region_at o n ≡ n → now ≡ state_after rule state o (shared_below n) → after ≡ state_after rule now o (one_if_shared o n)
        → after ≡ state_after rule state o (shared_below (n + 1))
    state_more n now after own so_far is =
        is ∙ ap (λ s. state_after rule s o (one_if_shared o n)) so_far
        ∙ sym (fold-append (λ s r. rule.next s (facts_of o r)) state (shared_below n) (one_if_shared o n)) ∙ ap (state_after rule state o) (sym (shared_own n own))

    pub state_same : (n : ℕ) (now : State) → ¬ (region_at o n ≡ n) → now ≡ state_after rule state o (shared_below n) → now ≡ state_after rule state o (shared_below (n + 1))
    state_same n now other so_far = so_far ∙ ap (state_after rule state o) (sym (shared_other n other))

    -- the state in which the rule comes to the region
    pub state_there : (n : ℕ) (now : State) → n ≤ 2 * length o.edges → now ≡ state_after rule state o (shared_below n) → now ≡ state_before rule state o n
    state_there n now within so_far = so_far ∙ ap (state_after rule state o) (sym (shared_before n within))

    pub asked_first : (n : ℕ) (now : State) → n ≤ 2 * length o.edges → now ≡ state_after rule state o (shared_below n) → HasAskedFirst rule state o now
    asked_first n now within so_far = record { count = length (shared_below n); reached = so_far ∙ ap (state_after rule state o) (sym (shared_first n within)) }

    -- it was asked for none
    pub asked_none : (now : State) → now ≡ state → HasAskedFirst rule state o now
    asked_none now same = record { count = 0; reached = same }

    -- and for all
    pub asked_all : (now : State) → now ≡ last_state rule state o → HasAskedFirst rule state o now
    asked_all now is = asked_first (2 * length o.edges) now (omega arith) is
