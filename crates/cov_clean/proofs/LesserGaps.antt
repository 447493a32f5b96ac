-- Gaps that ascend: the lesser ones are the first, and a rule is asked for one more.
use mathlib.Core.List.{[], ◌∷◌}
use Rattle.std.proofs.Common.{◌≡◌, refl, sym, ◌∙◌, ap, ℕ, zero, suc, ◌+◌, ◌<◌, ◌≤◌, Bool, true, false, cond, nat_lt, List, ◌++◌, length, get_or, take, filter, Option, arith}
use Rattle.std.specs.Prelude.{AllPairs, Contains}
use Rattle.std.proofs.lemmas.Bool.Decides.{nat_tests}
use Rattle.std.proofs.lemmas.List.{length-map, take_more}
use Rattle.std.proofs.lemmas.List.Sums.{fold-append}
use Rattle.crossing_laws.proofs.Lists.{contains_here, contains_there}
use Rattle.arrangement.specs.Overlay.{Overlay}
use Rattle.region_owners.specs.declared.candidate.Candidate.{Candidate}
use Rattle.region_owners.specs.Facts.{RegionFacts}
use Rattle.region_owners.specs.Owner.{Rule, IsLawful, neighbours_of}
use Rattle.gap_replay.proofs.GapCandidates.{as_candidate}
use Rattle.gap_replay.specs.Replay.{gap_facts, state_after_gaps}
use Rattle.cov_clean.specs.Filled.{filler_by, picked_in}

number_below : (m n : ℕ) → m < n → nat_lt m n ≡ true
number_below m n h = grind (arith, nat_tests)

not_below : (m n : ℕ) → n ≤ m → nat_lt m n ≡ false
not_below m n h = grind (arith, nat_tests)

none_less : (x : ℕ) (xs : List ℕ) → ((y : ℕ) → Contains xs y → x ≤ y) → filter (λ y. nat_lt y x) xs ≡ []
none_less x [] h = refl
none_less x (y ∷ ys) h =
    ap (λ (b : Bool). cond b (y ∷ filter (λ z. nat_lt z x) ys) (filter (λ z. nat_lt z x) ys)) (not_below y x (h y (contains_here y ys)))
    ∙ none_less x ys (λ z has. h z (contains_there y z ys has))

at_least : (x : ℕ) (xs : List ℕ) → AllPairs (λ m n. m < n) (x ∷ xs) → (y k : ℕ) → k < length (x ∷ xs) → get_or (x ∷ xs) k y ≡ y → x ≤ y
at_least x xs up y zero within is = omega (arith, is)
at_least x xs up y (suc k) within is = let less = up zero (suc k) y (omega arith) within in omega (arith, less, is)

-- those that are less than the gap at a place are the ones before it
pub lesser_first : (xs : List ℕ) → AllPairs (λ m n. m < n) xs → (k d : ℕ) → k < length xs → filter (λ y. nat_lt y (get_or xs k d)) xs ≡ take k xs
lesser_first [] up k d within = absurd (omega arith)
lesser_first (x ∷ xs) up zero d within = none_less x (x ∷ xs) (λ y has. at_least x xs up y has.0 has.1 has.2)
lesser_first (x ∷ xs) up (suc k) d within =
    let later = get_or xs k d in
    ap (λ (b : Bool). cond b (x ∷ filter (λ y. nat_lt y later) xs) (filter (λ y. nat_lt y later) xs)) (number_below x later (up zero (suc k) d (omega arith) within))
    ∙ ap (λ ys. x ∷ ys) (lesser_first xs (λ i j e before inside. up (suc i) (suc j) e (omega arith) (omega arith)) k d (omega arith))

module _ {State : Type 0} (rule : Rule State) (state : State) (o : Overlay) (owners : ℕ → Option ℕ) (gaps : List ℕ) (up : AllPairs (λ m n. m < n) gaps) (k d g : ℕ) (inside : k < length gaps) (at : g ≡ get_or gaps k d) (now : State)
    (so_far : now ≡ state_after_gaps rule state o owners (take k gaps)) where
  -- the pick for the next gap is that of the definition
  pub filler_there : picked_in rule now o owners g ≡ filler_by true rule state o owners gaps g
  filler_there =
      ap (λ (s : State). picked_in rule s o owners g)
      (so_far ∙ ap (state_after_gaps rule state o owners) (sym (ap (λ n. filter (λ y. nat_lt y n) gaps) at ∙ lesser_first gaps up k d inside)))

  pub asked_more : (after : State) → after ≡ rule.next now (gap_facts o owners g) → after ≡ state_after_gaps rule state o owners (take (k + 1) gaps)
  asked_more after is =
      is ∙ ap (λ (s : State). rule.next s (gap_facts o owners g)) so_far
      ∙ sym (fold-append (λ s r. rule.next s (gap_facts o owners r)) state (take k gaps) (g ∷ []))
      ∙ ap (state_after_gaps rule state o owners) (sym (take_more gaps k d inside ∙ ap (λ n. take k gaps ++ n ∷ []) (sym at)))

-- a lawful rule picks one of the candidates
pub pick_fits : {State : Type 0} (rule : Rule State) → IsLawful rule → (now : State) (facts : RegionFacts) (items : List Candidate) (place : ℕ) → items ≡ facts.candidates → 0 < length facts.candidates
    → place ≡ rule.pick now facts → place < length items
pick_fits rule law now facts items place same some is = let within = law now facts some in let count = ap length same in omega (arith, within, count, is)

-- there are candidates for a gap that has a neighbour
pub some_candidates : (o : Overlay) (owners : ℕ → Option ℕ) (r : ℕ) (facts : RegionFacts) → facts ≡ gap_facts o owners r → 0 < length (neighbours_of o owners r) → 0 < length facts.candidates
some_candidates o owners r facts is some =
    let many = ap (λ (f : RegionFacts). length f.candidates) is in
    let count = length-map (neighbours_of o owners r) (as_candidate o owners r) in
    omega (arith, many, count, some)
