-- What a rule is told of a gap: the runs of its sides are its neighbours, and as candidates those of the definition.
use mathlib.Core.List.{[], ◌∷◌}
use Rattle.std.proofs.Common.{◌≡◌, refl, sym, ◌∙◌, ap, subst, ℕ, zero, suc, ◌<◌, true, nat_lt, List, length, map, get_or, Option, IfSome, ℤ, pos, arith}
use Rattle.std.specs.Prelude.{All, AllPairs, Contains, IsTrue}
use Rattle.std.proofs.lemmas.Bool.{and_from}
use Rattle.std.proofs.lemmas.Bool.Decides.{nat_tests}
use Rattle.std.proofs.lemmas.List.{length-map, get_or-map}
use Rattle.std.proofs.lemmas.List.Elements.{All-contains, Contains-get_or}
use Rattle.std.proofs.lemmas.List.Sums.{list_all-from_AllPass}
use Rattle.crossing_laws.proofs.Lists.{contains-map, contains_here, contains_there}
use Rattle.arrangement.specs.Ascending.{ascend_by}
use Rattle.arrangement.specs.Measure.{member_area2, owned_border}
use Rattle.arrangement.specs.Overlay.{Overlay}
use Rattle.arrangement.proofs.Ascending.{ascend_mapped}
use Rattle.arrangement.proofs.OneNoding.{same_ordered}
use Rattle.region_owners.specs.Candidates.{ascend}
use Rattle.region_owners.specs.declared.candidate.Candidate.{Candidate}
use Rattle.region_owners.specs.Owner.{neighbours_of}
use Rattle.gap_replay.specs.Replay.{gap_candidates}
use Rattle.gap_replay.proofs.GapCandidates.{as_candidate, is_neighbour, neighbour_is, neighbours_ascend}
use Rattle.owner_label.specs.OwnedSides.{IsOwnedSide, owned_length}
use Rattle.owner_label.specs.declared.owned_side.OwnedSide.{OwnedSide}
use Rattle.snap_noder.proofs.ParityLemmas.{contains_mapped}
use Rattle.cov_clean.specs.Runs.{AreRuns, run_candidate}
use Rattle.cov_clean.proofs.Filling.{length_below}

-- ---- candidates of runs ascend

less_number : (m n : ℕ) → m < n → nat_lt m n ≡ true
less_number m n h = grind (arith, nat_tests)

ascend_from : {X : Type 0} (key : X → ℕ) (xs : List X) → AllPairs (λ x y. key x < key y) xs → ascend_by key xs ≡ true
ascend_from key [] up = refl
ascend_from key (x ∷ xs) up =
    and_from _ _
    (list_all-from_AllPass (λ y. nat_lt (key x) (key y)) xs (λ j d within. less_number (key x) (key (get_or xs j d)) (up zero (suc j) d (omega arith) (omega arith))))
    (ascend_from key xs (λ i j d before within. up (suc i) (suc j) d (omega arith) (omega arith)))

pub run_candidates_ascend : (lengths : ℕ → ℕ) (areas : List ℤ) (runs : List OwnedSide) → AreRuns lengths runs → (items : List Candidate) → items ≡ map (run_candidate areas) runs → IsTrue (ascend items)
run_candidates_ascend lengths areas runs are items made =
    subst (λ (cs : List Candidate). IsTrue (ascend cs)) (sym made) (ascend_mapped (λ c. c.member) (run_candidate areas) runs (ascend_from (λ (run : OwnedSide). run.member) runs are.ascending))

-- ---- members

-- the members of runs own beyond sides
pub runs_below : (owners : List (Option ℕ)) (sides : List OwnedSide) (n : ℕ) → All (IsOwnedSide owners) sides → All (λ found. IfSome found (λ i. i < n)) owners
    → (runs : List OwnedSide) → AreRuns (owned_length sides) runs → All (λ (run : OwnedSide). run.member < n) runs
runs_below owners sides n each below runs are j d within =
    let is = (are.exact (get_or runs j d)).0 (Contains-get_or runs j d within) in
    length_below owners sides n each below (get_or runs j d).member (let some = is.0 in let same = is.1 in omega (arith, some, same))

-- ---- the runs are the neighbours

mapped_twice : {X Y Z : Type 0} (f : X → Y) (g : Y → Z) (h : X → Z) (xs : List X) → ((x : X) → Contains xs x → g (f x) ≡ h x) → map g (map f xs) ≡ map h xs
mapped_twice f g h [] each = refl
mapped_twice f g h (x ∷ xs) each = λ i. each x (contains_here x xs) i ∷ mapped_twice f g h xs (λ y has. each y (contains_there x y xs has)) i

apart : (a b : OwnedSide) → a.member < b.member → b.member < a.member → ⊥
apart a b h k = omega (arith, h, k)

module _ (o : Overlay) (owners : ℕ → Option ℕ) (r : ℕ) (runs : List OwnedSide) (are : AreRuns (owned_border o owners r) runs) (below : All (λ (run : OwnedSide). run.member < o.members) runs) where
  abbrev those : List ℕ
  those = neighbours_of o owners r

  abbrev run_of : ℕ → OwnedSide
  run_of i = record { member = i; length = owned_border o owners r i }

  mapped_ascend : AllPairs (λ (a b : OwnedSide). a.member < b.member) (map run_of those)
  mapped_ascend i j d before within =
      let many = length-map those run_of in
      let last : j < length those = omega (arith, many, within) in
      let first : i < length those = omega (arith, last, before) in
      let at_i = ap (λ (t : OwnedSide). t.member) (get_or-map run_of those i 0 d first) in
      let at_j = ap (λ (t : OwnedSide). t.member) (get_or-map run_of those j 0 d last) in
      let less = neighbours_ascend o owners r i j 0 before last in
      omega (arith, at_i, at_j, less)

  into : (run : OwnedSide) → Contains runs run → Contains (map run_of those) run
  into run has =
      let is = (are.exact run).0 has in
      let some : 0 < owned_border o owners r run.member = (let long = is.0 in let same = is.1 in omega (arith, long, same)) in
      let beside = is_neighbour o owners r run.member (All-contains (λ (t : OwnedSide). t.member < o.members) runs run below has) some in
      let one : run_of run.member ≡ run = λ i. record { member = run.member; length = sym is.1 i } in
      subst (Contains (map run_of those)) one (contains-map run_of those run.member beside)

  from : (run : OwnedSide) → Contains (map run_of those) run → Contains runs run
  from run has =
      let e = contains_mapped run_of those run has in
      subst (Contains runs) e.1.1 ((are.exact (run_of e.0)).1 ((neighbour_is o owners r e.0 e.1.0).1, refl))

  runs_are : runs ≡ map run_of those
  runs_are = same_ordered (λ (a b : OwnedSide). a.member < b.member) apart runs (map run_of those) are.ascending mapped_ascend (λ run. (into run, from run))

  -- and as candidates those of the definition
  pub gap_candidates_are : (areas : List ℤ) → ((i : ℕ) → i < o.members → get_or areas i (pos 0) ≡ member_area2 o.uses i) → (items : List Candidate) → items ≡ map (run_candidate areas) runs → items ≡ gap_candidates o owners r
  gap_candidates_are areas area items made =
      made ∙ ap (map (run_candidate areas)) runs_are
      ∙ mapped_twice run_of (run_candidate areas) (as_candidate o owners r) those
      (λ x has. (λ i. record { member = x; area2 = area x (neighbour_is o owners r x has).0 i; border = owned_border o owners r x }))
