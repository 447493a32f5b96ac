-- The candidates for a gap, and the one list of narrow gaps.
use Rattle.std.proofs.Common.{◌≡◌, ap, ℕ, zero, suc, ◌<◌, true, nat_lt, List, length, get_or, arith}
use Rattle.std.specs.Prelude.{AllPairs, Contains, Option}
use Rattle.std.proofs.lemmas.Bool.Decides.{nat_tests}
use Rattle.std.proofs.lemmas.List.{length-map, get_or-map}
use Rattle.std.proofs.lemmas.List.Elements.{All-map, All-weaker, All-contains_itself, Contains-get_or}
use Rattle.std.proofs.lemmas.List.Kept.{AllPairs-filter}
use Rattle.std.proofs.lemmas.List.Quantifiers.{all_pairs_push}
use Rattle.plane.specs.Label.{numbers_below}
use Rattle.arrangement.specs.Measure.{member_area2, owned_border}
use Rattle.arrangement.specs.Overlay.{Overlay}
use Rattle.arrangement.proofs.LiveOverlays.{kept, kept_is, number_below, below_number}
use Rattle.arrangement.proofs.OneNoding.{same_ordered}
use Rattle.region_owners.specs.declared.candidate.Candidate.{Candidate}
use Rattle.region_owners.specs.Owner.{neighbours_of}
use Rattle.gap_replay.specs.Laws.{AreGapCandidates}
use Rattle.gap_replay.specs.Replay.{AreNarrowGaps, gap_candidates}

less_from : (m n : ℕ) → nat_lt m n ≡ true → m < n
less_from m n h = grind (arith, nat_tests)

from_less : (m n : ℕ) → m < n → nat_lt m n ≡ true
from_less m n h = grind (arith, nat_tests)

-- ---- candidates

numbers_pairs : (n : ℕ) → AllPairs (λ j k. j < k) (numbers_below n)
numbers_pairs zero = λ i j d before within. absurd (omega arith)
numbers_pairs (suc n) = all_pairs_push (λ j k. j < k) (numbers_below n) n (numbers_pairs n) (λ k d within. below_number n (get_or (numbers_below n) k d) (Contains-get_or (numbers_below n) k d within))

module _ (o : Overlay) (owners : ℕ → Option ℕ) (r : ℕ) where
  abbrev owned : ℕ → ℕ
  owned = owned_border o owners r

  abbrev those : List ℕ
  those = neighbours_of o owners r

  -- what a neighbour is as a candidate
  abbrev pub as_candidate : ℕ → Candidate
  as_candidate i = record { member = i; area2 = member_area2 o.uses i; border = owned_border o owners r i }

  -- a neighbour is a member with an owned border
  pub neighbour_is : (i : ℕ) → Contains (neighbours_of o owners r) i → (i < o.members) × (0 < owned_border o owners r i)
  neighbour_is i has = let its = kept_is (λ j. nat_lt 0 (owned j)) (numbers_below o.members) i has in (below_number o.members i its.0, less_from 0 (owned i) its.1)

  pub is_neighbour : (i : ℕ) → i < o.members → 0 < owned_border o owners r i → Contains (neighbours_of o owners r) i
  is_neighbour i below some = kept (λ j. nat_lt 0 (owned j)) (numbers_below o.members) i (number_below o.members i below) (from_less 0 (owned i) some)

  pub neighbours_ascend : AllPairs (λ j k. j < k) (neighbours_of o owners r)
  neighbours_ascend = AllPairs-filter (λ j k. j < k) (λ i. nat_lt 0 (owned i)) (numbers_below o.members) (numbers_pairs o.members)

  candidates_ascend : AllPairs (λ (c d : Candidate). c.member < d.member) (gap_candidates o owners r)
  candidates_ascend i j d before within =
      let many = length-map those as_candidate in
      let last : j < length those = omega (arith, many, within) in
      let first : i < length those = omega (arith, last, before) in
      let at_i = ap (λ (c : Candidate). c.member) (get_or-map as_candidate those i 0 d first) in
      let at_j = ap (λ (c : Candidate). c.member) (get_or-map as_candidate those j 0 d last) in
      let less = neighbours_ascend i j 0 before last in
      omega (arith, at_i, at_j, less)

  pub candidates_are : AreGapCandidates o owners r
  candidates_are = record {
    ascending = candidates_ascend;
    below = All-map (λ c. c.member < o.members) as_candidate those (All-weaker (Contains those) (λ i. i < o.members) (λ i has. (neighbour_is i has).0) those (All-contains_itself those));
    border = All-map (λ c. 0 < c.border) as_candidate those (All-weaker (Contains those) (λ i. 0 < owned i) (λ i has. (neighbour_is i has).1) those (All-contains_itself those));
  }

-- ---- gaps

both_ways : (m n : ℕ) → m < n → n < m → ⊥
both_ways m n h k = omega arith

pub one_gaps : (o : Overlay) (w : ℕ) (gaps others : List ℕ) → AreNarrowGaps o w gaps → AreNarrowGaps o w others → gaps ≡ others
one_gaps o w gaps others h k =
    same_ordered (λ m n. m < n) both_ways gaps others h.ascending k.ascending
    (λ r. ((λ has. (k.exact r).1 ((h.exact r).0 has)), (λ has. (h.exact r).1 ((k.exact r).0 has))))
