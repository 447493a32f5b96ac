-- The members of an order one after the other.
use Rattle.std.proofs.Common.{◌≡◌, sym, ◌∙◌, ap, ℕ, ◌+◌, ◌<◌, ◌≤◌, true, false, List, length, map, take, drop, get_or, suc, Option, None, ℤ, pos, arith}
use Rattle.std.specs.Prelude.{position, is_some}
use Rattle.std.proofs.lemmas.List.{length-map, get_or-map}
use Rattle.region_owners.specs.Facts.{RegionFacts}
use Rattle.cov_rules.specs.FirstGiven.{first_given}
use Rattle.cov_rules.specs.Priority.{is_member, priority_pick}
use Rattle.cov_rules.proofs.Given.{option_some, given_at, given_none, given_nowhere}

module _ (order : List ℕ) (facts : RegionFacts) where
  -- none of the first so many is a candidate
  pub record NoneYet (k : ℕ) : Type 0 where
    pub none : priority_pick (take k (map pos order)) facts ≡ None

  place_of : (k member : ℕ) (place : Option ℕ) → k < length order → member ≡ get_or order k 0 → place ≡ position (is_member (pos member)) facts.candidates
      → place ≡ position (is_member (get_or (map pos order) k (pos 0))) facts.candidates
  place_of k member place less there is = is ∙ ap (λ m. position (is_member m) facts.candidates) (ap pos there ∙ sym (get_or-map pos order k 0 (pos 0) less))

  -- one more
  pub none_more : (k member : ℕ) (place : Option ℕ) → k < length order → NoneYet k → member ≡ get_or order k 0 → place ≡ position (is_member (pos member)) facts.candidates → is_some place ≡ false → NoneYet (k + 1)
  none_more k member place less yet there is missing = record {
    none = given_none (λ m. position (is_member m) facts.candidates) k (map pos order) (pos 0) (omega (arith, length-map order pos)) yet.none (ap is_some (sym (place_of k member place less there is)) ∙ missing);
  }

  -- the first one
  pub found_at : (k member : ℕ) (place : Option ℕ) → k < length order → NoneYet k → member ≡ get_or order k 0 → place ≡ position (is_member (pos member)) facts.candidates → is_some place ≡ true
      → place ≡ priority_pick (map pos order) facts
  found_at k member place less yet there is some =
      let here = place_of k member place less there is in
      let give = λ (m : ℤ). position (is_member m) facts.candidates in
      here ∙ sym (given_at give k (map pos order) (pos 0) (omega (arith, length-map order pos)) yet.none ∙ option_some (give (get_or (map pos order) k (pos 0))) (first_given give (drop (suc k) (map pos order))) (ap is_some (sym here) ∙ some))

  -- no one
  pub none_at_all : (k : ℕ) → length order ≤ k → NoneYet k → None ≡ priority_pick (map pos order) facts
  none_at_all k all yet = sym (given_nowhere (λ m. position (is_member m) facts.candidates) k (map pos order) (omega (arith, length-map order pos)) yet.none)
