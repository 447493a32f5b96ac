-- The candidate that got the least, and the numbers of those that got more.
use Rattle.std.proofs.Common.{◌≡◌, refl, sym, ◌∙◌, ap, ℕ, ◌<◌, Bool, cond, nat_lt, List, length, get_or, Option, Some, None}
use Rattle.std.specs.Prelude.{ℤ, slice_get, option_and_then}
use Rattle.std.specs.Cmp.{IsStrictWeakOrder}
use Rattle.std.specs.List.{IsFirstBest}
use Rattle.std.specs.Option.{option_map_or}
use Rattle.std.proofs.lemmas.Bool.{lt-ltb}
use Rattle.std.proofs.lemmas.Option.{slice_get-get_or}
use Rattle.region_owners.specs.declared.candidate.Candidate.{Candidate}
use Rattle.region_owners.specs.Facts.{RegionFacts}
use Rattle.region_owners.specs.Owner.{first_best}
use Rattle.region_owners.proofs.Picks.{first_best_is, ints_rank}
use Rattle.merge_rule.proofs.Best.{is_pick}
use Rattle.cov_rules.specs.EvenShare.{share_of, got_less, with_area, even_pick, even_next}

pub less_ranks : (kept : List ℤ) → IsStrictWeakOrder (got_less kept)
less_ranks kept = ints_rank (λ (c : Candidate). share_of kept c.member)

-- the loop over all candidates has found the first best
pub is_least : (kept : List ℤ) (candidates : List Candidate) (i best : ℕ) → 0 < length candidates → i ≡ length candidates → IsFirstBest (got_less kept) candidates i best → best ≡ first_best (got_less kept) candidates
is_least kept candidates i best some end found = is_pick (less_ranks kept) candidates candidates i best (first_best (got_less kept) candidates) refl end found (first_best_is (got_less kept) (less_ranks kept) candidates some)

-- so it is the one that is picked
pub picked_is : (kept : List ℤ) (facts : RegionFacts) (items : List Candidate) (place : ℕ) → items ≡ facts.candidates → place < length items → place ≡ first_best (got_less kept) items → Some place ≡ even_pick kept facts
picked_is kept facts items place same within least =
    sym (ap (λ (b : Bool). cond b (Some place) None) (lt-ltb place (length items) within))
    ∙ (λ i. cond (nat_lt (least i) (length items)) (Some (least i)) None)
    ∙ (λ i. cond (nat_lt (first_best (got_less kept) (same i)) (length (same i))) (Some (first_best (got_less kept) (same i))) None)

-- and its number is the one that grows
pub next_is : (kept after : List ℤ) (facts : RegionFacts) (items : List Candidate) (place : ℕ) (found : Candidate) (area : ℤ) → items ≡ facts.candidates → place < length items → place ≡ first_best (got_less kept) items
    → found ≡ get_or items place found → area ≡ facts.region_area2 → after ≡ with_area kept found.member area → after ≡ even_next kept facts
next_is kept after facts items place found area same within least there whole grown =
    let picked = picked_is kept facts items place same within least in
    grown ∙ ap (with_area kept found.member) whole ∙ sym (ap (λ (c : Option Candidate). option_map_or (λ d. with_area kept d.member facts.region_area2) c kept)
    ((λ i. option_and_then (slice_get (sym same i)) (sym picked i)) ∙ slice_get-get_or items place found within ∙ ap Some (sym there)))
