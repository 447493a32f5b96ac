-- The candidate that a rule picks for a gap is a neighbour of it; and a region has one owner.
use Rattle.std.proofs.Common.{◌≡◌, inl, inr, refl, sym, ◌∙◌, ap, ℕ, ◌<◌, nat_lt, List, length, filter, get_or, arith}
use Rattle.std.specs.Prelude.{Contains, Option, Some, None, option_map, slice_get}
use Rattle.std.proofs.lemmas.List.{length-map}
use Rattle.std.proofs.lemmas.List.Elements.{Contains-get_or}
use Rattle.std.proofs.lemmas.Option.{slice_get-map, slice_get-get_or, slice_get_within, get_or_from_slice_get}
use Rattle.arrangement.specs.Live.{IsLiveOverlay}
use Rattle.arrangement.specs.Overlay.{Overlay}
use Rattle.region_owners.specs.declared.candidate.Candidate.{Candidate}
use Rattle.region_owners.specs.Gap.{IsGap}
use Rattle.region_owners.specs.Owner.{Rule, IsLawful, label_owner, neighbours_of}
use Rattle.region_owners.proofs.Neighbours.{gap_neighbour}
use Rattle.gap_replay.specs.Laws.{IsFiller}
use Rattle.gap_replay.specs.Replay.{gap_candidates, gap_facts, last_state_over, IsOwnerByReplay}
use Rattle.gap_replay.proofs.GapCandidates.{as_candidate, is_neighbour, neighbour_is}

placed : (xs : List ℕ) (k i : ℕ) → slice_get xs k ≡ Some i → Contains xs i
placed xs k i h = (k, slice_get_within xs k i h, get_or_from_slice_get xs k i i h)

-- ---- the candidate at a place

module _ (o : Overlay) (owners : ℕ → Option ℕ) (r : ℕ) where
  named : (found : Option ℕ) → option_map (λ (c : Candidate). c.member) (option_map (as_candidate o owners r) found) ≡ found
  named None = refl
  named (Some i) = refl

  -- it is the neighbour at the place
  pub candidate_is : (place : ℕ) → option_map (λ (c : Candidate). c.member) (slice_get (gap_candidates o owners r) place) ≡ slice_get (neighbours_of o owners r) place
  candidate_is place =
      ap (option_map (λ (c : Candidate). c.member)) (slice_get-map (as_candidate o owners r) (neighbours_of o owners r) place)
      ∙ named (slice_get (neighbours_of o owners r) place)

  pub candidate_below : (place i : ℕ) → option_map (λ (c : Candidate). c.member) (slice_get (gap_candidates o owners r) place) ≡ Some i → i < o.members
  candidate_below place i is = (neighbour_is o owners r i (placed (neighbours_of o owners r) place i (sym (candidate_is place) ∙ is))).0

-- ---- the pick of a rule

module _ {State : Type 0} (rule : Rule State) (state : State) (o : Overlay) (gaps : List ℕ) (r : ℕ) where
  abbrev owners : ℕ → Option ℕ
  owners = label_owner rule state o

  -- the state in which the rule comes to the gap
  abbrev before : State
  before = last_state_over rule state o (filter (λ g. nat_lt g r) gaps)

  abbrev place : ℕ
  place = rule.pick before (gap_facts o owners r)

  -- a gap has one
  pub gap_filler : IsLiveOverlay o → IsLawful rule → IsGap o r → (i : ℕ) × IsFiller rule state o gaps r i
  gap_filler live law gap =
      let those = neighbours_of o owners r in
      let beside = gap_neighbour rule state o r live law gap in
      let has = is_neighbour o owners r beside.0 beside.1.below beside.1.border in
      let inside = has.1 in
      let many = length-map those (as_candidate o owners r) in
      let picked = law before (gap_facts o owners r) (omega (arith, many, inside)) in
      let within : place < length those = omega (arith, many, picked) in
      let i = get_or those place 0 in
      let its = neighbour_is o owners r i (Contains-get_or those place 0 within) in
      (i, record { picked = candidate_is o owners r place ∙ slice_get-get_or those place 0 within; below = its.0; border = its.1 })

  pub one_owner : (a b : Option ℕ) → IsOwnerByReplay rule state o gaps r a → IsOwnerByReplay rule state o gaps r b → a ≡ b
  one_owner a b (inl h) (inl k) = h.1 ∙ sym k.1
  one_owner a b (inl h) (inr k) = absurd (k.0 h.0)
  one_owner a b (inr h) (inl k) = absurd (h.0 k.0)
  one_owner a b (inr h) (inr k) = h.1 ∙ sym k.1
