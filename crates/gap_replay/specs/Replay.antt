-- A rule that goes on over the narrow gaps: what it is told of a gap, its states, and the owners that come of it.
use Rattle.std.specs.Prelude.{◌≡◌, ◌⊎◌, ◌↔◌, ℕ, ◌<◌, Bool, true, false, nat_lt, List, map, filter, fold, take, AllPairs, Contains, Option, option_map, slice_get}
use Rattle.plane.specs.Label.{numbers_below}
use Rattle.arrangement.specs.Measure.{member_area2, region_area2, owned_border}
use Rattle.arrangement.specs.Overlay.{Overlay, IsRegion}
use Rattle.arrangement.proofs.Ascending.{ascend_filter, ascend_mapped, numbers_ascend}
use Rattle.region_owners.specs.declared.candidate.Candidate.{Candidate}
use Rattle.region_owners.specs.Facts.{RegionFacts}
use Rattle.region_owners.specs.Owner.{Rule, shared_regions, state_after, last_state, label_owner, neighbours_of, IsNarrowGap}

-- ---- what a rule is told of a gap

-- the members with an owned border with the gap, ascending, as candidates: each with its doubled area and that border
abbrev pub gap_candidates : Overlay → (ℕ → Option ℕ) → ℕ → List Candidate
gap_candidates o owners r = map (λ i. record { member = i; area2 = member_area2 o.uses i; border = owned_border o owners r i }) (neighbours_of o owners r)

-- what a rule is told of the gap: these candidates, and its doubled area
abbrev pub gap_facts : Overlay → (ℕ → Option ℕ) → ℕ → RegionFacts
gap_facts o owners r = record {
  candidates = gap_candidates o owners r;
  region_area2 = region_area2 o r;
  ascending = ascend_mapped (λ c. c.member) _ (neighbours_of o owners r) (ascend_filter (λ k. k) (λ i. nat_lt 0 (owned_border o owners r i)) (numbers_below o.members) (numbers_ascend o.members));
}

-- ---- states

-- the gaps that are narrow at w, ascending
pub record AreNarrowGaps (o : Overlay) (w : ℕ) (gaps : List ℕ) : Type 0 where
  pub ascending : AllPairs (λ m n. m < n) gaps
  pub exact : (r : ℕ) → Contains gaps r ↔ IsNarrowGap o r w

-- the state of the rule after these gaps, by the owners of the regions round them
abbrev pub state_after_gaps : {State : Type 0} → Rule State → State → Overlay → (ℕ → Option ℕ) → List ℕ → State
state_after_gaps rule state o owners gaps = fold (λ now r. rule.next now (gap_facts o owners r)) state gaps

-- the state of the rule after all shared regions and then these gaps, by the owners of the regions with a label
abbrev pub last_state_over : {State : Type 0} → Rule State → State → Overlay → List ℕ → State
last_state_over rule state o gaps = state_after_gaps rule (last_state rule state o) o (label_owner rule state o) gaps

-- ---- owners

-- the candidate that the rule picks for a gap, when it comes to it after all shared regions and the lesser ones of the gaps
abbrev pub picked_filler : {State : Type 0} → Rule State → State → Overlay → List ℕ → ℕ → Option ℕ
picked_filler rule state o gaps r =
    option_map (λ c. c.member) (slice_get (gap_candidates o (label_owner rule state o) r)
    (rule.pick (last_state_over rule state o (filter (λ g. nat_lt g r) gaps)) (gap_facts o (label_owner rule state o) r)))

-- the owner of a region: of one of the gaps the candidate that the rule picks, and else by its label
abbrev pub IsOwnerByReplay : {State : Type 0} → Rule State → State → Overlay → List ℕ → ℕ → Option ℕ → Type 0
IsOwnerByReplay rule state o gaps r owner =
    (Contains gaps r × (owner ≡ picked_filler rule state o gaps r))
    ⊎ (¬ Contains gaps r × (owner ≡ label_owner rule state o r))

-- the owners of all regions
abbrev pub AreOwnersByReplay : {State : Type 0} → Rule State → State → Overlay → List ℕ → (ℕ → Option ℕ) → Type 0
AreOwnersByReplay rule state o gaps owners = (r : ℕ) → IsRegion o.edges r → IsOwnerByReplay rule state o gaps r (owners r)

-- ---- the states that a call leaves

-- the rule has the state that it has after all shared regions and all gaps that are narrow at w
pub record HasAskedAllGaps {State : Type 0} (rule : Rule State) (state : State) (o : Overlay) (w : ℕ) (now : State) : Type 0 where
  pub gaps : List ℕ
  pub are_gaps : AreNarrowGaps o w gaps
  pub reached : now ≡ last_state_over rule state o gaps

-- the rule has its last state: after all shared regions and, where gaps are asked for too, all narrow gaps
abbrev pub HasLastState : {State : Type 0} → Bool → Rule State → State → Overlay → ℕ → State → Type 0
HasLastState false rule state o w now = now ≡ last_state rule state o
HasLastState true rule state o w now = HasAskedAllGaps rule state o w now

-- the rule has the state that it has after some of the shared regions, the first ones
pub record HasAskedFirst {State : Type 0} (rule : Rule State) (state : State) (o : Overlay) (now : State) : Type 0 where
  pub count : ℕ
  pub reached : now ≡ state_after rule state o (take count (shared_regions o))

-- the rule has the state that it has after all shared regions and some of the narrow gaps, the first ones
pub record HasAskedFirstGaps {State : Type 0} (rule : Rule State) (state : State) (o : Overlay) (w : ℕ) (now : State) : Type 0 where
  pub gaps : List ℕ
  pub are_gaps : AreNarrowGaps o w gaps
  pub count : ℕ
  pub reached : now ≡ last_state_over rule state o (take count gaps)

-- the rule was asked for the first shared regions or, where gaps are asked for too, for all of them and the first narrow gaps
abbrev pub HasAskedSome : {State : Type 0} → Bool → Rule State → State → Overlay → ℕ → State → Type 0
HasAskedSome false rule state o w now = HasAskedFirst rule state o now
HasAskedSome true rule state o w now = HasAskedFirst rule state o now ⊎ HasAskedFirstGaps rule state o w now
