-- The owners of regions: the one member of the label, the pick of a rule among several, or the longest border with a narrow gap.
use Rattle.std.specs.Prelude.{◌≡◌, ◌⊎◌, ℕ, ◌<◌, Bool, not, nat_lt, nat_le, List, [], ◌∷◌, length, filter, fold, Option, Some, None, option_map, slice_get, int_lt}
use Rattle.std.specs.List.{position_or_len, list_any}
use Rattle.plane.specs.Label.{numbers_below}
use Rattle.region_owners.specs.declared.candidate.Candidate.{Candidate}
use Rattle.arrangement.specs.Overlay.{Overlay, region_numbers, IsRegion, label_of}
use Rattle.arrangement.specs.Measure.{region_area2, owned_border}
use Rattle.arrangement.proofs.Ascending.{ascend_mapped, label_ascends}
use Rattle.region_owners.specs.Candidates.{candidates_of}
use Rattle.region_owners.specs.Facts.{RegionFacts}
use Rattle.region_owners.specs.Gap.{IsGap, IsNarrow}

-- ---- rules

-- a rule with a state: the place of the candidate that it picks, and the state that it has then
pub record Rule (State : Type 0) : Type 0 where
  pub pick : State → RegionFacts → ℕ
  pub next : State → RegionFacts → State

-- a lawful rule picks a place in the candidates wherever there are some
abbrev pub IsLawful : {State : Type 0} → Rule State → Type 0
IsLawful {State} rule = (state : State) (facts : RegionFacts) → 0 < length facts.candidates → rule.pick state facts < length facts.candidates

-- the first place whose element no element beats
abbrev pub first_best : {X : Type 0} → (X → X → Bool) → List X → ℕ
first_best beats xs = position_or_len (λ x. not (list_any (λ y. beats y x) xs)) xs

-- the least index: the candidates ascend by member
abbrev pub least_index : List Candidate → ℕ
least_index candidates = 0

-- the greatest doubled area, of several the least index
abbrev pub greatest_area : List Candidate → ℕ
greatest_area candidates = first_best (λ c d. int_lt d.area2 c.area2) candidates

-- the least doubled area, of several the least index
abbrev pub least_area : List Candidate → ℕ
least_area candidates = first_best (λ c d. int_lt c.area2 d.area2) candidates

-- the longest border, of several the least index
abbrev pub longest_border : List Candidate → ℕ
longest_border candidates = first_best (λ c d. nat_lt d.border c.border) candidates

-- the rule that goes by the candidates alone and keeps its state
abbrev pub rule_by : {State : Type 0} → (List Candidate → ℕ) → Rule State
rule_by choose = record { pick = λ state facts. choose facts.candidates; next = λ state facts. state }

-- ---- shared regions

-- what a rule is told of the region
abbrev pub facts_of : Overlay → ℕ → RegionFacts
facts_of o r = record { candidates = candidates_of o r; region_area2 = region_area2 o r; ascending = ascend_mapped (λ c. c.member) _ (label_of o r) (label_ascends o r) }

-- the shared regions, where members overlap, ascending: those with two members or more in their label
abbrev pub shared_regions : Overlay → List ℕ
shared_regions o = filter (λ r. nat_le 2 (length (label_of o r))) (region_numbers o)

-- the state of the rule after these regions
abbrev pub state_after : {State : Type 0} → Rule State → State → Overlay → List ℕ → State
state_after rule state o regions = fold (λ now r. rule.next now (facts_of o r)) state regions

-- the state in which the rule comes to the region: after the shared regions with lesser numbers
abbrev pub state_before : {State : Type 0} → Rule State → State → Overlay → ℕ → State
state_before rule state o r = state_after rule state o (filter (λ g. nat_lt g r) (shared_regions o))

-- the state that the rule has in the end: after all shared regions
abbrev pub last_state : {State : Type 0} → Rule State → State → Overlay → State
last_state rule state o = state_after rule state o (shared_regions o)

-- ---- owners

-- the candidate that the rule picks for a shared region
abbrev pub picked_owner : {State : Type 0} → Rule State → State → Overlay → ℕ → Option ℕ
picked_owner rule state o r = option_map (λ c. c.member) (slice_get (candidates_of o r) (rule.pick (state_before rule state o r) (facts_of o r)))

-- the owner of a region with this label: none, the one member, or the candidate that the rule picks
abbrev pub owner_by : {State : Type 0} → Rule State → State → Overlay → ℕ → List ℕ → Option ℕ
owner_by rule state o r [] = None
owner_by rule state o r (i ∷ []) = Some i
owner_by rule state o r (i ∷ j ∷ more) = picked_owner rule state o r

-- the owner of a region by its own label
abbrev pub label_owner : {State : Type 0} → Rule State → State → Overlay → ℕ → Option ℕ
label_owner rule state o r = owner_by rule state o r (label_of o r)

-- the members that share an owned border with the region, ascending
abbrev pub neighbours_of : Overlay → (ℕ → Option ℕ) → ℕ → List ℕ
neighbours_of o owners r = filter (λ i. nat_lt 0 (owned_border o owners r i)) (numbers_below o.members)

-- the one of them with the longest, of several the least, and none where there is none
abbrev pub neighbour_of : Overlay → (ℕ → Option ℕ) → ℕ → Option ℕ
neighbour_of o owners r = slice_get (neighbours_of o owners r) (first_best (λ i j. nat_lt (owned_border o owners r j) (owned_border o owners r i)) (neighbours_of o owners r))

-- a gap that is narrow at w
pub record IsNarrowGap (o : Overlay) (r w : ℕ) : Type 0 where
  pub gap : IsGap o r
  pub narrow : IsNarrow o.edges r w

-- the owner of a region at the gap width w: by its label, or of a narrow gap the neighbour with the longest border, or none
abbrev pub IsOwner : {State : Type 0} → Rule State → State → Overlay → ℕ → ℕ → Option ℕ → Type 0
IsOwner rule state o w r owner =
    (IsNarrowGap o r w × (owner ≡ neighbour_of o (label_owner rule state o) r))
    ⊎ (¬ IsNarrowGap o r w × (owner ≡ label_owner rule state o r))

-- the owners of all regions
abbrev pub AreOwners : {State : Type 0} → Rule State → State → Overlay → ℕ → (ℕ → Option ℕ) → Type 0
AreOwners rule state o w owners = (r : ℕ) → IsRegion o.edges r → IsOwner rule state o w r (owners r)
