-- The owners of regions with those of gaps filled in.
use Rattle.std.specs.Prelude.{◌≡◌, ℕ, ◌<◌, Bool, true, false, nat_lt, List, [], length, filter, take, Contains, Option, option_map, slice_get}
use Rattle.arrangement.specs.Overlay.{Overlay}
use Rattle.region_owners.specs.Owner.{Rule, neighbours_of, neighbour_of}
use Rattle.gap_replay.specs.Replay.{gap_candidates, gap_facts, state_after_gaps}
use Rattle.owner_label.specs.Labelled.{Labelled, IsOverlay, owner_in}

-- each of the gaps has the owner that it is given, and every other region its own
pub record AreFilled (filler : ℕ → Option ℕ) (owners : List (Option ℕ)) (gaps : List ℕ) (filled : List (Option ℕ)) : Type 0 where
  pub count : length filled ≡ length owners
  pub fillers : (r : ℕ) → Contains gaps r → owner_in filled r ≡ filler r
  pub others : (r : ℕ) → ¬ Contains gaps r → owner_in filled r ≡ owner_in owners r

-- the candidate for the gap that the rule picks in this state
abbrev pub picked_in : {State : Type 0} → Rule State → State → Overlay → (ℕ → Option ℕ) → ℕ → Option ℕ
picked_in rule now o owners r = option_map (λ c. c.member) (slice_get (gap_candidates o owners r) (rule.pick now (gap_facts o owners r)))

-- who gets a gap: the neighbour or, where gaps are asked for too, the pick of a rule that comes to the first of the gaps in this state
abbrev pub filler_by : {State : Type 0} → Bool → Rule State → State → Overlay → (ℕ → Option ℕ) → List ℕ → ℕ → Option ℕ
filler_by false rule state o owners gaps r = neighbour_of o owners r
filler_by true rule state o owners gaps r = picked_in rule (state_after_gaps rule state o owners (filter (λ g. nat_lt g r) gaps)) o owners r

-- the gaps that the rule is asked for
abbrev pub asked_gaps : Bool → List ℕ → List ℕ
asked_gaps false gaps = []
asked_gaps true gaps = gaps

-- the rule has the state that it has after some of the gaps, the first ones
pub record HasFilledFirst {State : Type 0} (rule : Rule State) (state : State) (o : Overlay) (owners : ℕ → Option ℕ) (gaps : List ℕ) (now : State) : Type 0 where
  pub count : ℕ
  pub reached : now ≡ state_after_gaps rule state o owners (take count gaps)

-- the labels have an overlay with so many members, in which a region has a neighbour by these owners
pub record HasNeighbour (l : Labelled) (members : ℕ) (owners : List (Option ℕ)) (r : ℕ) : Type 0 where
  pub overlay : Overlay
  pub is_overlay : IsOverlay l overlay
  pub count : overlay.members ≡ members
  pub some : 0 < length (neighbours_of overlay (owner_in owners) r)
