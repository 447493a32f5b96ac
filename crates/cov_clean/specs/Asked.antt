-- The rule that is asked region by region: what it gives, and the state that it has on the way.
use Rattle.std.specs.Prelude.{ℕ, ◌==◌, cond, nat_le, List, [], ◌∷◌, length, filter, map, Option, Some, None, option_map, slice_get, ℤ}
use Rattle.plane.specs.Label.{numbers_below}
use Rattle.arrangement.specs.Measure.{member_area2}
use Rattle.arrangement.specs.Noding.{odd_uses}
use Rattle.arrangement.specs.Overlay.{Overlay, region_at, label_of}
use Rattle.region_owners.specs.Candidates.{candidates_of}
use Rattle.region_owners.specs.Owner.{Rule, facts_of, label_owner}
use Rattle.owner_label.specs.Labelled.{Labelled}

-- the doubled areas of the members below a count
abbrev pub member_areas : Labelled → ℕ → List ℤ
member_areas l count = map (member_area2 (odd_uses l.edges l.odd)) (numbers_below count)

-- the owner of a region with this label by a rule that is in the state now: none, the one member, or the candidate that the rule picks
abbrev pub owner_in_state : {State : Type 0} → Rule State → State → Overlay → ℕ → List ℕ → Option ℕ
owner_in_state rule now o r [] = None
owner_in_state rule now o r (i ∷ []) = Some i
owner_in_state rule now o r (i ∷ j ∷ more) = option_map (λ c. c.member) (slice_get (candidates_of o r) (rule.pick now (facts_of o r)))

-- the region alone where it is shared, and otherwise none
abbrev pub one_if_shared : Overlay → ℕ → List ℕ
one_if_shared o r = filter (λ g. nat_le 2 (length (label_of o g))) (r ∷ [])

-- the owner of the region with the number of the side, and none where there is no such region
abbrev pub side_owner : {State : Type 0} → Rule State → State → Overlay → ℕ → Option ℕ
side_owner rule state o n = cond (region_at o n == n) (label_owner rule state o n) None
