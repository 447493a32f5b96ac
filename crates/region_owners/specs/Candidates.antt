-- The candidates for a region, by ascending member.
use Rattle.std.specs.Prelude.{ℕ, Bool, List, map}
use Rattle.arrangement.specs.Ascending.{ascend_by}
use Rattle.arrangement.specs.Measure.{member_area2, border}
use Rattle.arrangement.specs.Overlay.{Overlay, label_of}
use Rattle.region_owners.specs.declared.candidate.Candidate.{Candidate}

-- the candidates ascend strictly by member
abbrev pub ascend : List Candidate → Bool
ascend candidates = ascend_by (λ c. c.member) candidates

-- the members of the label as candidates for the region
abbrev pub candidates_of : Overlay → ℕ → List Candidate
candidates_of o r = map (λ i. record { member = i; area2 = member_area2 o.uses i; border = border o r i }) (label_of o r)
