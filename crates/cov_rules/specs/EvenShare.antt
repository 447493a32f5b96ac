-- Kind 1, an even share: a region goes to the candidate that got the least so far. It keeps for each member what it got, in doubled area.
use Rattle.std.specs.Prelude.{ℕ, Bool, not, int_lt, List, length, ◌++◌, ◌-◌, replicate, slice_set, slice_index_or, Option, slice_get, position, option_and_then, ℤ, pos, ◌+ℤ◌}
use Rattle.std.specs.Int.{saturate_signed, w128}
use Rattle.std.specs.List.{list_any}
use Rattle.std.specs.Option.{option_map_or}
use Rattle.region_owners.specs.declared.candidate.Candidate.{Candidate}
use Rattle.region_owners.specs.Facts.{RegionFacts}

-- zeros at the end, up to a number for each of so many members
abbrev pub even_room : List ℤ → ℕ → List ℤ
even_room kept members = kept ++ replicate (members - length kept) (pos 0)

-- what the member got; one past the end got nothing
abbrev pub share_of : List ℤ → ℕ → ℤ
share_of kept member = slice_index_or kept member (pos 0)

-- the first candidate got less than the second
abbrev pub got_less : List ℤ → Candidate → Candidate → Bool
got_less kept c d = int_lt (share_of kept c.member) (share_of kept d.member)

-- the first candidate that none got less than
abbrev pub even_pick : List ℤ → RegionFacts → Option ℕ
even_pick kept facts = position (λ c. not (list_any (λ d. got_less kept d c) facts.candidates)) facts.candidates

-- the member got the area too; a sum stays within 128 bits, and a member past the end has no number
abbrev pub with_area : List ℤ → ℕ → ℤ → List ℤ
with_area kept member area = slice_set kept member (saturate_signed w128 (share_of kept member +ℤ area))

-- the picked member got the region
abbrev pub even_next : List ℤ → RegionFacts → List ℤ
even_next kept facts = option_map_or (λ c. with_area kept c.member facts.region_area2) (option_and_then (slice_get facts.candidates) (even_pick kept facts)) kept
