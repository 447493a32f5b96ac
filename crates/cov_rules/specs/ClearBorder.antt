-- Kind 3, a clear border: a region goes to the candidate with a longer border than each other has. It keeps nothing.
use Rattle.std.specs.Prelude.{Bool, ◌||◌, ◌==◌, nat_lt, ℕ, List, Option, position}
use Rattle.std.specs.List.{list_all}
use Rattle.region_owners.specs.declared.candidate.Candidate.{Candidate}
use Rattle.region_owners.specs.Facts.{RegionFacts}

-- every other member among the candidates has a shorter border
abbrev pub is_clear : List Candidate → Candidate → Bool
is_clear candidates c = list_all (λ d. (d.member == c.member) || nat_lt d.border c.border) candidates

-- the candidate of which this is so, and none where there is none
abbrev pub clear_pick : RegionFacts → Option ℕ
clear_pick facts = position (is_clear facts.candidates) facts.candidates
