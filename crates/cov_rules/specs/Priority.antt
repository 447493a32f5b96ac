-- Kind 2, a priority: a region goes to the candidate that stands first in an order of members. It keeps nothing.
use Rattle.std.specs.Prelude.{Bool, ℕ, List, Option, position, ℤ, pos}
use Rattle.std.specs.Ordering.{int_eq}
use Rattle.region_owners.specs.declared.candidate.Candidate.{Candidate}
use Rattle.region_owners.specs.Facts.{RegionFacts}
use Rattle.cov_rules.specs.FirstGiven.{first_given}

-- the candidate is this member
abbrev pub is_member : ℤ → Candidate → Bool
is_member member c = int_eq (pos c.member) member

-- the place of the candidate that stands first in the order, and none where none stands there
abbrev pub priority_pick : List ℤ → RegionFacts → Option ℕ
priority_pick order facts = first_given (λ member. position (is_member member) facts.candidates) order
