-- What a merge rule is told of a region.
use Rattle.std.specs.Prelude.{IsTrue, List, ℤ}
use Rattle.region_owners.specs.declared.candidate.Candidate.{Candidate}
use Rattle.region_owners.specs.Candidates.{ascend}

-- the candidates for a region, by ascending member, and its doubled area: what clauses see of a `Facts`
pub record RegionFacts : Type 0 where
  pub candidates : List Candidate
  pub region_area2 : ℤ
  pub ascending : IsTrue (ascend candidates)
