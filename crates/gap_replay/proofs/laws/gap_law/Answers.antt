use Rattle.gap_replay.proofs.GapCandidates.{candidates_are, one_gaps}
use Rattle.gap_replay.proofs.laws.gap_law.Goals as goal

pub returns-clause-candidates : goal.returns-clause-candidates
returns-clause-candidates c = candidates_are

pub returns-clause-one : goal.returns-clause-one
returns-clause-one c = one_gaps
