use Rattle.gap_replay.proofs.Fillers.{gap_filler, one_owner}
use Rattle.gap_replay.proofs.laws.filler_law.Goals as goal

pub returns-clause-picked : goal.returns-clause-picked
returns-clause-picked g c = gap_filler

pub returns-clause-one : goal.returns-clause-one
returns-clause-one g c = one_owner
