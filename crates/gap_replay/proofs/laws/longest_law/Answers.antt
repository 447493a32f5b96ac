use Rattle.gap_replay.proofs.Longest.{longest_replay, longest_state}
use Rattle.gap_replay.proofs.laws.longest_law.Goals as goal

pub returns-clause-cleaned : goal.returns-clause-cleaned
returns-clause-cleaned g c = longest_replay

pub returns-clause-state : goal.returns-clause-state
returns-clause-state g c = longest_state
