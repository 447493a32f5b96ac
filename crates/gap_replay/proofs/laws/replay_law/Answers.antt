use Rattle.gap_replay.proofs.Held.{replay_valid, replay_holds, replay_held}
use Rattle.gap_replay.proofs.ReplayOwners.{member_owners, one_replay}
use Rattle.gap_replay.proofs.laws.replay_law.Goals as goal

pub returns-clause-owners : goal.returns-clause-owners
returns-clause-owners g c = member_owners

pub returns-clause-valid : goal.returns-clause-valid
returns-clause-valid g c = replay_valid

pub returns-clause-holds : goal.returns-clause-holds
returns-clause-holds g c = replay_holds

pub returns-clause-held : goal.returns-clause-held
returns-clause-held g c = replay_held

pub returns-clause-one : goal.returns-clause-one
returns-clause-one g c = one_replay
