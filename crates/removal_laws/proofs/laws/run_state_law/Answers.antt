use Rattle.removal_laws.proofs.RunStates.{state_range, next_sound, run_sound, simplified_valid}
use Rattle.removal_laws.proofs.laws.run_state_law.Goals as goal

pub returns-clause-range : goal.returns-clause-range
returns-clause-range c = state_range

pub returns-clause-next : goal.returns-clause-next
returns-clause-next c = next_sound

pub returns-clause-run : goal.returns-clause-run
returns-clause-run c = run_sound

pub returns-clause-simplified : goal.returns-clause-simplified
returns-clause-simplified c = simplified_valid
