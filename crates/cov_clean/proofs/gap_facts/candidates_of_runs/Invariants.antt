use Rattle.std.proofs.Common.{◌≡◌, map, take}
use Rattle.cov_clean.specs.Runs.{run_candidate}
use Rattle.cov_clean.proofs.gap_facts.candidates_of_runs.Given as goal

abbrev pub invariant-loop-run : goal.invariant-loop-run
invariant-loop-run l = l.candidates.items ≡ map (run_candidate l.areas) (take l.run-index l.runs)
