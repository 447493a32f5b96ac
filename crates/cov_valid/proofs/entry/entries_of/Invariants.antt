use Rattle.cov_valid.specs.Entries.{ArePlaced}
use Rattle.cov_valid.proofs.entry.entries_of.Given as goal

abbrev pub invariant-loop-place : goal.invariant-loop-place
invariant-loop-place l = ArePlaced l.uses l.place l.entries.items
