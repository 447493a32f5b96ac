use Rattle.std.proofs.Common.{◌≤◌, ◌+◌, ◌-◌, length}
use Rattle.cov_io.proofs.Reading.{IsReading}
use Rattle.cov_io.proofs.input.slurp.Given as goal

abbrev pub invariant-loop-buffer : goal.invariant-loop-buffer
invariant-loop-buffer g l = record {
  within : length l.bytes.items ≤ l.limit + 1;
  reading : IsReading l.name l.bytes.items (g.F.Files.state l.fn.files) (g.F.Files.state l.files);
}

abbrev pub decreases-loop-buffer : goal.decreases-loop-buffer
decreases-loop-buffer g l = l.limit + 1 - length l.bytes.items
