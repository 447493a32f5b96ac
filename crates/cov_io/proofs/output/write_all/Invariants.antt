use Rattle.std.proofs.Common.{◌≤◌, ◌-◌, length}
use Rattle.cov_io.proofs.Writing.{IsWriting}
use Rattle.cov_io.proofs.output.write_all.Given as goal

abbrev pub invariant-loop-done : goal.invariant-loop-done
invariant-loop-done g l = record {
  within : l.done ≤ length l.bytes;
  writing : IsWriting l.bytes l.done (g.F.Files.state l.fn.files) (g.F.Files.state l.files);
}

abbrev pub decreases-loop-done : goal.decreases-loop-done
decreases-loop-done g l = length l.bytes - l.done
