-- What is written and the digits that are still to come are the text.
use Rattle.std.proofs.Common.{◌≡◌, ◌++◌, ◌^◌, ◌<◌, ◌≤◌}
use Rattle.cov_write.specs.Written.{places, without_end_zeros, fraction_text}
use Rattle.cov_write.proofs.number.append_fraction.Given as goal

abbrev pub invariant-loop-rest : goal.invariant-loop-rest
invariant-loop-rest l = record {
  text : l.fn.out.items ++ fraction_text l.places l.remainder ≡ l.out.items ++ without_end_zeros (places l.left l.rest);
  below : l.rest < 10 ^ l.left;
  few : l.left ≤ 7;
}

abbrev pub decreases-loop-rest : goal.decreases-loop-rest
decreases-loop-rest l = l.left
