-- The examples, by computation.
use Rattle.std.proofs.Common.{refl}
use Rattle.greedy_run.specs.Examples.{StateExamples}

pub state_examples : StateExamples
state_examples = record { before = refl; after = refl; over_removed = refl; two_meet = refl; ring = refl; one_point = refl }
