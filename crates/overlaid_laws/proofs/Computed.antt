-- The pairs of labels, by computation.
use Rattle.std.proofs.Common.{refl}
use Rattle.overlaid_laws.specs.Examples.{LabelExamples}

pub label_examples : LabelExamples
label_examples = record { least_of_each = refl; first_of_second = refl; none_of_second = refl; none_of_first = refl; nobody = refl }
