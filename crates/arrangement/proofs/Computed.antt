-- The examples, by computation.
use Rattle.std.proofs.Common.{refl}
use Rattle.plane.specs.Length.{root, edge_length}
use Rattle.plane.specs.Ray.{sweep}
use Rattle.plane.specs.Segment.{side}
use Rattle.arrangement.specs.Examples.{LengthExamples, SnappedExamples, OverlapExamples}
use Rattle.arrangement.specs.Measure.{trapezoid}

pub length_examples : LengthExamples
unfolding root edge_length
length_examples = record { none = refl; whole = refl; level = refl; steeper = refl; steepest = refl; upright = refl }

pub snapped_examples : SnappedExamples
snapped_examples = record { half_segments = refl; half_edges = refl; one_is_even = refl; thin_edges = refl; all_are_even = refl }

pub overlap_examples : OverlapExamples
unfolding side sweep trapezoid root edge_length
overlap_examples = record { labels = refl; regions = refl; members = refl; borders = refl }
