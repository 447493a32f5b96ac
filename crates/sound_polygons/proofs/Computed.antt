-- The examples, by computation.
use Rattle.std.proofs.Common.{refl}
use Rattle.plane.specs.Ray.{sweep}
use Rattle.plane.specs.Segment.{side, turn_of}
use Rattle.arrangement.specs.Measure.{trapezoid}
use Rattle.sound_polygons.specs.Examples.{OverlapExamples, MoatExamples, NotchedExamples, AngleExamples}

pub overlap_examples : OverlapExamples
overlap_examples = record { first = refl; second = refl }

pub moat_examples : MoatExamples
moat_examples = record { first = refl; with_its_gap = refl }

pub notched_examples : NotchedExamples
unfolding side sweep turn_of trapezoid
notched_examples = record { areas = refl; rings = refl; in_hole = refl; beside_hole = refl; shell_turns = refl; hole_turns = refl; pinched_turns = refl; two_rings = refl; one_walk = refl }

pub angle_examples : AngleExamples
unfolding turn_of
angle_examples = record { quarter = refl; not_its_side = refl; not_behind = refl; the_other_way = refl; half = refl; other_half = refl; full = refl; not_itself = refl }
