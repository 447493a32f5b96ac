use Rattle.sound_polygons.proofs.Computed.{overlap_examples, moat_examples, notched_examples, angle_examples}
use Rattle.sound_polygons.proofs.examples.vectors.Goals as goal

pub returns-clause-overlap : goal.returns-clause-overlap
returns-clause-overlap c = overlap_examples

pub returns-clause-moat : goal.returns-clause-moat
returns-clause-moat c = moat_examples

pub returns-clause-notched : goal.returns-clause-notched
returns-clause-notched c = notched_examples

pub returns-clause-angles : goal.returns-clause-angles
returns-clause-angles c = angle_examples
