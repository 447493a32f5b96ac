use Rattle.crossing_laws.proofs.Meetings.{segments_cross}
use Rattle.crossing_laws.proofs.meeting.cross_law.Goals as goal

pub returns : goal.returns
returns c = segments_cross
