use Rattle.crossing_laws.proofs.Meetings.{opposite_meet}
use Rattle.crossing_laws.proofs.meeting.opposite_sides_law.Goals as goal

pub returns : goal.returns
returns c = opposite_meet
