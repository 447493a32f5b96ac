use Rattle.round_trip_laws.proofs.Back.{read_back}
use Rattle.round_trip_laws.proofs.reading_back.Goals as goal

pub returns : goal.returns
returns c = read_back
