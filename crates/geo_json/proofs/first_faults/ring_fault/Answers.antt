use Rattle.geo_json.proofs.Points.{long_ring}
use Rattle.geo_json.proofs.first_faults.ring_fault.Goals as goal

pub returns : goal.returns
returns c = λ ring is. long_ring c.args.ring _ _ _ ring c.if-points-lt4.false is (c.is_closed.ensures ring is) c.then_some.ensures
