use Rattle.std.proofs.Common.{◌≡◌, ◌∙◌, ◌-◌, length, map, take, rules}
use Rattle.serde_json.specs.View.{view}
use Rattle.geo_json.proofs.Points.{ring_taken}
use Rattle.geo_json.proofs.coordinates.ring.Goals as goal

pub returns-clause-ok : goal.returns-clause-ok
returns-clause-ok c =
    let points = c.in_ok-points.points in
    let rest : c.pop.new.self.items ≡ take (length points.items - 1) points.items = search rules in
    ring_taken (view c.args.value.now) (map view c.in-Some.list.now) c.args.noted.now c.positions.new.noted c.take_ring.new.self points.items c.pop.new.self.items
    c.in-Some.ensures c.in_ok-points.ensures.ok (λ ring is. c.in_ok-take_ring.ensures.noted ring (c.deref.ensures.value ∙ is)) rest
