use Rattle.std.proofs.Common.{◌≡◌, ◌≤◌, ◌*◌, ◌^◌, take, unsigned_abs}
use Rattle.crossing_laws.specs.Crossing.{int_sum_by}
use Rattle.owner_label.specs.Sides.{side_area}
use Rattle.owner_label.proofs.labels.Labels.region_area2.Given as goal

abbrev pub invariant-loop-side : goal.invariant-loop-side
invariant-loop-side l = record {
  sum : l.area ≡ int_sum_by (side_area l.self.edges) (take l.side-index l.side-items);
  small : unsigned_abs l.area ≤ l.side-index * 2 ^ 60;
}
