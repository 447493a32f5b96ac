use Rattle.std.proofs.Common.{length, ◌≡◌}
use Rattle.half_edge.proofs.Latest.{AreLatest}
use Rattle.half_edge.proofs.next.last_departures.Given as goal

abbrev pub invariant-loop-d : goal.invariant-loop-d
invariant-loop-d l = record { count : length l.last.items ≡ l.departures.vertex_count; latest : AreLatest l.departures.list.items l.d-index l.last.items }
