use Rattle.std.proofs.Common.{length, ◌≡◌, ◌*◌}
use Rattle.half_edge.proofs.Latest.{AreBefore}
use Rattle.half_edge.proofs.Linking.{AreLinked}
use Rattle.half_edge.proofs.next.next_table.Given as goal

abbrev pub invariant-loop-d : goal.invariant-loop-d
invariant-loop-d l = record {
  count : length l.table.items ≡ 2 * length l.edges;
  vertices : length l.before.items ≡ l.departures.vertex_count;
  before : AreBefore l.departures.list.items l.d-index l.before.items;
  linked : AreLinked l.edges l.departures.list.items l.d-index l.table.items;
}
