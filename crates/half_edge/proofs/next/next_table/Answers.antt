use Rattle.std.proofs.Common.{ap, sym, subst, ◌≡◌, ◌∙◌, ◌<◌, refl, length, Some, slice_get, arith}
use Rattle.std.proofs.lemmas.List.{length-set}
use Rattle.std.proofs.lemmas.Option.{slice_get_read}
use Rattle.half_edge.proofs.Latest.{before-more}
use Rattle.half_edge.proofs.Linking.{linked-more, linked-all}
use Rattle.half_edge.proofs.Places.{item_at}
use Rattle.half_edge.proofs.Round.{follows_before, departure_within, departure_is, vertex_within}
use Rattle.half_edge.specs.Directed.{half_edge_to}
use Rattle.sector_laws.specs.Sector.{twin, IsHalfEdge}
use Rattle.half_edge.proofs.next.next_table.Goals as goal

pub index_mut-requires : goal.index_mut-requires
index_mut-requires c =
    let at = item_at c.deref-d-items.result.now c.args.departures.now.list.items c.loop-d.d-index c.d-item.result c.deref-d-items.ensures.value c.loop-d-test.true c.d-item.is in
    let below = departure_within c.args.edges.now c.args.departures.now.list.items c.requires.departures c.loop-d.d-index c.d-item.result at in
    let within = c.twin.ensures.within (length c.args.edges.now) below in
    let count = c.loop-d.invariant.count in
    let same = c.number.ensures in
    omega (arith, within, count, same)

pub loop-d-preserved : goal.loop-d-preserved
loop-d-preserved c =
    let edges = c.args.edges.now in
    let list = c.args.departures.now.list.items in
    let i = c.loop-d.d-index in
    let at = item_at c.deref-d-items.result.now list i c.d-item.result c.deref-d-items.ensures.value c.loop-d-test.true c.d-item.is in
    let opposite = subst (λ m. IsHalfEdge edges m (twin (half_edge_to c.d-item.result.direction))) (sym c.number.ensures)
    (c.twin.ensures.opposite edges (half_edge_to c.d-item.result.direction) (departure_is edges list c.requires.departures i c.d-item.result at)) in
    let vertices = c.loop-d.invariant.vertices in
    let numbered : c.d-item.result.vertex.number < c.args.departures.now.vertex_count = vertex_within list c.args.departures.now.vertex_count c.requires.numbered i c.d-item.result at in
    let read : slice_get c.loop-d.before.items c.d-item.result.vertex.number ≡ Some c.index.result.now =
    slice_get_read c.loop-d.before.items (length c.loop-d.before.items) c.d-item.result.vertex.number c.index.result.now refl (omega (arith, numbered, vertices)) c.index.ensures in
    let next =
    follows_before edges c.requires.planar c.requires.distinct list c.requires.departures c.requires.in_order i c.d-item.result at c.index.result.now (c.loop-d.invariant.before i c.d-item.result c.index.result.now at read)
    c.number.result opposite in
    record {
      count = length-set c.loop-d.table.items c.number.result c.index.result.now ∙ c.loop-d.invariant.count;
      vertices = length-set c.loop-d.before.items c.d-item.result.vertex.number c.d-item.result.id ∙ vertices;
      before = before-more list i c.d-item.result at c.loop-d.before.items c.loop-d.invariant.before;
      linked = linked-more edges c.requires.distinct list i c.d-item.result at c.loop-d.table.items c.number.result c.index.result.now opposite next c.loop-d.invariant.linked;
    }

pub returns : goal.returns
returns c =
    let stop = c.loop-d-test.false in
    let same = ap length c.deref-d-items.ensures.value in
    linked-all c.args.edges.now c.args.departures.now.list.items c.loop-d.d-index c.loop-d.table.items c.requires.departures (omega (arith, stop, same)) c.loop-d.invariant.count c.loop-d.invariant.linked
