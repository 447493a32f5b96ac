use Rattle.std.proofs.Common.{sym, ◌∙◌, ap, subst, ℕ, List, Option, All, ◌*◌, ◌<◌, length}
use Rattle.std.proofs.lemmas.Result.{IfOk-weaker}
use Rattle.std.specs.Global.{Vec}
use Rattle.cov_types.specs.declared.coord.Coord.{Coord}
use Rattle.cov_types.specs.declared.seg.Seg.{Seg}
use Rattle.cov_types.specs.Range.{IsInRange}
use Rattle.components.specs.declared.link.Link.{Link}
use Rattle.face_walk.specs.Links.{AreOverRay, AreVertices, AreLinksOf, AreLinks}
use Rattle.face_walk.specs.Nearest.{AreNearest}
use Rattle.face_walk.proofs.Linking.{over_within, vertices_in_range, answers_within, links_all}
use Rattle.face_walk.proofs.links.links.Goals as goal

pub vertices_of-requires : goal.vertices_of-requires
vertices_of-requires c =
    subst (λ (ns : List ℕ). All (λ n. n < 2 * length c.args.a.now) ns) (sym c.deref.ensures.value)
    (over_within c.args.a.now c.args.cycles.now.of.items c.args.cycles.now.list.items c.in_ok-sides.sides.items c.in_ok-sides.ensures)

pub nearest_edges_below-requires-clause-in_range : goal.nearest_edges_below-requires-clause-in_range
nearest_edges_below-requires-clause-in_range c =
    let within = subst (λ (ns : List ℕ). All (λ n. n < 2 * length c.args.a.now) ns) (sym c.deref.ensures.value)
    (over_within c.args.a.now c.args.cycles.now.of.items c.args.cycles.now.list.items c.in_ok-sides.sides.items c.in_ok-sides.ensures) in
    subst (λ (vs : List Coord). All IsInRange vs) (sym c.deref-2.ensures.value)
    (vertices_in_range c.args.a.now c.edges.ensures.planar c.deref.result.now c.in_ok-vertices.vertices.items within c.in_ok-vertices.ensures)

pub links_down-requires : goal.links_down-requires
links_down-requires c =
    let edges = c.args.a.now in
    let points = c.deref-2.result.now in
    let nearest : AreNearest edges points c.deref-4.result.now =
    subst (λ (answers : List (Option ℕ)). AreNearest edges points answers) (sym c.deref-4.ensures.value)
    (subst (λ (es : List Seg). AreNearest es points c.in_ok-below.below.items) c.edges.ensures.edges c.in_ok-below.ensures) in
    record {
      cycles = c.requires;
      sides = subst (λ (ns : List ℕ). All (λ n. n < 2 * length edges) ns) (sym c.deref-3.ensures.value)
          (over_within edges c.args.cycles.now.of.items c.args.cycles.now.list.items c.in_ok-sides.sides.items c.in_ok-sides.ensures);
      below = answers_within edges points c.deref-4.result.now nearest;
      count = nearest.count ∙ ap (λ (vs : List Coord). length vs) c.deref-2.ensures.value ∙ c.in_ok-vertices.ensures.count
          ∙ ap (λ (ns : List ℕ). length ns) (c.deref.ensures.value ∙ sym c.deref-3.ensures.value);
    }

pub returns : goal.returns
returns c =
    let edges = c.args.a.now in
    let of = c.args.cycles.now.of.items in
    let list = c.args.cycles.now.list.items in
    let sides = c.deref-3.result.now in
    let vertices = c.in_ok-vertices.vertices.items in
    let below = c.deref-4.result.now in
    let over = subst (λ (ns : List ℕ). AreOverRay edges of list ns) (sym c.deref-3.ensures.value) c.in_ok-sides.ensures in
    let begin = subst (λ (ns : List ℕ). AreVertices edges ns vertices) (c.deref.ensures.value ∙ sym c.deref-3.ensures.value) c.in_ok-vertices.ensures in
    let nearest : AreNearest edges vertices below =
    subst (λ (answers : List (Option ℕ)). AreNearest edges vertices answers) (sym c.deref-4.ensures.value)
    (subst (λ (es : List Seg). AreNearest es vertices c.in_ok-below.below.items) c.edges.ensures.edges
    (subst (λ (vs : List Coord). AreNearest c.edges.result.now vs c.in_ok-below.below.items) c.deref-2.ensures.value c.in_ok-below.ensures)) in
    IfOk-weaker c.links_down.result (λ (v : Vec Link). AreLinksOf edges of list sides below v.items) (λ (v : Vec Link). AreLinks edges of list v.items)
    (λ (v : Vec Link) made. links_all edges c.edges.ensures.planar c.edges.ensures.distinct of list sides vertices below v.items over begin nearest made) c.links_down.ensures
