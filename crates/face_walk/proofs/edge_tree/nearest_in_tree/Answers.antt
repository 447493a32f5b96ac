use Rattle.std.proofs.Common.{List, sym, subst}
use Rattle.cov_types.specs.declared.coord.Coord.{Coord}
use Rattle.cov_types.specs.declared.seg.Seg.{Seg}
use Rattle.plane.specs.Point.{at_coord}
use Rattle.face_walk.specs.Nearest.{IsNearestAnswer}
use Rattle.face_walk.proofs.Searching.{nearest_of_boxes}
use Rattle.face_walk.proofs.edge_tree.nearest_in_tree.Goals as goal

pub returns : goal.returns
returns g c =
    let found = c.search.new.search in
    let among = c.search.ensures.among in
    let asked =
    nearest_of_boxes g.Q.Query.edges g.Q.Query.places c.args.tree.now g.Q.Query.point found.nearest found.floor among.3 among.4 c.search.ensures.settled in
    subst (λ (es : List Seg). IsNearestAnswer es (at_coord c.args.p) found.nearest) (sym c.requires.query.0)
    (subst (λ (q : Coord). IsNearestAnswer g.Q.Query.edges (at_coord q) found.nearest) (sym c.requires.query.2) asked)
