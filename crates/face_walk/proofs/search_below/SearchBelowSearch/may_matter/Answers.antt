use Rattle.std.proofs.Common.{sym, ◌∙◌, FitsSigned, rules}
use Rattle.std.proofs.lemmas.Int.{to_z-of_z}
use mir.Syntax.{w32}
use Rattle.face_walk.proofs.Searching.{settled_outside, outside_reach}
use Rattle.face_walk.proofs.search_below.SearchBelowSearch.may_matter.Goals as goal

pub returns : goal.returns
returns g c is_false boxes k b among at_k in_hull =
    let s = c.args.self.now in
    let fits : FitsSigned w32 c.args.self.now.floor = search rules in
    let tests = simp to_z-of_z at c.is_in_reach.ensures in
    settled_outside g.Q.Query.edges g.Q.Query.places boxes g.Q.Query.point s.nearest s.floor among.3 among.4 c.args.hull
    (outside_reach s.point g.Q.Query.point s.floor c.args.hull among.2 (sym tests ∙ is_false)) k b at_k in_hull
