use Rattle.std.proofs.Common.{◌≡◌, refl, sym, ◌∙◌, ap, subst, List, Option, Vec, Global, length}
use Rattle.std.proofs.lemmas.Option.{IfSome_then, slice_get_read, same_Some}
use Rattle.cov_types.specs.declared.coord.Coord.{Coord}
use Rattle.visvalingam.specs.Chains.{IsStanding, AreLinked, IsCornerAnswer}
use Rattle.visvalingam.specs.declared.chains.Links.{Links}
use Rattle.visvalingam.proofs.state.corner_at.Goals as goal

pub returns-clause-standing : goal.returns-clause-standing
returns-clause-standing c =
    IfSome_then c.at.result c.at.ensures.standing (λ corner h. record {
      own = c.index-links-line.result;
      at = slice_get_read c.args.links.now (length c.args.links.now) c.args.line c.index-links-line.result refl c.if-line-links.false c.index-links-line.is;
      standing = subst (λ (ls : List (Option Links)). IsStanding ls c.args.place corner) c.as_slice-2.ensures.value h;
    })

pub returns-clause-answer : goal.returns-clause-answer
returns-clause-answer c removed linked points at =
    let lines = c.args.task.now.lines.now in
    let at_line = slice_get_read lines (length lines) c.args.line c.index-task-line.result refl c.if-line-task.false c.index-task-line.is in
    let at_links = slice_get_read c.args.links.now (length c.args.links.now) c.args.line c.index-links-line.result refl c.if-line-links.false c.index-links-line.is in
    let own = linked.1 c.args.line c.index-task-line.result c.index-links-line.result at_line at_links in
    let read_points : c.as_slice.result.now ≡ c.index-task-line.result.items = c.as_slice.ensures.value ∙ ap (λ (v : Vec Coord Global). v.items) (sym c.index-task-line.is) in
    let read = subst (λ (ps : List Coord). AreLinked removed ps c.as_slice-2.result.now) (sym read_points) (subst (λ (ls : List (Option Links)). AreLinked removed c.index-task-line.result.items ls) (sym c.as_slice-2.ensures.value) own) in
    subst (λ (ps : List Coord). IsCornerAnswer removed ps c.args.place c.at.result) (read_points ∙ ap (λ (v : Vec Coord Global). v.items) (same_Some c.index-task-line.result points (sym at_line ∙ at))) (c.at.ensures.answer removed read)
