use Rattle.std.proofs.Common.{◌≡◌, ◌∙◌, refl, ap, sym, subst, ◌*◌, ◌<◌, ◌-◌, ℕ, List, length, get_or, arith, rules}
use Rattle.std.proofs.lemmas.List.{get_or_default}
use Rattle.std.proofs.lemmas.Option.{slice_get_within}
use Rattle.cov_types.specs.declared.coord.Coord.{Coord}
use Rattle.cov_types.specs.declared.seg.Seg.{Seg}
use Rattle.cov_types.specs.Seg.{IsSegBetween}
use Rattle.plane.specs.Region.{IsSide}
use Rattle.greedy_run.specs.Sides.{holder, left_from, right_from}
use Rattle.line_walk.proofs.WholeLines.{between_same}
use Rattle.cov_simplify.proofs.SidedLines.{among_edges, ends_apart, left_is, right_is}
use Rattle.cov_simplify.proofs.coverage_lines.sided_line.Goals as goal

pub place_of-place-requires-clause-among : goal.place_of-place-requires-clause-among
place_of-place-requires-clause-among c =
    let points = c.args.points.items in
    let a = c.index-first.result.now in
    let long = c.requires.line.long in
    let s : IsSegBetween (get_or points 0 a) (get_or points 1 a) c.in-Some.edge = between_same _ _ _ _ c.in-Some.edge (sym c.index-first.ensures) (get_or_default points 1 a _ (omega arith) ∙ sym c.index.ensures) c.in-Some.ensures.ends in
    among_edges c.args.edges.now points c.requires.line a c.in-Some.edge s

pub side_on_left-on_left-requires : goal.side_on_left-on_left-requires
side_on_left-on_left-requires c =
    let below : c.place_of-place.result < length c.args.edges.now = slice_get_within c.args.edges.now c.place_of-place.result c.in-Some.edge c.place_of-place.ensures in
    search rules

pub side_on_right-on_right-requires : goal.side_on_right-on_right-requires
side_on_right-on_right-requires c =
    let below : c.place_of-place.result < length c.args.edges.now = slice_get_within c.args.edges.now c.place_of-place.result c.in-Some.edge c.place_of-place.ensures in
    search rules

pub returns-in-Some : goal.returns-in-Some
returns-in-Some c =
    let edges : List Seg = c.args.edges.now in
    let points = c.args.points.items in
    let a = c.index-first.result.now in
    let e = c.in-Some.edge in
    let long = c.requires.line.long in
    let s : IsSegBetween (get_or points 0 a) (get_or points 1 a) e = between_same _ _ _ _ e (sym c.index-first.ensures) (get_or_default points 1 a _ (omega arith) ∙ sym c.index.ensures) c.in-Some.ensures.ends in
    let same : c.args.edges.now ≡ c.args.regions.now = c.requires.edges in
    let on_left : IsSide c.args.regions.now c.side_on_left-on_left.result.number (left_from a e) =
    subst (λ (es : List Seg). IsSide es c.side_on_left-on_left.result.number (left_from a e)) same (c.side_on_left-on_left.ensures.side edges c.place_of-place.ensures) in
    let on_right : IsSide c.args.regions.now c.side_on_right-on_right.result.number (right_from a e) =
    subst (λ (es : List Seg). IsSide es c.side_on_right-on_right.result.number (right_from a e)) same (c.side_on_right-on_right.ensures.side edges c.place_of-place.ensures) in
    record {
      points_are = refl;
      left = λ o is. c.side_holder.ensures o (left_from a e) is on_left ∙ ap (λ q. holder o.uses o.members (left_from q e)) c.index-first.ensures ∙ sym (left_is edges points c.requires.line a e s o.uses o.members);
      right = λ o is. c.side_holder-in-Some.ensures o (right_from a e) is on_right ∙ ap (λ q. holder o.uses o.members (right_from q e)) c.index-first.ensures ∙ sym (right_is edges points c.requires.line a e s o.uses o.members);
    }

pub returns-in-None : goal.returns-in-None
returns-in-None c =
    let points = c.args.points.items in
    let a = c.index-first.result.now in
    let long = c.requires.line.long in
    absurd (ends_apart c.args.edges.now points c.requires.line a (sym c.index-first.ensures ∙ (c.in-None.ensures.same).0 (search rules) ∙ c.index.ensures ∙ get_or_default points 1 _ a (omega arith)))
