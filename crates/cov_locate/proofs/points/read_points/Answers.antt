use Rattle.std.proofs.Common.{◌≡◌, ◌<◌, ◌∙◌, [], ◌∷◌, ◌++◌, All, length, sym, ap, subst, refl, append-nil, arith}
use Rattle.std.proofs.lemmas.Bool.{eqb-false}
use Rattle.std.proofs.lemmas.List.Elements.{All-push}
use Rattle.cov_locate.proofs.Lines.{read_more, fault_found}
use Rattle.cov_locate.proofs.points.read_points.Goals as goal
use Rattle.cov_locate.proofs.points.read_points.Goals.{in-Blank, in-Point+in_ok-push-in-Point}
use Rattle.cov_locate.specs.Points.{line_of, IsLineInRange}
use Rattle.cov_locate.specs.declared.line.Line.TheVariants.{Blank, Point, Syntax, OutOfRange}
use Rattle.cov_locate.specs.declared.points.PointsFault.TheVariants as fault
use Rattle.cov_types.specs.Range.{IsInRange}
use Rattle.cov_types.specs.declared.coord.Coord.{Coord}

pub returns-in-Syntax-clause-exact : goal.returns-in-Syntax-clause-exact
returns-in-Syntax-clause-exact c =
    let apart = eqb-false (length c.loop-rest.rest.now) 0 (sym c.is_empty.ensures ∙ c.loop-rest-test.true) in
    fault_found c.args.bytes.now c.loop-rest.rest.now c.loop-rest.number c.loop-rest.points.items Syntax (fault.Syntax c.loop-rest.number) (omega arith)
    (sym c.in-Syntax.is ∙ c.read_line.ensures.exact ∙ ap line_of c.split_line.ensures.line) (λ found. refl) c.loop-rest.invariant.0

pub returns-in-OutOfRange-clause-exact : goal.returns-in-OutOfRange-clause-exact
returns-in-OutOfRange-clause-exact c =
    let apart = eqb-false (length c.loop-rest.rest.now) 0 (sym c.is_empty.ensures ∙ c.loop-rest-test.true) in
    fault_found c.args.bytes.now c.loop-rest.rest.now c.loop-rest.number c.loop-rest.points.items OutOfRange (fault.OutOfRange c.loop-rest.number) (omega arith)
    (sym c.in-OutOfRange.is ∙ c.read_line.ensures.exact ∙ ap line_of c.split_line.ensures.line) (λ found. refl) c.loop-rest.invariant.0

pub loop-rest-preserved : goal.loop-rest-preserved
loop-rest-preserved c =
    let bytes = c.args.bytes.now in
    let rest = c.loop-rest.rest.now in
    let points = c.loop-rest.points.items in
    let more = c.match-read_line.points.items in
    let apart = eqb-false (length rest) 0 (sym c.is_empty.ensures ∙ c.loop-rest-test.true) in
    let some : 0 < length rest = omega arith in
    let read = c.read_line.ensures.exact ∙ ap line_of c.split_line.ensures.line in
    elim c.match-read_line.branch [
      | in-Blank w ↦
          let same : more ≡ points = ap (λ v. v.items) w.points-is in (
            read_more bytes rest c.split_line.result.1.now c.loop-rest.number points more Blank some c.split_line.ensures.after (sym w.in-Blank.is ∙ read) (λ found. refl) (same ∙ sym (append-nil points)) c.loop-rest.invariant.0,
            subst (All IsInRange) (sym same) c.loop-rest.invariant.1,
          )
      | in-Point+in_ok-push-in-Point w ↦
          let p : Coord = w.in-Point.p in
          let pushed : more ≡ points ++ p ∷ [] = ap (λ v. v.items) w.points-is ∙ w.in_ok-push-in-Point.ensures.items in
          let in_range : IsInRange p = subst IsLineInRange w.in-Point.is c.read_line.ensures.in_range in (
            read_more bytes rest c.split_line.result.1.now c.loop-rest.number points more (Point p) some c.split_line.ensures.after (sym w.in-Point.is ∙ read) (λ found. refl) pushed c.loop-rest.invariant.0,
            subst (All IsInRange) (sym pushed) (All-push IsInRange points p c.loop-rest.invariant.1 in_range),
          )
    ]
