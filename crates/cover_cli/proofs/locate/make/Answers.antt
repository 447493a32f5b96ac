-- Points that are not read are refused for their cause.
use Rattle.std.proofs.Common.{ℕ, List, subst}
use Rattle.std.proofs.lemmas.Result.{err_from_is_err_and}
use Rattle.cov_locate.specs.Points.{IsFaultOf}
use Rattle.geo_json.specs.Reading.{held}
use Rattle.cover_cli.proofs.Causes.{points_refused}
use Rattle.cover_cli.proofs.locate.make.Goals as goal

pub returns-in_err-points-clause-refused : goal.returns-in_err-points-clause-refused
returns-in_err-points-clause-refused c =
    let p = err_from_is_err_and c.from_residual-in_err-points.result c.from_residual-in_err-points.ensures.1 in
    let e = c.in_err-points.field-0.0 in
    rw (p.1, p.2) (points_refused e c.args.from.now c.args.input.items c.args.file.items (held c.in_ok-features.features) c.in_ok-features.ensures.read
    (subst (λ (bytes : List ℕ). IsFaultOf bytes e) c.deref.ensures.value c.in_err-points.ensures.exact))
