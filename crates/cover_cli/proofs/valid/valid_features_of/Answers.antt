-- A coverage that is not admitted is refused for its cause.
use Rattle.std.proofs.lemmas.Result.{err_from_is_err_and}
use Rattle.geo_json.specs.Reading.{held}
use Rattle.cover_cli.proofs.Causes.{admit_refused}
use Rattle.cover_cli.proofs.valid.valid_features_of.Goals as goal

pub returns-in_err-coverage-clause-refused : goal.returns-in_err-coverage-clause-refused
returns-in_err-coverage-clause-refused c =
    let p = err_from_is_err_and c.from_residual-in_err-coverage.result c.from_residual-in_err-coverage.ensures.1 in
    rw (p.1, p.2) (admit_refused c.in_err-coverage.field-0.0 c.args.name.now c.args.scale c.args.input.items (held c.in_ok-features.features) c.in_ok-features.ensures.read c.in_err-coverage.ensures.refused)
