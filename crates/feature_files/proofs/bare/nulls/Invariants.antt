use Rattle.std.proofs.Common.{◌≡◌, map, replicate}
use Rattle.serde_json.specs.Data.{null}
use Rattle.serde_json.specs.View.{view}
use Rattle.feature_files.proofs.bare.nulls.Given as goal

abbrev pub invariant-loop : goal.invariant-loop
invariant-loop l = map view l.values.items ≡ replicate l.counter null
