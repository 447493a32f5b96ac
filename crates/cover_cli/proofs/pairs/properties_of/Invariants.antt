-- The properties of the pairs that were gone over.
use Rattle.std.proofs.Common.{◌≡◌, map, take}
use Rattle.serde_json.specs.View.{view}
use Rattle.cover_cli.specs.Overlay.{pair_properties}
use Rattle.cover_cli.proofs.pairs.properties_of.Given as goal

abbrev pub invariant-loop-pair : goal.invariant-loop-pair
invariant-loop-pair l = map view l.properties.items ≡ map pair_properties (take l.pair-index l.pairs)
