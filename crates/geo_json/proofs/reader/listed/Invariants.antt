use Rattle.std.proofs.Common.{map}
use Rattle.std.specs.Vec.Iter.{into_iter_items}
use Rattle.serde_json.specs.View.{view}
use Rattle.geo_json.proofs.Document.{IsReadSoFar}
use Rattle.geo_json.proofs.reader.listed.Given as goal

abbrev pub invariant-loop-value : goal.invariant-loop-value
invariant-loop-value l =
    (goal.iterator-loop-value).can_next l.value-iterator ×
    (goal.iterator-loop-value).is_finite l.value-iterator ×
    IsReadSoFar (map view l.fn.list.items) (map view (into_iter_items l.value-iterator)) l.all
