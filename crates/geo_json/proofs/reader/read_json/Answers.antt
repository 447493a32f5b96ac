use Rattle.serde_json.specs.View.{view}
use Rattle.geo_json.specs.Shape.{document_of}
use Rattle.geo_json.proofs.Formed.{formed, even}
use Rattle.geo_json.proofs.reader.read_json.Goals as goal

pub invariant_of-result : goal.invariant_of-result
invariant_of-result c = record { even = even (document_of (view c.in_ok-value.value)) c.in_ok-all.all c.in_ok-all.ensures.ok }

pub returns-clause-formed : goal.returns-clause-formed
returns-clause-formed c = formed (view c.in_ok-value.value) c.in_ok-all.all c.in_ok-all.ensures.ok
