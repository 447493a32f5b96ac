-- The reading of a document without a fault is formed.
use Rattle.std.proofs.Common.{◌≡◌, ℕ, ◌+◌, ◌≤◌, List, length, Option, Some, None, inr, refl, ap, sym, subst, arith}
use Rattle.std.proofs.lemmas.List.{length-map}
use Rattle.cov_types.specs.Coverage.{IsFormed}
use Rattle.geo_text.specs.declared.reader.TheConstants.{LONGEST_INPUT}
use Rattle.serde_json.specs.Data.{Data}
use Rattle.geo_json.specs.Shape.{document_of}
use Rattle.geo_json.specs.Reading.{Reading, StandsFor, Reads}
use Rattle.geo_json.specs.Fault.{faults_from, fault_of, HasNoFault}
use Rattle.geo_json.specs.declared.error.JsonFault.{JsonFault}
use Rattle.geo_json.proofs.Counts.{features_few}
use Rattle.geo_json.proofs.Formed.{features_are_formed}
use Rattle.geo_json.proofs.OneAnswer.{no_first}

no_fault : (bytes : List ℕ) (d : Data) → StandsFor bytes d → HasNoFault bytes → (o : Option JsonFault) → fault_of d ≡ o → fault_of d ≡ None
no_fault bytes d stands faultless None e = e
no_fault bytes d stands faultless (Some fault) e = absurd (faultless fault (inr (d, stands, e)))

pub read_formed : (bytes : List ℕ) (r : Reading) → length bytes ≤ LONGEST_INPUT → Reads bytes r → HasNoFault bytes → IsFormed r.members
read_formed bytes r within reads faultless =
    let none = no_first (faults_from 0 0 (document_of reads.value)) (no_fault bytes reads.value reads.stands faultless (fault_of reads.value) refl) in
    let few : length reads.features ≤ LONGEST_INPUT + 1 = omega (arith, within, features_few bytes reads.value reads.stands.1, ap length reads.shapes, length-map reads.features Some) in
    subst IsFormed (ap (λ (s : Reading). s.members) (sym reads.read)) (features_are_formed reads.value reads.features reads.shapes none (omega (arith, few)))
