-- By its name and at a scale a file has one reading or one fault.
use Rattle.std.proofs.Common.{◌≡◌, ℕ, ◌≤◌, Bool, true, false, List, length, Option, ◌⊎◌, inl, inr, refl, ap, sym, subst, ◌∙◌}
use Rattle.cov_types.specs.Coverage.{Members, IsFormed}
use Rattle.file_form.specs.Name.{is_json}
use Rattle.geo_json.proofs.OneAnswer as json
use Rattle.geo_json.proofs.ReadFormed as json_formed
use Rattle.geo_json.specs.Fault as json_faults
use Rattle.geo_json.specs.Reading as json_readings
use Rattle.geo_json.specs.Reading.{Reading}
use Rattle.geo_json.specs.declared.error.JsonFault.{JsonFault}
use Rattle.geo_text.proofs.Formed as text_formed
use Rattle.geo_text.proofs.OneReading as text_reading
use Rattle.geo_text.proofs.Verdicts as text
use Rattle.geo_text.specs.Fault as text_faults
use Rattle.geo_text.specs.Reading as text_readings
use Rattle.geo_text.specs.declared.error.TextFault.{TextFault}
use Rattle.geo_text.specs.declared.reader.TheConstants.{LONGEST_INPUT}
use Rattle.json_write.proofs.ReadBack as json_written
use Rattle.json_write.specs.ReadBack.{IsReadable}
use Rattle.feature_files.specs.Fault.{IsFaultBy, IsFault}
use Rattle.feature_files.specs.Form.{IsWrittenBy, IsWrittenAs}
use Rattle.feature_files.specs.Reading.{bare, IsReadBy, IsRead}
use Rattle.feature_files.specs.declared.error.FileFault.{FileFault}
use Rattle.feature_files.specs.declared.error.FileFault.TheVariants.{Text, Json}

one_reading_by : (json_file : Bool) (scale : Option ℕ) (bytes : List ℕ) (r s : Reading) → IsReadBy json_file scale bytes r → IsReadBy json_file scale bytes s → r ≡ s
one_reading_by true scale bytes r s h k = json.one_reading bytes r s h.reads k.reads
one_reading_by false scale bytes r s h k = h.is_bare ∙ ap bare (text_reading.one_reading scale bytes r.members s.members h.reads k.reads) ∙ sym k.is_bare

one_fault_by : (json_file : Bool) (scale : Option ℕ) (bytes : List ℕ) (e f : FileFault) → IsFaultBy json_file scale bytes e → IsFaultBy json_file scale bytes f → e ≡ f
one_fault_by true scale bytes (Json e) (Json f) h k = ap Json (json.one_fault bytes e f h k)
one_fault_by true scale bytes (Json e) (Text f) h k = absurd k
one_fault_by true scale bytes (Text e) f h k = absurd h
one_fault_by false scale bytes (Text e) (Text f) h k = ap Text (text.one_fault scale bytes e f h k)
one_fault_by false scale bytes (Text e) (Json f) h k = absurd k
one_fault_by false scale bytes (Json e) f h k = absurd h

abbrev HasAnswer : Bool → Option ℕ → List ℕ → Type 0
HasAnswer json_file scale bytes = ((r : Reading) × IsReadBy json_file scale bytes r) ⊎ ((fault : FileFault) × IsFaultBy json_file scale bytes fault)

json_answer : (scale : Option ℕ) (bytes : List ℕ) → ((r : Reading) × json_readings.Reads bytes r × json_faults.HasNoFault bytes) ⊎ ((fault : JsonFault) × json_faults.IsFault bytes fault) → HasAnswer true scale bytes
json_answer scale bytes (inl (r, reads, faultless)) = inl (r, record { reads = reads; faultless = faultless })
json_answer scale bytes (inr (fault, is)) = inr (Json fault, is)

text_answer : (scale : Option ℕ) (bytes : List ℕ) → ((c : Members) × text_readings.Reads scale bytes c × text_faults.HasNoFault scale bytes) ⊎ ((fault : TextFault) × text_faults.IsFault scale bytes fault) → HasAnswer false scale bytes
text_answer scale bytes (inl (c, reads, faultless)) = inl (bare c, record { reads = reads; faultless = faultless; is_bare = refl })
text_answer scale bytes (inr (fault, is)) = inr (Text fault, is)

read_or_fault_by : (json_file : Bool) (scale : Option ℕ) (bytes : List ℕ) → HasAnswer json_file scale bytes
read_or_fault_by true scale bytes = json_answer scale bytes (json.read_or_fault bytes)
read_or_fault_by false scale bytes = text_answer scale bytes (text.read_or_fault scale bytes)

faultless_by : (json_file : Bool) (scale : Option ℕ) (bytes : List ℕ) (r : Reading) (fault : FileFault) → IsReadBy json_file scale bytes r → IsFaultBy json_file scale bytes fault → ⊥
faultless_by true scale bytes r (Json fault) h k = h.faultless fault k
faultless_by true scale bytes r (Text fault) h k = k
faultless_by false scale bytes r (Text fault) h k = h.faultless fault k
faultless_by false scale bytes r (Json fault) h k = k

formed_by : (json_file : Bool) (scale : Option ℕ) (bytes : List ℕ) (r : Reading) → length bytes ≤ LONGEST_INPUT → IsReadBy json_file scale bytes r → IsFormed r.members
formed_by true scale bytes r within h = json_formed.read_formed bytes r within h.reads h.faultless
formed_by false scale bytes r within h = text_formed.read_formed scale bytes r.members within h.reads h.faultless

-- ---- by the name

pub one_reading : (name : List ℕ) (scale : Option ℕ) (bytes : List ℕ) (r s : Reading) → IsRead name scale bytes r → IsRead name scale bytes s → r ≡ s
one_reading name = one_reading_by (is_json name)

pub one_fault : (name : List ℕ) (scale : Option ℕ) (bytes : List ℕ) (e f : FileFault) → IsFault name scale bytes e → IsFault name scale bytes f → e ≡ f
one_fault name = one_fault_by (is_json name)

pub read_or_fault : (name : List ℕ) (scale : Option ℕ) (bytes : List ℕ) → ((r : Reading) × IsRead name scale bytes r) ⊎ ((fault : FileFault) × IsFault name scale bytes fault)
read_or_fault name = read_or_fault_by (is_json name)

pub read_faultless : (name : List ℕ) (scale : Option ℕ) (bytes : List ℕ) (r : Reading) (fault : FileFault) → IsRead name scale bytes r → IsFault name scale bytes fault → ⊥
read_faultless name = faultless_by (is_json name)

pub read_formed : (name : List ℕ) (scale : Option ℕ) (bytes : List ℕ) (r : Reading) → length bytes ≤ LONGEST_INPUT → IsRead name scale bytes r → IsFormed r.members
read_formed name = formed_by (is_json name)

pub read_back : (name : List ℕ) (scale : Option ℕ) (text : List ℕ) (r : Reading) → is_json name ≡ true → IsReadable r → IsWrittenAs name scale r text → IsRead name scale text r
read_back name scale text r named readable written =
    let back = json_written.read_back r text readable (subst (λ (json_file : Bool). IsWrittenBy json_file scale r text) named written) in
    subst (λ (json_file : Bool). IsReadBy json_file scale text r) (sym named) (record { reads = back.0; faultless = back.1 })
