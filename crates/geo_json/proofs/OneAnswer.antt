-- Bytes have one reading or one fault.
use Rattle.std.proofs.Common.{◌≡◌, ℕ, ◌+◌, Bool, true, false, List, [], ◌∷◌, map, Option, Some, None, ◌⊎◌, inl, inr, refl, ap, ◌∙◌, sym}
use Rattle.std.proofs.lemmas.Bool.{false≢true}
use Rattle.std.specs.Str.{is_utf8}
use Rattle.std.proofs.lemmas.Option.{none-some, same_Some}
use Rattle.std.proofs.lemmas.Str.{IsUtf8-from_is_utf8, is_utf8-from_IsUtf8}
use Rattle.serde_json.specs.Data.{Data}
use Rattle.serde_json.specs.Read.{read}
use Rattle.geo_json.specs.Shape.{FeatureShape, document_of}
use Rattle.geo_json.specs.Reading.{Reading, reading_of, StandsFor, Reads}
use Rattle.geo_json.specs.Fault.{first, feature_faults, ring_count, faults_from, fault_of, IsFault, HasNoFault}
use Rattle.geo_json.specs.declared.error.JsonFault.{JsonFault}
use Rattle.geo_json.specs.declared.error.JsonFault.TheVariants.{NotJson}
use Rattle.geo_json.proofs.Formed.{no_parts}

-- ---- one value, one reading

pub same_value : (bytes : List ℕ) (d e : Data) → StandsFor bytes d → StandsFor bytes e → d ≡ e
same_value bytes d e h k = same_Some d e (sym h.1 ∙ k.1)

same_features : (fs gs : List FeatureShape) → map Some fs ≡ map Some gs → fs ≡ gs
same_features [] [] e = refl
same_features [] (g ∷ gs) e = absurd (cc)
same_features (f ∷ fs) [] e = absurd (cc)
same_features (f ∷ fs) (g ∷ gs) e =
    let head : f ≡ g = cc in
    let tail : map Some fs ≡ map Some gs = cc in
    let rest = same_features fs gs tail in
    λ k. head k ∷ rest k

pub one_reading : (bytes : List ℕ) (r s : Reading) → Reads bytes r → Reads bytes s → r ≡ s
one_reading bytes r s h k =
    let value = same_value bytes h.value k.value h.stands k.stands in
    h.read ∙ ap reading_of (same_features h.features k.features (sym h.shapes ∙ ap document_of value ∙ k.shapes)) ∙ sym k.read

-- ---- one fault

pub one_fault : (bytes : List ℕ) (e f : JsonFault) → IsFault bytes e → IsFault bytes f → e ≡ f
one_fault bytes e f (inl h) (inl k) = h.0 ∙ sym k.0
one_fault bytes e f (inl h) (inr k) = absurd (h.1 k.0 k.1)
one_fault bytes e f (inr h) (inl k) = absurd (k.1 h.0 h.1)
one_fault bytes e f (inr h) (inr k) = same_Some e f (sym h.2 ∙ ap fault_of (same_value bytes h.0 k.0 h.1 k.1) ∙ k.2)

-- ---- a fault, or a reading without one

pub no_first : (fs : List JsonFault) → first fs ≡ None → fs ≡ []
no_first [] e = refl
no_first (f ∷ fs) e = absurd (none-some f (sym e))

-- where no feature has a fault, all have a shape
all_shaped : (number rings : ℕ) (document : List (Option FeatureShape)) → faults_from number rings document ≡ [] → (fs : List FeatureShape) × (document ≡ map Some fs)
all_shaped number rings [] e = ([], refl)
all_shaped number rings (None ∷ document) e = absurd (cc)
all_shaped number rings (Some f ∷ document) e =
    let parts = no_parts (feature_faults number rings (Some f)) (faults_from (number + 1) (rings + ring_count (Some f)) document) e in
    let rest = all_shaped (number + 1) (rings + ring_count (Some f)) document parts.1 in
    (f ∷ rest.0, ap (λ l. Some f ∷ l) rest.1)

pub faultless : (bytes : List ℕ) (d : Data) → StandsFor bytes d → fault_of d ≡ None → HasNoFault bytes
faultless bytes d stands none fault (inl h) = h.1 d stands
faultless bytes d stands none fault (inr h) = none-some fault (sym none ∙ ap fault_of (same_value bytes d h.0 stands h.1) ∙ h.2)

abbrev HasAnswer : List ℕ → Type 0
HasAnswer bytes = ((r : Reading) × Reads bytes r × HasNoFault bytes) ⊎ ((fault : JsonFault) × IsFault bytes fault)

value_answered : (bytes : List ℕ) (d : Data) → StandsFor bytes d → (o : Option JsonFault) → fault_of d ≡ o → HasAnswer bytes
value_answered bytes d stands (Some fault) e = inr (fault, inr (d, stands, e))
value_answered bytes d stands None e =
    let shaped = all_shaped 0 0 (document_of d) (no_first (faults_from 0 0 (document_of d)) e) in
    inl (reading_of shaped.0, record { value = d; features = shaped.0; stands = stands; shapes = shaped.1; read = refl }, faultless bytes d stands e)

bytes_answered : (bytes : List ℕ) (utf8 : Bool) (o : Option Data) → is_utf8 bytes ≡ utf8 → read bytes ≡ o → HasAnswer bytes
bytes_answered bytes false o e k = inr (NotJson, inl (refl, λ d h. false≢true (sym e ∙ is_utf8-from_IsUtf8 bytes h.0)))
bytes_answered bytes true None e k = inr (NotJson, inl (refl, λ d h. none-some d (sym k ∙ h.1)))
bytes_answered bytes true (Some d) e k = value_answered bytes d (IsUtf8-from_is_utf8 bytes e, k) (fault_of d) refl

pub read_or_fault : (bytes : List ℕ) → ((r : Reading) × Reads bytes r × HasNoFault bytes) ⊎ ((fault : JsonFault) × IsFault bytes fault)
read_or_fault bytes = bytes_answered bytes (is_utf8 bytes) (read bytes) refl refl
