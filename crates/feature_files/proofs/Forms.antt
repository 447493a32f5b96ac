-- Features without a float have one written form.
use Rattle.std.proofs.Common.{◌≡◌, ℕ, Bool, true, false, if◌then◌else◌, is_some, Option, List, [], ◌∷◌, ◌++◌, length, refl, ap, sym, subst, ◌∙◌, codes}
use Rattle.std.specs.Prelude.{All}
use Rattle.std.proofs.lemmas.List.Elements.{All-head, All-tail, All-replicate}
use Rattle.cov_types.specs.Coverage.{Members}
use Rattle.file_form.specs.Name.{is_json}
use Rattle.serde_json.specs.Data.{Data, null}
use Rattle.serde_json.specs.Find.{as_null}
use Rattle.serde_json.specs.Written.{has_float}
use Rattle.geo_json.specs.Reading.{Reading}
use Rattle.json_write.specs.Text.{IsValueText, Feature, features_from, geometry_text, id_text, IsFeatureText, AreFeatureTexts, collection_text}
use Rattle.feature_files.specs.Form.{IsWrittenBy, IsWrittenAs, HasNoFloat}
use Rattle.feature_files.specs.Reading.{bare}

abbrev IsExact : Data → Type 0
IsExact d = has_float d ≡ false

one_value : (d : Data) (t u : List ℕ) → IsExact d → IsValueText d t → IsValueText d u → t ≡ u
one_value d t u exact h k = h.exact exact ∙ sym (k.exact exact)

-- a null id has no text, and another has one
one_id : (d : Data) (b : Bool) (t u : List ℕ) → is_some (as_null d) ≡ b → (is_some (as_null d) ≡ false → t ≡ u) → id_text d t ≡ id_text d u
one_id d true t u e same =
    let text : List ℕ → Bool → List ℕ = λ v c. if c then [] else codes ",\"id\":" ++ v in
    ap (text t) e ∙ sym (ap (text u) e)
one_id d false t u e same = ap (id_text d) (same e)

one_feature : (f : Feature) (t u : List ℕ) → IsExact f.properties → IsExact f.id → IsFeatureText f t → IsFeatureText f u → t ≡ u
one_feature f t u exact no_id h k =
    let id : id_text f.id h.id ≡ id_text f.id k.id = one_id f.id (is_some (as_null f.id)) h.id k.id refl (λ some. one_value f.id h.id k.id no_id (h.id_is some) (k.id_is some)) in
    let properties : h.properties ≡ k.properties = one_value f.properties h.properties k.properties exact h.properties_is k.properties_is in
    let text : List ℕ → List ℕ → List ℕ = λ i p. codes "{\"geometry\":" ++ geometry_text f.polys ++ i ++ codes ",\"properties\":" ++ p ++ codes ",\"type\":\"Feature\"}" in
    h.text_is ∙ (λ j. text (id j) (properties j)) ∙ sym k.text_is

no_texts : (ts us : List (List ℕ)) → AreFeatureTexts [] ts → AreFeatureTexts [] us → ts ≡ us
no_texts [] [] h k = refl
no_texts [] (u ∷ us) h k = absurd k
no_texts (t ∷ ts) us h k = absurd h

one_texts : (ms : Members) (ps is : List Data) (ts us : List (List ℕ)) → All IsExact ps → All IsExact is → AreFeatureTexts (features_from ms ps is) ts → AreFeatureTexts (features_from ms ps is) us → ts ≡ us
one_texts [] ps is ts us exact no_id h k = no_texts ts us h k
one_texts (m ∷ ms) [] is ts us exact no_id h k = no_texts ts us h k
one_texts (m ∷ ms) (p ∷ ps) [] ts us exact no_id h k = no_texts ts us h k
one_texts (m ∷ ms) (p ∷ ps) (i ∷ is) [] us exact no_id h k = absurd h
one_texts (m ∷ ms) (p ∷ ps) (i ∷ is) (t ∷ ts) [] exact no_id h k = absurd k
one_texts (m ∷ ms) (p ∷ ps) (i ∷ is) (t ∷ ts) (u ∷ us) exact no_id h k =
    let first = one_feature (record { polys = m; properties = p; id = i }) t u (All-head IsExact p ps exact) (All-head IsExact i is no_id) h.0 k.0 in
    let rest = one_texts ms ps is ts us (All-tail IsExact p ps exact) (All-tail IsExact i is no_id) h.1 k.1 in
    λ j. first j ∷ rest j

one_form_by : (json : Bool) (scale : Option ℕ) (r : Reading) (text other : List ℕ) → HasNoFloat r → IsWrittenBy json scale r text → IsWrittenBy json scale r other → text ≡ other
one_form_by true scale r text other exact h k = h.text_is ∙ ap collection_text (one_texts r.members r.properties r.ids h.texts k.texts exact.properties exact.ids h.each k.each) ∙ sym k.text_is
one_form_by false scale r text other exact h k = h ∙ sym k

pub one_form : (name : List ℕ) (scale : Option ℕ) (r : Reading) (text other : List ℕ) → HasNoFloat r → IsWrittenAs name scale r text → IsWrittenAs name scale r other → text ≡ other
one_form name = one_form_by (is_json name)

-- text has one form, whatever the properties and ids
pub one_text_form : (name : List ℕ) (scale : Option ℕ) (r : Reading) (text other : List ℕ) → is_json name ≡ false → IsWrittenAs name scale r text → IsWrittenAs name scale r other → text ≡ other
one_text_form name scale r text other is_text h k =
    subst (λ (json : Bool). IsWrittenBy json scale r text) is_text h ∙ sym (subst (λ (json : Bool). IsWrittenBy json scale r other) is_text k)

-- null properties and no ids have no float
pub bare_exact : (members : Members) → HasNoFloat (bare members)
bare_exact members = record { properties = All-replicate IsExact (length members) null refl; ids = All-replicate IsExact (length members) null refl }
