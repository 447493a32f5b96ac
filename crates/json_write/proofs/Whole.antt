-- The document that the pieces make.
use Rattle.std.proofs.Common.{◌≡◌, ℕ, List, [], ◌++◌, map, ap, ◌∙◌, subst, codes}
use Rattle.cov_types.specs.Coverage.{Members}
use Rattle.serde_json.specs.View.{view}
use Rattle.serde_json.specs.declared.value.Value.{Value}
use Rattle.geo_json.specs.Reading.{held}
use Rattle.geo_json.specs.declared.features.Features.{Features}
use Rattle.json_write.specs.Text.{Feature, AreFeatureTexts, with_commas, features_from, features_of, IsWritten}
use Rattle.json_write.proofs.Pieces.{three_pieces, collection_is}

pub document_written : (features : Features) (members : Members) (properties ids : List Value) (texts : List (List ℕ)) (before first second third : List ℕ)
    → members ≡ features.coverage → properties ≡ features.properties.items → ids ≡ features.ids.items → AreFeatureTexts (features_from members (map view properties) (map view ids)) texts
    → before ≡ [] → first ≡ before ++ codes "{\"features\":[" → second ≡ first ++ with_commas texts → third ≡ second ++ codes "],\"type\":\"FeatureCollection\"}\n"
    → IsWritten (features_of (held features)) third
document_written features members properties ids texts before first second third em ep ei each none f s t =
    let P : List Feature → Type 0 = λ fs. AreFeatureTexts fs texts in
    record {
      texts = texts;
      each = subst P (λ k. features_from (em k) (map view (ep k)) (map view (ei k))) each;
      text_is = three_pieces [] (codes "{\"features\":[") (with_commas texts) (codes "],\"type\":\"FeatureCollection\"}\n") first second third (f ∙ ap (λ (l : List ℕ). l ++ codes "{\"features\":[") none) s t
          ∙ collection_is texts;
    }
