-- The features of a document that are read one after the other.
use Rattle.std.proofs.Common.{◌≡◌, ◌+◌, List, [], ◌∷◌, ◌++◌, map, Option, Some, refl, ap, ◌∙◌, sym, arith, length-append, append_assoc}
use Rattle.std.specs.Option.{option_or}
use Rattle.std.proofs.lemmas.List.{append-nil, map-append}
use Rattle.serde_json.specs.Data.{Data}
use Rattle.serde_json.specs.View.{view}
use Rattle.geo_json.specs.Shape.{FeatureShape, feature_of}
use Rattle.geo_json.specs.Reading.{polys_of_feature}
use Rattle.geo_json.specs.Fault.{first, feature_faults, ring_count, faults_from}
use Rattle.geo_json.specs.Collecting.{IsFeatureRead, AreCollected, AreAllRead}
use Rattle.geo_json.specs.declared.error.JsonFault.{JsonFault}
use Rattle.geo_json.specs.declared.feature.Feature.{Feature}
use Rattle.geo_json.specs.declared.collected.Collected.{Collected}
use Rattle.geo_json.proofs.Notes.{first-append}

-- some of the values were read as features without a fault, and the rest are left
pub record IsReadSoFar (all rest : List Data) (c : Collected) : Type 0 where
  pub features : List FeatureShape
  pub shaped : map feature_of all ≡ map Some features ++ map feature_of rest
  pub collected : AreCollected features c
  pub faults : faults_from 0 0 (map feature_of all) ≡ faults_from c.count c.rings (map feature_of rest)

pub begun : (all : List Data) (c : Collected) → AreCollected [] c → c.rings ≡ 0 → IsReadSoFar all all c
begun all c none rings = record {
  features = [];
  shaped = refl;
  collected = none;
  faults = λ k. faults_from (sym none.count k) (sym rings k) (map feature_of all);
}

faultless_first : (fs gs : List JsonFault) → fs ≡ [] → fs ++ gs ≡ gs
faultless_first fs gs e = ap (λ (l : List JsonFault). l ++ gs) e

pub one_more : (all rest : List Data) (d : Data) (c after : Collected) (f : Feature) → IsReadSoFar all (d ∷ rest) c → IsFeatureRead c.count c.rings (feature_of d) f
    → ((features : List FeatureShape) (shape : FeatureShape) → AreCollected features c
    → f.shapes.polys.items ≡ polys_of_feature shape → view f.properties ≡ shape.properties → view f.id ≡ shape.id → AreCollected (features ++ shape ∷ []) after)
    → after.rings ≡ f.shapes.rings → IsReadSoFar all rest after
one_more all rest d c after f so_far read pushes rings =
    let collected = pushes so_far.features read.shape so_far.collected read.polys read.properties read.id in
    let count : c.count + 1 ≡ after.count = omega (arith, so_far.collected.count, collected.count, length-append so_far.features (read.shape ∷ [])) in
    record {
      features = so_far.features ++ read.shape ∷ [];
      shaped = so_far.shaped ∙ ap (λ o. map Some so_far.features ++ o ∷ map feature_of rest) read.shaped
          ∙ sym (append_assoc (map Some so_far.features) (Some read.shape ∷ []) (map feature_of rest))
          ∙ ap (λ (l : List (Option FeatureShape)). l ++ map feature_of rest) (sym (map-append Some so_far.features (read.shape ∷ [])));
      collected = collected;
      faults = so_far.faults ∙ faultless_first (feature_faults c.count c.rings (feature_of d)) (faults_from (c.count + 1) (c.rings + ring_count (feature_of d)) (map feature_of rest)) read.faultless
          ∙ (λ k. faults_from (count k) (sym (rings ∙ read.next_ring) k) (map feature_of rest));
    }

pub ended : (all : List Data) (c : Collected) → IsReadSoFar all [] c → AreAllRead (map feature_of all) c
ended all c so_far = record { features = so_far.features; shaped = so_far.shaped ∙ append-nil (map Some so_far.features); collected = so_far.collected; faultless = so_far.faults }

first_of_first : (fs gs : List JsonFault) (fault : JsonFault) → first fs ≡ Some fault → first (fs ++ gs) ≡ Some fault
first_of_first fs gs fault e = first-append fs gs ∙ ap (λ o. option_or o (first gs)) e

pub at_fault : (all rest : List Data) (d : Data) (c : Collected) (fault : JsonFault) → IsReadSoFar all (d ∷ rest) c → first (feature_faults c.count c.rings (feature_of d)) ≡ Some fault
    → first (faults_from 0 0 (map feature_of all)) ≡ Some fault
at_fault all rest d c fault so_far e =
    ap first so_far.faults ∙ first_of_first (feature_faults c.count c.rings (feature_of d)) (faults_from (c.count + 1) (c.rings + ring_count (feature_of d)) (map feature_of rest)) fault e

-- a document of one feature
pub alone : (o : Option FeatureShape) (c after : Collected) (f : Feature) → IsFeatureRead 0 0 o f → AreCollected [] c
    → ((features : List FeatureShape) (shape : FeatureShape) → AreCollected features c
    → f.shapes.polys.items ≡ polys_of_feature shape → view f.properties ≡ shape.properties → view f.id ≡ shape.id → AreCollected (features ++ shape ∷ []) after)
    → AreAllRead (o ∷ []) after
alone o c after f read none pushes = record {
  features = read.shape ∷ [];
  shaped = ap (λ x. x ∷ []) read.shaped;
  collected = pushes [] read.shape none read.polys read.properties read.id;
  faultless = append-nil (feature_faults 0 0 o) ∙ read.faultless;
}
