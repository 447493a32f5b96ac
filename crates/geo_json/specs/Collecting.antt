-- What the reader has of the features that it read.
use Rattle.std.specs.Prelude.{◌≡◌, ℕ, ◌+◌, ◌<◌, ◌^◌, List, [], length, map, Option, Some}
use Rattle.serde_json.specs.View.{view}
use Rattle.geo_json.specs.Shape.{PolygonShape, FeatureShape}
use Rattle.geo_json.specs.Reading.{polys_of, polys_of_feature}
use Rattle.geo_json.specs.Fault.{rings_of, polygons_faults, feature_faults, ring_count, faults_from}
use Rattle.geo_json.specs.declared.feature.Shapes.{Shapes}
use Rattle.geo_json.specs.declared.feature.Feature.{Feature}
use Rattle.geo_json.specs.declared.collected.Collected.{Collected}

-- the polygons of a feature of this number were read without a fault
pub record AreShapesRead (number rings : ℕ) (read : Option (List PolygonShape)) (s : Shapes) : Type 0 where
  pub polygons : List PolygonShape
  pub shaped : read ≡ Some polygons
  pub polys : s.polys.items ≡ polys_of polygons
  pub next_ring : s.rings ≡ rings + length (rings_of polygons)
  pub faultless : polygons_faults number rings read ≡ []

-- the feature of this number was read without a fault
pub record IsFeatureRead (number rings : ℕ) (read : Option FeatureShape) (f : Feature) : Type 0 where
  pub shape : FeatureShape
  pub shaped : read ≡ Some shape
  pub polys : f.shapes.polys.items ≡ polys_of_feature shape
  pub properties : view f.properties ≡ shape.properties
  pub id : view f.id ≡ shape.id
  pub next_ring : f.shapes.rings ≡ rings + ring_count read
  pub faultless : feature_faults number rings read ≡ []

-- so many features and their rings were read, all without a fault
pub record AreCollected (features : List FeatureShape) (c : Collected) : Type 0 where
  pub members : c.members.items ≡ map polys_of_feature features
  pub properties : map view c.properties.items ≡ map (λ (f : FeatureShape). f.properties) features
  pub ids : map view c.ids.items ≡ map (λ (f : FeatureShape). f.id) features
  pub count : c.count ≡ length features
  pub fits : length features < 2 ^ 32

-- all of the features were read, and none has a fault
pub record AreAllRead (document : List (Option FeatureShape)) (c : Collected) : Type 0 where
  pub features : List FeatureShape
  pub shaped : document ≡ map Some features
  pub collected : AreCollected features c
  pub faultless : faults_from 0 0 document ≡ []
