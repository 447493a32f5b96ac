-- The geometry of an object, by its type and its coordinates.
use Rattle.std.proofs.Common.{◌≡◌, true, false, List, [], ◌∷◌, ◌++◌, Some, option_map, unwrap_or, codes, refl, ap, ◌∙◌, sym}
use Rattle.cov_types.specs.declared.coord.Coord.{Coord}
use Rattle.serde_json.specs.Data.{Data, null}
use Rattle.serde_json.specs.Find.{get}
use Rattle.geo_json.specs.Shape.{RingShape, PolygonShape, is_of_type, with_rings, polygons_by}
use Rattle.geo_json.specs.Fault.{rings_of}
use Rattle.geo_json.specs.Noting.{noting_rings, IsMultiPolygonTaken, IsGeometryTaken}
use Rattle.geo_json.specs.declared.first_faults.FirstFaults.{FirstFaults}

-- polygons without rings have no rings
rings_kept : (polygons : List PolygonShape) → rings_of (with_rings polygons) ≡ rings_of polygons
rings_kept [] = refl
rings_kept ([] ∷ polygons) = rings_kept polygons
rings_kept ((ring ∷ rings) ∷ polygons) = ap (λ (l : List RingShape). (ring ∷ rings) ++ l) (rings_kept polygons)

-- the geometry of a MultiPolygon
pub multi_taken : (d c : Data) (before after : FirstFaults) (polys : List (List (List Coord))) → Some c ≡ get (codes "coordinates") d
    → is_of_type (codes "Polygon") d ≡ false → is_of_type (codes "MultiPolygon") d ≡ true → IsMultiPolygonTaken c before polys after → IsGeometryTaken d before polys after
multi_taken d c before after polys has one multi all = record {
  item = with_rings all.item;
  read = (λ k. polygons_by (one k) (multi k) (unwrap_or (sym has k) null)) ∙ ap (option_map with_rings) all.read;
  value = all.value;
  noted = all.noted ∙ ap (λ rings. noting_rings rings before) (sym (rings_kept all.item));
}
