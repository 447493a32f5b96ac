-- Texts that are put together piece by piece.
use Rattle.std.proofs.Common.{◌≡◌, ℕ, ◌<◌, ◌≤◌, List, [], ◌∷◌, ◌++◌, length, get_or, ap, ◌∙◌, arith, append_assoc}
use Rattle.std.specs.Prelude.{codes}
use Rattle.cov_types.specs.declared.coord.Coord.{Coord}
use Rattle.json_write.specs.Text.{separated, in_brackets, polygon_text, geometry_text, with_commas, collection_text}

-- a piece more behind what was appended
pub piece_more : (before a b after last : List ℕ) → after ≡ before ++ a → last ≡ after ++ b → last ≡ before ++ (a ++ b)
piece_more before a b after last f s = s ∙ ap (λ (l : List ℕ). l ++ b) f ∙ append_assoc before a b

-- three pieces, each appended to the one before
pub three_pieces : (before a b c first second third : List ℕ) → first ≡ before ++ a → second ≡ first ++ b → third ≡ second ++ c → third ≡ before ++ (a ++ b ++ c)
three_pieces before a b c first second third f s t = piece_more before (a ++ b) c second third (piece_more before a b first second f s) t

-- the geometry of one polygon
pub polygon_appended : (shown polys : List (List (List Coord))) (poly : List (List Coord)) (before first second third : List ℕ) → shown ≡ polys → 1 ≤ length shown → length shown < 2 → poly ≡ get_or shown 0 poly
    → first ≡ before ++ codes "{\"coordinates\":" → second ≡ first ++ polygon_text poly → third ≡ second ++ codes ",\"type\":\"Polygon\"}" → third ≡ before ++ geometry_text polys
polygon_appended [] polys poly before first second third same some one is f s t = absurd (omega arith)
polygon_appended (p ∷ []) polys poly before first second third same some one is f s t =
    three_pieces before (codes "{\"coordinates\":") (polygon_text poly) (codes ",\"type\":\"Polygon\"}") first second third f s t
    ∙ ap (λ q. before ++ geometry_text (q ∷ [])) is ∙ ap (λ l. before ++ geometry_text l) same
polygon_appended (p ∷ q ∷ more) polys poly before first second third same some one is f s t = absurd (omega arith)

brackets_in : (text : List ℕ) → codes "{\"coordinates\":[" ++ text ++ codes "],\"type\":\"MultiPolygon\"}" ≡ codes "{\"coordinates\":" ++ in_brackets text ++ codes ",\"type\":\"MultiPolygon\"}"
brackets_in text = simp append_assoc

-- that of several
pub polygons_appended : (shown polys : List (List (List Coord))) (before first second third : List ℕ) → shown ≡ polys → 2 ≤ length shown
    → first ≡ before ++ codes "{\"coordinates\":[" → second ≡ first ++ separated polygon_text shown → third ≡ second ++ codes "],\"type\":\"MultiPolygon\"}" → third ≡ before ++ geometry_text polys
polygons_appended [] polys before first second third same some f s t = absurd (omega arith)
polygons_appended (p ∷ []) polys before first second third same some f s t = absurd (omega arith)
polygons_appended (p ∷ q ∷ more) polys before first second third same some f s t =
    three_pieces before (codes "{\"coordinates\":[") (separated polygon_text (p ∷ q ∷ more)) (codes "],\"type\":\"MultiPolygon\"}") first second third f s t
    ∙ ap (λ (l : List ℕ). before ++ l) (brackets_in (separated polygon_text (p ∷ q ∷ more))) ∙ ap (λ l. before ++ geometry_text l) same

brackets_around : (text : List ℕ) → codes "{\"features\":[" ++ text ++ codes "],\"type\":\"FeatureCollection\"}\n" ≡ codes "{\"features\":" ++ in_brackets text ++ codes ",\"type\":\"FeatureCollection\"}\n"
brackets_around text = simp append_assoc

-- the collection
pub collection_is : (texts : List (List ℕ)) → codes "{\"features\":[" ++ with_commas texts ++ codes "],\"type\":\"FeatureCollection\"}\n" ≡ collection_text texts
collection_is texts = brackets_around (with_commas texts)
