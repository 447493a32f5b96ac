-- The collection, put together piece by piece.
use Rattle.std.proofs.Common.{◌≡◌, ℕ, List, [], ◌∷◌, ◌++◌, map, refl, ap, sym, ◌∙◌}
use Rattle.std.specs.Prelude.{codes}
use Rattle.std.specs.List.{flat_map}
use Rattle.json_write.specs.Text.{separated, with_commas, collection_text}
use Rattle.json_write.proofs.Pieces.{three_pieces, collection_is}

commas_before : {X : Type 0} → (text : X → List ℕ) (xs : List X) → flat_map (λ later. codes "," ++ later) (map text xs) ≡ flat_map (λ x. codes "," ++ text x) xs
commas_before text [] = refl
commas_before text (x ∷ xs) = ap (λ (rest : List ℕ). (codes "," ++ text x) ++ rest) (commas_before text xs)

-- the texts of items with commas between are one text by either definition
with_commas-map : {X : Type 0} → (text : X → List ℕ) (xs : List X) → with_commas (map text xs) ≡ separated text xs
with_commas-map text [] = refl
with_commas-map text (x ∷ xs) = ap (λ (rest : List ℕ). text x ++ rest) (commas_before text xs)

-- the pieces of the collection, each appended to the one before
pub collection_appended : {X : Type 0} → (text : X → List ℕ) (xs : List X) (start first second third : List ℕ) → start ≡ [] → first ≡ start ++ codes "{\"features\":[" → second ≡ first ++ separated text xs
    → third ≡ second ++ codes "],\"type\":\"FeatureCollection\"}\n" → third ≡ collection_text (map text xs)
collection_appended text xs start first second third none f s t =
    three_pieces start (codes "{\"features\":[") (separated text xs) (codes "],\"type\":\"FeatureCollection\"}\n") first second third f s t
    ∙ ap (λ (before : List ℕ). before ++ (codes "{\"features\":[" ++ separated text xs ++ codes "],\"type\":\"FeatureCollection\"}\n")) none
    ∙ ap (λ (list : List ℕ). codes "{\"features\":[" ++ list ++ codes "],\"type\":\"FeatureCollection\"}\n") (sym (with_commas-map text xs))
    ∙ collection_is (map text xs)
