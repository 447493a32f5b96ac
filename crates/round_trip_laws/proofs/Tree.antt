-- The geometries that the text of a coverage spells, each number at its place.
use Rattle.std.proofs.Common.{ℕ, ◌+◌, List, [], ◌∷◌, ◌++◌, length, Option, None, pos}
use Rattle.cov_types.specs.declared.coord.Coord.{Coord}
use Rattle.geo_text.specs.Grammar.{Position, Two, Ring, Element, OnePolygon, ManyPolygons, Geometry, Single}
use Rattle.cov_write.specs.Written.{number_text, position_text, ring_text, polygon_text, member_line}
use Rattle.round_trip_laws.proofs.Spelling.{others}
use Rattle.round_trip_laws.proofs.Numbers.{number_at}

module _ (scale : Option ℕ) where
  abbrev pub position_at : ℕ → Coord → Position
  position_at at c = Two (number_at scale at c.x) (number_at scale (at + length (number_text scale c.x) + 1) c.y)

  -- the positions of a ring of points, the first again at the end
  abbrev pub ring_at : ℕ → List Coord → Ring
  ring_at at [] = record { first = position_at at (record { x = pos 0; y = pos 0 }); others = [] }
  ring_at at (c ∷ cs) = record { first = position_at (at + 1) c; others = others (position_text scale) position_at (at + 1 + length (position_text scale c)) (cs ++ c ∷ []) }

  abbrev pub polygon_at : ℕ → List (List Coord) → List Ring
  polygon_at at [] = []
  polygon_at at (r ∷ rs) = ring_at (at + 1) r ∷ others (ring_text scale) ring_at (at + 1 + length (ring_text scale r)) rs

  abbrev pub element_at : ℕ → List (List (List Coord)) → Element
  element_at at [] = OnePolygon None []
  element_at at (p ∷ []) = OnePolygon None (polygon_at (at + 8) p)
  element_at at (p ∷ q ∷ ps) = ManyPolygons None (polygon_at (at + 13 + 1) p ∷ others (polygon_text scale) polygon_at (at + 13 + 1 + length (polygon_text scale p)) (q ∷ ps))

  abbrev pub coverage_at : ℕ → List (List (List (List Coord))) → List Geometry
  coverage_at at [] = []
  coverage_at at (m ∷ ms) = Single (element_at at m) ∷ coverage_at (at + length (member_line scale m)) ms
