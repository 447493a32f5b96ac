-- Instances of parts and polygons: two regions in one part, a hole that touches its shell, and the two polygons of a bow-tie.
use Rattle.std.specs.Prelude.{ℕ, ◌==◌, List, [], ◌∷◌, ◌++◌, Option}
use Rattle.cov_types.specs.declared.coord.Coord.{Coord}
use Rattle.cov_types.specs.declared.seg.Seg.{Seg}
use Rattle.arrangement.specs.Examples.{at, edge, pairs, overlap}
use Rattle.arrangement.specs.Noding.{odd_uses}
use Rattle.arrangement.specs.Overlay.{Overlay}
use Rattle.arrangement.specs.Square.{shell}
use Rattle.region_owners.specs.Owner.{rule_by, longest_border, label_owner}
use Rattle.sound_polygons.specs.Examples.{notched, hole, pinched}
use Rattle.sound_polygons.specs.Parts.{InOnePart, IsSimple, GoRoundPart, IsSound}

-- the owners of the regions of two squares that overlap: the first square has the region in both
abbrev pub overlap_owners : ℕ → Option ℕ
overlap_owners r = label_owner {State = ℕ} (rule_by longest_border) 0 overlap r

-- the edges of a bow-tie, whose sides cross at (5, 5): the regions are 0 (outside), 1 on the left and 6 on the right
abbrev pub bow_edges : List Seg
bow_edges = edge 0 0 0 10 ++ edge 0 0 5 5 ++ edge 0 10 5 5 ++ edge 5 5 10 0 ++ edge 5 5 10 10 ++ edge 10 0 10 10

-- its overlay
abbrev pub bow : Overlay
bow = record {
  edges = bow_edges;
  uses = odd_uses bow_edges (pairs 0 (0 ∷ 1 ∷ 2 ∷ 3 ∷ 4 ∷ 5 ∷ []));
  members = 1;
  numbers = 0 ∷ 1 ∷ 1 ∷ 0 ∷ 0 ∷ 1 ∷ 6 ∷ 0 ∷ 0 ∷ 6 ∷ 6 ∷ 0 ∷ [];
}

-- the triangles of the bow-tie
abbrev pub left_wing : List Coord
left_wing = at 0 0 ++ at 5 5 ++ at 0 10

-- the one on the right
abbrev pub right_wing : List Coord
right_wing = at 5 5 ++ at 10 0 ++ at 10 10

-- both as one walk, which passes (5, 5) twice
abbrev pub crossed_wings : List Coord
crossed_wings = at 0 0 ++ at 5 5 ++ at 10 0 ++ at 10 10 ++ at 5 5 ++ at 0 10

-- what the definitions say of them
pub record PolygonExamples : Type 0 where
  pub one_part : InOnePart overlap overlap_owners 0 1 7
  pub other_owner : ¬ InOnePart overlap overlap_owners 0 1 13
  pub touching : IsSound notched (λ r. r == 1) (shell ∷ hole ∷ [])
  pub in_the_hole : IsSound notched (λ r. r == 3) ((at 0 0 ++ at 6 3 ++ at 3 6) ∷ [])
  pub left : IsSound bow (λ r. r == 1) (left_wing ∷ [])
  pub right : IsSound bow (λ r. r == 6) (right_wing ∷ [])
  pub other_part : ¬ GoRoundPart bow (λ r. r == 1) (right_wing ∷ [])
  pub not_simple : ¬ IsSimple crossed_wings
  pub not_sound : ¬ IsSound notched (λ r. r == 1) (pinched ∷ [])
