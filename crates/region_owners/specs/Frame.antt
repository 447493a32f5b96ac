-- An instance of a gap: a square of size 30 with a square hole of size 10.
use Rattle.std.specs.Prelude.{ℕ, ◌++◌, List, [], ◌∷◌, Some, pos, negsuc, refl}
use Rattle.cov_types.specs.declared.coord.Coord.{Coord}
use Rattle.cov_types.specs.declared.seg.Seg.{Seg}
use Rattle.cov_types.specs.Uses.{poly_uses}
use Rattle.plane.specs.Examples.{segment, left, bottom, top, right}
use Rattle.plane.specs.Region.{AreRegions}
use Rattle.arrangement.specs.Examples.{at, pairs}
use Rattle.arrangement.specs.Noding.{odd_uses}
use Rattle.arrangement.specs.Overlay.{Overlay, IsOverlayOf}
use Rattle.region_owners.specs.Gap.{IsGap}
use Rattle.region_owners.specs.Owner.{IsNarrowGap, IsOwner}
use Rattle.region_owners.specs.Square.{by_index}

-- its corners
abbrev pub south_west : Coord
south_west = record { x = negsuc 9; y = negsuc 9 }

-- and the next, counter-clockwise
abbrev pub south_east : Coord
south_east = record { x = pos 20; y = negsuc 9 }

-- the third
abbrev pub north_east : Coord
north_east = record { x = pos 20; y = pos 20 }

-- the fourth
abbrev pub north_west : Coord
north_west = record { x = negsuc 9; y = pos 20 }

-- its two rings
abbrev pub frame_rings : List (List Coord)
frame_rings = (south_west ∷ south_east ∷ north_east ∷ north_west ∷ []) ∷ (at 0 0 ++ at 0 10 ++ at 10 10 ++ at 10 0) ∷ []

-- its outer sides
abbrev pub west : Seg
west = segment south_west north_west refl

-- the lower one
abbrev pub south : Seg
south = segment south_west south_east refl

-- the upper one
abbrev pub north : Seg
north = segment north_west north_east refl

-- the one on the right
abbrev pub east : Seg
east = segment south_east north_east refl

-- all edges, ascending: the regions are 0 (outside), 1 (the frame) and 7 (the hole)
abbrev pub frame_edges : List Seg
frame_edges = west ∷ south ∷ north ∷ left ∷ bottom ∷ top ∷ right ∷ east ∷ []

-- the region of each of its sides
abbrev pub frame_numbers : List ℕ
frame_numbers = 0 ∷ 1 ∷ 1 ∷ 0 ∷ 0 ∷ 1 ∷ 1 ∷ 7 ∷ 7 ∷ 1 ∷ 1 ∷ 7 ∷ 7 ∷ 1 ∷ 1 ∷ 0 ∷ []

-- the overlay of the one member that has it
abbrev pub frame : Overlay
frame = record { edges = frame_edges; uses = odd_uses frame_edges (pairs 0 (0 ∷ 1 ∷ 2 ∷ 3 ∷ 4 ∷ 5 ∷ 6 ∷ 7 ∷ [])); members = 1; numbers = frame_numbers }

-- the hole is a gap, which is narrow at width 11 and goes to the frame
pub record FrameExamples : Type 0 where
  pub regions : AreRegions frame_edges frame_numbers
  pub overlay : IsOverlayOf (poly_uses 0 frame_rings) 1 frame
  pub gap : IsGap frame 7
  pub no_gap : ¬ IsGap frame 1
  pub narrow : IsNarrowGap frame 7 11
  pub not_narrow : ¬ IsNarrowGap frame 1 11
  pub owner : IsOwner by_index 0 frame 11 7 (Some 0)
