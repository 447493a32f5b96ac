-- One square of size 10: its regions, and its overlay.
use Rattle.std.specs.Prelude.{ℕ, List, [], ◌∷◌, ◌++◌}
use Rattle.cov_types.specs.declared.coord.Coord.{Coord}
use Rattle.cov_types.specs.declared.seg.Seg.{Seg}
use Rattle.cov_types.specs.Uses.{ring_uses}
use Rattle.plane.specs.Examples.{left, bottom, top, right}
use Rattle.plane.specs.Region.{AreRegions}
use Rattle.arrangement.specs.Examples.{at, pairs}
use Rattle.arrangement.specs.Noding.{odd_uses}
use Rattle.arrangement.specs.Overlay.{Overlay, IsSnappedOverlay}

-- its ring
abbrev pub shell : List Coord
shell = at 0 0 ++ at 10 0 ++ at 10 10 ++ at 0 10

-- its edges, ascending, and the region of each side: 0 outside and 1 inside
abbrev pub square_edges : List Seg
square_edges = left ∷ bottom ∷ top ∷ right ∷ []

-- the region of each of its sides
abbrev pub square_numbers : List ℕ
square_numbers = 0 ∷ 1 ∷ 1 ∷ 0 ∷ 0 ∷ 1 ∷ 1 ∷ 0 ∷ []

-- the overlay of the one member that has it
abbrev pub lone : Overlay
lone = record { edges = square_edges; uses = odd_uses square_edges (pairs 0 (0 ∷ 1 ∷ 2 ∷ 3 ∷ [])); members = 1; numbers = square_numbers }

-- what the definitions say of it
pub record SquareExamples : Type 0 where
  pub regions : AreRegions square_edges square_numbers
  pub overlay : IsSnappedOverlay (ring_uses 0 shell) 1 lone
