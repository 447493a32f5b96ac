-- What the code computes of two edges that face each other.
use Rattle.std.specs.Prelude.{◌≡◌, ℕ, ◌*◌, ◌^◌, ℤ, pos, ◌+ℤ◌, ◌<ℤ◌}
use Rattle.integer_laws.specs.Bound.{IsWithin}
use Rattle.cov_types.specs.declared.coord.Coord.{Coord}
use Rattle.plane.specs.Length.{edge_length}
use Rattle.clearance_laws.specs.Facing.{IsLeastDepth, depth, both}
use Rattle.gap_width.specs.declared.own.OwnEdge.{OwnEdge}
use Rattle.gap_width.specs.declared.depth.Pair.{Pair}
use Rattle.gap_width.specs.declared.depth.Vector.{Vector}
use Rattle.gap_width.specs.Own.{IsSmallEdge}
use Rattle.gap_width.specs.Facing.{front_side}

-- a vector between two points in range, in doubled coordinates
pub record IsShortVector (v : Vector) : Type 0 where
  pub x : IsWithin (2 ^ 30) v.x
  pub y : IsWithin (2 ^ 30) v.y

-- n is a multiple of d
abbrev pub Divides : ℕ → ℕ → Type 0
Divides d n = (k : ℕ) × (n ≡ k * d)

-- two edges with their lengths in 1/256 units
pub record IsPair (p : Pair) : Type 0 where
  pub first : IsSmallEdge p.first
  pub second : IsSmallEdge p.second
  pub first_length : p.first_length ≡ pos (edge_length p.first.edge)
  pub second_length : p.second_length ≡ pos (edge_length p.second.edge)
  pub first_within : IsWithin (2 ^ 39) p.first_length
  pub second_within : IsWithin (2 ^ 39) p.second_length

-- the pair of these edges, with what the least depths of grid points with this room come to
pub record IsPairFor (first second : OwnEdge) (room : ℕ) (p : Pair) : Type 0 where
  pub pair : IsPair p
  pub first_is : p.first ≡ first
  pub second_is : p.second ≡ second
  pub first_depth : ℤ
  pub second_depth : ℤ
  pub first_least : IsLeastDepth room first.edge first_depth
  pub second_least : IsLeastDepth room second.edge second_depth
  pub least : p.least ≡ both first.edge second.edge first_depth second_depth

-- the depths of the point c/2 from the pair come to
abbrev pub depths_of : Pair → Coord → ℤ
depths_of p c = both p.first.edge p.second.edge (depth (front_side p.first) c p.first.edge) (depth (front_side p.second) c p.second.edge)

-- the point c/2 is between the two edges of the pair, closer than their least depths allow
pub record IsBetweenPair (p : Pair) (c : Coord) : Type 0 where
  pub close : depths_of p c <ℤ p.least
  pub over_first : pos 0 <ℤ (depths_of p c +ℤ depth (front_side p.second) c p.second.edge)
  pub over_second : pos 0 <ℤ (depths_of p c +ℤ depth (front_side p.first) c p.first.edge)
