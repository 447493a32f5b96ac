-- Edges over a midpoint, and paths of edges above a point.
use Rattle.std.specs.Prelude.{◌≡◌, Bool, not, List, [], ◌∷◌, pos, ◌+ℤ◌, ◌*ℤ◌, ◌<ℤ◌, ◌≤ℤ◌, ◌⊎◌}
use Rattle.std.specs.Bool.{beq}
use Rattle.cov_types.specs.Seg.{IsSegBetween}
use Rattle.cov_types.specs.declared.coord.Coord.{Coord}
use Rattle.cov_types.specs.declared.seg.Seg.{Seg}
use Rattle.plane.specs.Point.{Point, at_coord}
use Rattle.plane.specs.Ray.{sweep_below}

-- one of the two holds and the other doesn't
abbrev pub differ : Bool → Bool → Bool
differ a b = not (beq a b)

-- the sweep value of c is not past that of p
abbrev pub is_started : Coord → Point → Bool
is_started c p = not (sweep_below p (at_coord c))

-- both ends of the edge are strictly higher than p
pub record IsHigher (p : Point) (e : Seg) : Type 0 where
  pub lo : p.y <ℤ (e.lo.y *ℤ pos p.d)
  pub hi : p.y <ℤ (e.hi.y *ℤ pos p.d)

-- the midpoint of s is between the ends of e in x, and an end of e is strictly higher
pub record IsUnder (s e : Seg) : Type 0 where
  pub left : (pos 2 *ℤ e.lo.x) ≤ℤ (s.lo.x +ℤ s.hi.x)
  pub right : (s.lo.x +ℤ s.hi.x) ≤ℤ (pos 2 *ℤ e.hi.x)
  pub top : ((s.lo.y +ℤ s.hi.y) <ℤ (pos 2 *ℤ e.lo.y)) ⊎ ((s.lo.y +ℤ s.hi.y) <ℤ (pos 2 *ℤ e.hi.y))

-- the edges lead from a to b, each from where the one before ends
abbrev pub IsPath : Coord → List Seg → Coord → Type 0
IsPath a [] b = a ≡ b
IsPath a (e ∷ edges) b = (c : Coord) × (IsSegBetween a c e × IsPath c edges b)
