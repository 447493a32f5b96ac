-- What one edge, or two that face each other, tell of the room in a block.
use Rattle.std.specs.Prelude.{◌≡◌, ℕ, ◌⊎◌, cond, List, [], ◌∷◌, ℤ, pos, neg_ℤ, int_lt}
use Rattle.clearance_laws.specs.Block.{AtCorners}
use Rattle.clearance_laws.specs.Facing.{IsShallow, AreFacing, IsLeastDepth}
use Rattle.gap_width.specs.declared.own.OwnEdge.{OwnEdge}
use Rattle.gap_width.specs.declared.block.Block.{Block}
use Rattle.gap_width.specs.declared.facing.Few.{Few}
use Rattle.gap_width.specs.declared.facing.Few.TheVariants.{Nothing, One, Two, Many}

-- the side of the edge on which the region is: 1 above, -1 below
abbrev pub front_side : OwnEdge → ℤ
front_side o = cond (int_lt o.weight (pos 0)) (pos 1) (neg_ℤ (pos 1))

-- these are the edges, where they are two at most
abbrev pub AreFew : Few → List OwnEdge → Type 0
AreFew Nothing few = few ≡ []
AreFew (One o) few = few ≡ o ∷ []
AreFew (Two o p) few = few ≡ o ∷ p ∷ []
AreFew Many few = Unit {0}

-- there is one edge, and no corner of the block is as deep from it as a grid point with this room is
pub record IsBoundedByOne (s : Block) (room : ℕ) (few : List OwnEdge) : Type 0 where
  pub edge : OwnEdge
  pub only : few ≡ edge ∷ []
  pub depth : ℤ
  pub least : IsLeastDepth room edge.edge depth
  pub shallow : AtCorners s.lo s.hi (IsShallow (front_side edge) edge.edge depth)

-- there are two edges, which face each other at the corners of the block, closer than grid points with this room allow
pub record IsBoundedByTwo (s : Block) (room : ℕ) (few : List OwnEdge) : Type 0 where
  pub first : OwnEdge
  pub second : OwnEdge
  pub both : few ≡ first ∷ second ∷ []
  pub first_depth : ℤ
  pub second_depth : ℤ
  pub first_least : IsLeastDepth room first.edge first_depth
  pub second_least : IsLeastDepth room second.edge second_depth
  pub facing : AtCorners s.lo s.hi (AreFacing (front_side first) first.edge first_depth (front_side second) second.edge second_depth)

-- one or the other
abbrev pub IsBounded : Block → ℕ → List OwnEdge → Type 0
IsBounded s room few = IsBoundedByOne s room few ⊎ IsBoundedByTwo s room few
