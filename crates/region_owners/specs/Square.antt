-- Instances over one square of size 10: the box of its edges, its clearance, and its owner.
use Rattle.std.specs.Prelude.{ℕ, ◌==◌, [], Option, Some, None, cond}
use Rattle.plane.specs.Examples.{grid, left}
use Rattle.plane.specs.Point.{at_coord}
use Rattle.arrangement.specs.Overlay.{Overlay}
use Rattle.arrangement.specs.Square.{square_edges, lone}
use Rattle.region_owners.specs.Box.{IsEdgeOf, IsInBoxOf}
use Rattle.region_owners.specs.Gap.{IsGap, IsClearance, IsNarrow}
use Rattle.region_owners.specs.Owner.{Rule, rule_by, least_index, AreOwners}

-- the square, of which no member has an edge
abbrev pub unheld : Overlay
unheld = record lone { uses = [] }

-- region 1 has the owner 0
abbrev pub lone_owners : ℕ → Option ℕ
lone_owners r = cond (r == 1) (Some 0) None

-- a rule without a state
abbrev pub by_index : Rule ℕ
by_index = rule_by least_index

-- what the definitions say of it
pub record SquareExamples : Type 0 where
  pub edge : IsEdgeOf square_edges 1 left
  pub in_box : IsInBoxOf square_edges 1 (at_coord (grid 5 5))
  pub not_in_box : ¬ IsInBoxOf square_edges 1 (at_coord (grid 15 5))
  pub clearance : IsClearance square_edges 1 10
  pub narrow : IsNarrow square_edges 1 11
  pub not_narrow : ¬ IsNarrow square_edges 1 10
  pub gap : IsGap unheld 1
  pub no_gap : ¬ IsGap lone 1
  pub owners : (w : ℕ) → AreOwners by_index 0 lone w lone_owners
