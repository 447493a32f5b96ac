-- Weighted edges, the sums of those that are over a point, and when such sums balance.
use Rattle.std.specs.Prelude.{◌≡◌, ℕ, ◌%◌, Bool, cond, List, [], ◌∷◌, map, sum_by, Contains, ℤ, pos, ◌+ℤ◌}
use Rattle.cov_types.specs.declared.coord.Coord.{Coord}
use Rattle.cov_types.specs.declared.edge_use.EdgeUse.{EdgeUse}
use Rattle.cov_types.specs.declared.seg.Seg.{Seg}
use Rattle.cov_types.specs.Uses.{ends_inside, ends_in}
use Rattle.plane.specs.Point.{Point}
use Rattle.plane.specs.Ray.{is_over, Rises}

-- an edge with a whole weight
pub record WeightedEdge : Type 0 where
  pub edge : Seg
  pub weight : ℤ

-- the edges of a list of weighted edges
abbrev pub edges_of : List WeightedEdge → List Seg
edges_of weighted = map (λ w. w.edge) weighted

-- the sum of f over the list
abbrev pub int_sum_by : {X : Type 0} → (X → ℤ) → List X → ℤ
int_sum_by f [] = pos 0
int_sum_by f (x ∷ xs) = f x +ℤ int_sum_by f xs

-- the sum of the weights of the edges that are over p
abbrev pub crossing_sum : List WeightedEdge → Point → ℤ
crossing_sum weighted p = int_sum_by (λ w. cond (is_over w.edge p) w.weight (pos 0)) weighted

-- the weights of the edges whose lo passes a test add up to those of the edges whose hi passes it
abbrev pub IsBalanced : List WeightedEdge → Type 0
IsBalanced weighted = (passes : Coord → Bool) → int_sum_by (λ w. cond (passes w.edge.lo) w.weight (pos 0)) weighted ≡ int_sum_by (λ w. cond (passes w.edge.hi) w.weight (pos 0)) weighted

-- the sweep value rises from lo to hi of each edge
abbrev pub IsSwept : List Seg → Type 0
IsSwept edges = (e : Seg) → Contains edges e → Rises e

-- of any set of points the edges have an even number of ends in it
abbrev pub HaveEvenEnds : List Seg → Type 0
HaveEvenEnds edges = (inside : Coord → Bool) → sum_by (ends_inside inside) edges % 2 ≡ 0

-- of any set of points the member's uses have an even number of ends in it
abbrev pub MemberHasEvenEnds : List EdgeUse → ℕ → Type 0
MemberHasEvenEnds uses member = (inside : Coord → Bool) → ends_in inside member uses % 2 ≡ 0
