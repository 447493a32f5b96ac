-- The edges beside an edge that they meet in ends alone, and how often an edge occurs.
use Rattle.std.specs.Prelude.{ℕ, Bool, ◌&&◌, ◌==◌, List, count_by, Contains, ℤ, pos, cond}
use Rattle.std.specs.Ordering.{int_eq}
use Rattle.cov_types.specs.declared.edge_use.EdgeUse.{EdgeUse}
use Rattle.cov_types.specs.declared.seg.Seg.{Seg}
use Rattle.cov_types.specs.Range.{IsSegInRange}
use Rattle.plane.specs.Noded.{MeetInEnds}
use Rattle.crossing_laws.specs.Crossing.{WeightedEdge, int_sum_by}

-- each edge of the list is in range, and it is e or meets e in ends alone
abbrev pub AllMeetInEnds : Seg → List Seg → Type 0
AllMeetInEnds e edges = (f : Seg) → Contains edges f → IsSegInRange f × MeetInEnds e f

-- whether the two are one segment
abbrev pub is_same_seg : Seg → Seg → Bool
is_same_seg e f = (int_eq e.lo.x f.lo.x && int_eq e.lo.y f.lo.y) && (int_eq e.hi.x f.hi.x && int_eq e.hi.y f.hi.y)

-- how often e occurs in the list
abbrev pub times : Seg → List Seg → ℕ
times e edges = count_by (is_same_seg e) edges

-- how often the member uses e
abbrev pub member_times : Seg → List EdgeUse → ℕ → ℕ
member_times e uses member = count_by (λ u. (u.member == member) && is_same_seg e u.seg) uses

-- the weights of e in the list, added up
abbrev pub weight_of : Seg → List WeightedEdge → ℤ
weight_of e weighted = int_sum_by (λ w. cond (is_same_seg e w.edge) w.weight (pos 0)) weighted
