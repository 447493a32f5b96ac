-- Doubled areas, and borders in 1/256 units, as sums over the edges of an overlay.
use Rattle.std.specs.Prelude.{ℕ, ◌==◌, Bool, false, ◌&&◌, ◌||◌, not, cond, nat_eq, List, [], ◌∷◌, length, sum_by, Option, Some, None, ℤ, pos, ◌+ℤ◌, ◌-ℤ◌, ◌*ℤ◌}
use Rattle.std.specs.Cmp.Lexicographic.{pointwise}
use Rattle.cov_types.specs.declared.edge_use.EdgeUse.{EdgeUse}
use Rattle.cov_types.specs.declared.seg.Seg.{Seg}
use Rattle.plane.specs.Length.{edge_length}
use Rattle.plane.specs.Parity.{member_holds}
use Rattle.plane.specs.Segment.{upper, lower}
use Rattle.crossing_laws.specs.Crossing.{int_sum_by}
use Rattle.arrangement.specs.Overlay.{Overlay, numbered_edges, region_above, region_below, label_of}

-- ---- doubled areas

-- twice the area between an edge and the line y = 0
unfoldable pub trapezoid : Seg → ℤ
trapezoid e = (e.hi.x -ℤ e.lo.x) *ℤ (e.lo.y +ℤ e.hi.y)

-- what an edge adds to a doubled area: its trapezoid, plus where the lower side is inside, minus where the upper side is
abbrev pub area_gain : Bool → Bool → Seg → ℤ
area_gain lower_inside upper_inside e = cond lower_inside (trapezoid e) (pos 0) -ℤ cond upper_inside (trapezoid e) (pos 0)

-- the doubled area of a member, over its uses, which are its odd edges
abbrev pub member_area2 : List EdgeUse → ℕ → ℤ
member_area2 uses member = int_sum_by (λ u. cond (u.member == member) (area_gain (member_holds uses member (lower u.seg)) (member_holds uses member (upper u.seg)) u.seg) (pos 0)) uses

-- the doubled area of a region that is not outer
abbrev pub region_area2 : Overlay → ℕ → ℤ
region_area2 o r = int_sum_by (λ p. area_gain (region_below o p.0 == r) (region_above o p.0 == r) p.1) (numbered_edges o)

-- ---- borders

-- edge k has one side in the region r, and the other in a region that passes the test
abbrev pub is_border : Overlay → ℕ → (ℕ → Bool) → ℕ → Bool
is_border o r passes k = ((region_above o k == r) && passes (region_below o k)) || ((region_below o k == r) && passes (region_above o k))

-- the length of the edges between the region r and the regions that pass the test
abbrev pub border_with : Overlay → ℕ → (ℕ → Bool) → ℕ
border_with o r passes = sum_by (λ p. cond (is_border o r passes p.0) (edge_length p.1) 0) (numbered_edges o)

-- the border of a region with a member: the length shared with the regions that are labelled with it alone
abbrev pub border : Overlay → ℕ → ℕ → ℕ
border o r member = border_with o r (λ g. pointwise nat_eq (label_of o g) (member ∷ []))

-- whether the owner is this member
abbrev pub is_member : ℕ → Option ℕ → Bool
is_member member None = false
is_member member (Some i) = i == member

-- the owned border of a region with a member: the length shared with the regions that have a label and are owned by it
abbrev pub owned_border : Overlay → (ℕ → Option ℕ) → ℕ → ℕ → ℕ
owned_border o owners r member = border_with o r (λ g. not (length (label_of o g) == 0) && is_member member (owners g))
