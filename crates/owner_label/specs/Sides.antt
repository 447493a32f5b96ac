-- What each side of a region adds to its doubled area, and to the length that it shares with other regions.
use Rattle.std.specs.Prelude.{ℕ, ◌/◌, ◌%◌, ◌==◌, ◌&&◌, Bool, not, cond, nat_eq, List, [], ◌∷◌, length, Option, Some, None, slice_get, ℤ, pos, ◌-ℤ◌}
use Rattle.std.specs.Cmp.Lexicographic.{pointwise}
use Rattle.cov_types.specs.declared.edge_use.EdgeUse.{EdgeUse}
use Rattle.cov_types.specs.declared.seg.Seg.{Seg}
use Rattle.plane.specs.Length.{edge_length}
use Rattle.plane.specs.Parity.{member_holds}
use Rattle.plane.specs.Segment.{upper, lower}
use Rattle.half_edge.specs.Side.{across}
use Rattle.arrangement.specs.Measure.{trapezoid, area_gain, is_member}
use Rattle.arrangement.specs.Overlay.{Overlay, region_at, label_of}

-- the trapezoid of an edge, turned round on its upper side
abbrev pub side_trapezoid : ℕ → Option Seg → ℤ
side_trapezoid n None = pos 0
side_trapezoid n (Some e) = cond (n % 2 == 0) (pos 0 -ℤ trapezoid e) (trapezoid e)

-- what a side adds to the doubled area of its region
abbrev pub side_area : List Seg → ℕ → ℤ
side_area edges n = side_trapezoid n (slice_get edges (n / 2))

-- the length of an edge, if there is one
abbrev pub length_of : Option Seg → ℕ
length_of None = 0
length_of (Some e) = edge_length e

-- the length of a side whose region on the other side passes the test
abbrev pub side_length : Overlay → (ℕ → Bool) → ℕ → ℕ
side_length o passes n = cond (passes (region_at o (across n))) (length_of (slice_get o.edges (n / 2))) 0

-- the region is labelled with the member alone
abbrev pub is_single : Overlay → ℕ → ℕ → Bool
is_single o member r = pointwise nat_eq (label_of o r) (member ∷ [])

-- the region has a label, and the member owns it
abbrev pub is_owned : Overlay → (ℕ → Option ℕ) → ℕ → ℕ → Bool
is_owned o owners member r = not (length (label_of o r) == 0) && is_member member (owners r)

-- what the use of an edge by one member adds to the doubled area of a member
abbrev pub pair_gain : List EdgeUse → ℕ → ℕ → Seg → ℤ
pair_gain uses member user e = cond (user == member) (area_gain (member_holds uses member (lower e)) (member_holds uses member (upper e)) e) (pos 0)
