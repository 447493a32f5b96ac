-- The lists of segments that the operations write: for each member those of its uses in a list.
use Rattle.std.specs.Prelude.{◌≡◌, ◌<◌, length, Some, Vec, ℕ, ◌==◌, List, map, filter, flat_map, option_map, option_to_list, slice_get}
use Rattle.std.specs.List.{enumerate_from}
use Rattle.std.specs.declared.alloc.Global.{Global}
use Rattle.cov_types.specs.declared.edge_use.EdgeUse.{EdgeUse}
use Rattle.cov_types.specs.declared.seg.Seg.{Seg}
use Rattle.cov_valid.specs.declared.mark.Mark.{Mark}

-- the segments of a member's uses, in their order
abbrev pub member_segments : List EdgeUse → ℕ → List Seg
member_segments uses member = map (λ u. u.seg) (filter (λ u. u.member == member) uses)

-- for each member the segments of its uses
abbrev pub member_lists : {X : Type 0} → List EdgeUse → List X → List (List Seg)
member_lists uses members = map (λ numbered. member_segments uses numbered.0) (enumerate_from 0 members)

-- the uses that are marked, in the order of the marks
abbrev pub marked_uses : List EdgeUse → List Mark → List EdgeUse
marked_uses uses marks = flat_map (λ m. option_to_list (slice_get uses m.place)) marks

-- the lists hold the segments of each member's uses, by its number
pub record AreMemberLists (uses : List EdgeUse) (members : ℕ) (lists : List (Vec Seg Global)) : Type 0 where
  pub count : length lists ≡ members
  pub each : (member : ℕ) → member < members → option_map (λ l. l.items) (slice_get lists member) ≡ Some (member_segments uses member)
