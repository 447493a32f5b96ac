-- The lengths that a region shares with what members own, side by side.
use Rattle.std.specs.Prelude.{◌≡◌, ℕ, ◌<◌, ◌^◌, ◌==◌, cond, List, sum_by, Contains, Option, Some, None}
use Rattle.cov_types.specs.declared.seg.Seg.{Seg}
use Rattle.plane.specs.Length.{edge_length}
use Rattle.owner_label.specs.declared.owned_side.OwnedSide.{OwnedSide}

-- the length of the side if the member owns beyond it
abbrev pub length_by : ℕ → OwnedSide → ℕ
length_by member side = cond (side.member == member) side.length 0

-- the same of a side that there may be
abbrev pub length_by_any : ℕ → Option OwnedSide → ℕ
length_by_any member None = 0
length_by_any member (Some side) = length_by member side

-- the lengths of the sides beyond which the member owns, added up
abbrev pub owned_length : List OwnedSide → ℕ → ℕ
owned_length sides member = sum_by (length_by member) sides

-- the side has the length of an edge, and its owner is one of these
pub record IsOwnedSide (owners : List (Option ℕ)) (side : OwnedSide) : Type 0 where
  pub edge : Seg
  pub long : side.length ≡ edge_length edge
  pub short : side.length < 2 ^ 64
  pub owner : Contains owners (Some side.member)
