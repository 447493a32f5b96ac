-- The pairs of the regions of sides.
use Rattle.std.specs.Prelude.{ℕ, ◌==◌, cond, Option, None}
use Rattle.arrangement.specs.Overlay.{Overlay, region_at}
use Rattle.overlaid_laws.specs.declared.pair.Pair.{Pair}
use Rattle.overlaid_laws.specs.Pairs.{region_pair}

-- the pair of the region with the number of the side, and none where there is no such region; the first coverage has n members
abbrev pub side_pair : ℕ → Overlay → ℕ → Option Pair
side_pair n o side = cond (region_at o side == side) (region_pair n o side) None
