-- The uses of a coverage as those of one member.
use Rattle.std.specs.Prelude.{◌≡◌, ℕ, ◌<◌, List, length, map, slice_index_or}
use Rattle.arrangement.specs.declared.odd_use.OddUse.{OddUse}
use Rattle.cov_types.specs.declared.edge_use.EdgeUse.{EdgeUse}

-- member 0 uses each segment as often as all members do
abbrev pub merged : List EdgeUse → List EdgeUse
merged uses = map (λ u. record { member = 0; seg = u.seg }) uses

-- member 0 has each of the first so many edges, in their order
pub record AreFirstPairs (edges : ℕ) (odd : List OddUse) : Type 0 where
  pub count : length odd ≡ edges
  pub each : (k : ℕ) (d : OddUse) → k < edges → slice_index_or odd k d ≡ record { member = 0; edge = k }
