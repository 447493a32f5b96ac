-- Edges that are marked, and their numbers among the marked ones.
use Rattle.std.specs.Prelude.{◌≡◌, ℕ, ◌<◌, ◌==◌, Bool, List, length, take, map, filter, zip, count_by, Some, slice_get}
use Rattle.std.specs.List.{list_any}
use Rattle.cov_types.specs.declared.seg.Seg.{Seg}
use Rattle.arrangement.specs.declared.odd_use.OddUse.{OddUse}

-- of each edge, whether some pair has it
pub record AreUseMarks (edges : List Seg) (odd : List OddUse) (marks : List Bool) : Type 0 where
  pub long : length marks ≡ length edges
  pub each : (k : ℕ) → k < length edges → slice_get marks k ≡ Some (list_any (λ o. o.edge == k) odd)

-- the edges that are marked
abbrev pub marked : List Seg → List Bool → List Seg
marked edges marks = map (λ p. p.0) (filter (λ p. p.1) (zip edges marks))

-- how many of the first k are marked
abbrev pub marked_before : List Bool → ℕ → ℕ
marked_before marks k = count_by (λ m. m) (take k marks)

-- of each place, how many are marked before it
pub record ArePrefixCounts (marks : List Bool) (counts : List ℕ) : Type 0 where
  pub long : length counts ≡ length marks
  pub each : (k : ℕ) → k < length marks → slice_get counts k ≡ Some (marked_before marks k)
