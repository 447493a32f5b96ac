-- Which lines may lose points.
use Rattle.std.specs.Prelude.{◌≡◌, ℕ, ◌<◌, ◌==◌, Bool, true, IsTrue, ◌↔◌, List, length, count_by, Some, slice_get, slice_index}
use Rattle.cov_types.specs.declared.coord.Coord.{Coord}
use Rattle.cov_types.specs.declared.edge_use.EdgeUse.{EdgeUse}
use Rattle.cov_types.specs.declared.seg.Seg.{Seg}
use Rattle.cov_types.specs.Uses.{HasEvenEnds}
use Rattle.plane.specs.Validity.{IsValid}
use Rattle.arrangement.specs.declared.odd_use.OddUse.{OddUse}
use Rattle.arrangement.specs.Noding.{AreEdges}
use Rattle.greedy_run.specs.Run.{IsInner}

-- for each edge how many members have it
abbrev pub AreMemberCounts : List OddUse → List ℕ → Type 0
AreMemberCounts odd counts = (k : ℕ) → k < length counts → slice_index counts k ≡ count_by (λ o. o.edge == k) odd

-- the edges and the odd pairs are those of the valid uses, and the counts those of their members
pub record AreCountedUses (uses : List EdgeUse) (edges : List Seg) (odd : List OddUse) (counts : List ℕ) : Type 0 where
  pub valid : IsValid uses
  pub even : HasEvenEnds uses
  pub are_edges : AreEdges uses edges odd
  pub long : length counts ≡ length edges
  pub counted : AreMemberCounts odd counts

-- each line has its mark: where only inner lines may lose points, whether it is inner
pub record AreOpen (uses : List EdgeUse) (inner_only : Bool) (lines : List (List Coord)) (marks : List Bool) : Type 0 where
  pub long : length marks ≡ length lines
  pub each : (i : ℕ) (points : List Coord) (mark : Bool) → slice_get lines i ≡ Some points → slice_get marks i ≡ Some mark → IsTrue mark ↔ (inner_only ≡ true → IsInner uses points)
