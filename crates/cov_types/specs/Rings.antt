-- The rings of a coverage: where their uses stand in the list of its uses, and where each use begins.
use Rattle.std.specs.Prelude.{ℕ, ◌+◌, ◌<◌, ◌≤◌, ◌≡◌, cond, nat_lt, List, [], ◌∷◌, ◌++◌, length, map, flat_map, slice_index_or, option_to_list}
use Rattle.std.specs.List.{enumerate_from}
use Rattle.cov_types.specs.Seg.{IsSegBetween}
use Rattle.cov_types.specs.Uses.{sides, seg_between, ring_uses}
use Rattle.cov_types.specs.declared.coord.Coord.{Coord}
use Rattle.cov_types.specs.declared.edge_use.EdgeUse.{EdgeUse}
use Rattle.cov_types.specs.declared.outline.Outline.{Outline}
use Rattle.cov_types.specs.declared.ring_run.RingRun.{RingRun}

-- the rings of a polygon of a member, each beside the member's number
abbrev pub poly_rings : ℕ → List (List Coord) → List (ℕ × List Coord)
poly_rings member rings = map (λ points. (member, points)) rings

-- those of a member that stands beside its number
abbrev pub member_rings : ℕ × List (List (List Coord)) → List (ℕ × List Coord)
member_rings member = flat_map (poly_rings member.0) member.1

-- those of a coverage, whose members are numbered from 0
abbrev pub rings_of : List (List (List (List Coord))) → List (ℕ × List Coord)
rings_of members = flat_map member_rings (enumerate_from 0 members)

-- the point where the use of a side begins
abbrev pub side_starts : Coord × Coord → List Coord
side_starts side = map (λ s. side.0) (option_to_list (seg_between side.0 side.1))

-- the points where the uses of a ring begin, in their order
abbrev pub ring_starts : List Coord → List Coord
ring_starts points = flat_map side_starts (sides points)

-- the points where the uses of a coverage begin, in their order
abbrev pub starts_of : List (List (List (List Coord))) → List Coord
starts_of members = flat_map (λ ring. ring_starts ring.1) (rings_of members)

-- the run of a ring whose uses stand from one place to before another; none where it has no use
abbrev pub run_between : ℕ → ℕ → ℕ → List RingRun
run_between member from to = cond (nat_lt from to) (record { member = member; from = from; to = to } ∷ []) []

-- the runs of rings whose uses stand one after the other, from a place on
abbrev pub runs_from : ℕ → List (ℕ × List Coord) → List RingRun
runs_from from [] = []
runs_from from (ring ∷ rings) = let to = from + length (ring_uses ring.0 ring.1) in run_between ring.0 from to ++ runs_from to rings

-- the runs of the rings of a coverage in the list of its uses
abbrev pub runs_of : List (List (List (List Coord))) → List RingRun
runs_of members = runs_from 0 (rings_of members)

-- the runs lie one after the other from a place to another
abbrev pub AreInRow : ℕ → List RingRun → ℕ → Type 0
AreInRow from [] to = from ≡ to
AreInRow from (run ∷ runs) to = (run.from ≡ from) × (from < run.to) × AreInRow run.to runs to

-- the place that follows in a run: after the last comes the first
abbrev pub next_place : RingRun → ℕ → ℕ
next_place run k = cond (nat_lt (k + 1) run.to) (k + 1) run.from

-- the uses in the run are those of a ring of its member: each leads from its start to the start of the next
pub record IsRing (uses : List EdgeUse) (starts : List Coord) (run : RingRun) : Type 0 where
  pub some : run.from < run.to
  pub uses_end : run.to ≤ length uses
  pub starts_end : run.to ≤ length starts
  pub members : (k : ℕ) (d : EdgeUse) → run.from ≤ k → k < run.to → (slice_index_or uses k d).member ≡ run.member
  pub closed : (k : ℕ) (d : EdgeUse) (e : Coord) → run.from ≤ k → k < run.to
      → IsSegBetween (slice_index_or starts k e) (slice_index_or starts (next_place run k) e) (slice_index_or uses k d).seg

-- what adding some rings makes of an outline
pub record Adds (before after : Outline) (added : List (ℕ × List Coord)) : Type 0 where
  pub uses : after.uses.items ≡ before.uses.items ++ flat_map (λ ring. ring_uses ring.0 ring.1) added
  pub starts : after.starts.items ≡ before.starts.items ++ flat_map (λ ring. ring_starts ring.1) added
  pub rings : after.rings.items ≡ before.rings.items ++ runs_from (length before.uses.items) added
