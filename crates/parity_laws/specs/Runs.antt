-- Parts of the runs of rings, and what they hold.
use Rattle.std.specs.Prelude.{ℕ, ◌≤◌, ◌<◌, ◌%◌, ◌==◌, ◌&&◌, Bool, cond, nat_lt, List, count_by, slice_range, slice_index_or}
use Rattle.cov_types.specs.declared.edge_use.EdgeUse.{EdgeUse}
use Rattle.cov_types.specs.declared.ring_run.RingRun.{RingRun}
use Rattle.parity_laws.specs.Paths.{IsHigher}
use Rattle.plane.specs.Point.{Point}
use Rattle.plane.specs.Ray.{is_over, Rises}

-- the uses from one place to before another hold p: an odd number of them is over it
abbrev pub part_holds : List EdgeUse → ℕ → ℕ → Point → Bool
part_holds uses from to p = count_by (λ u. is_over u.seg p) (slice_range uses from to) % 2 == 1

-- the uses in a run hold p
abbrev pub run_holds : List EdgeUse → Point → RingRun → Bool
run_holds uses p run = part_holds uses run.from run.to p

-- an odd number of the member's runs holds p
abbrev pub runs_hold : List EdgeUse → List RingRun → ℕ → Point → Bool
runs_hold uses runs member p = count_by (λ run. (run.member == member) && run_holds uses p run) runs % 2 == 1

-- where a part of a run that ends before a place goes on: at the end of the run that is its beginning
abbrev pub place_in : RingRun → ℕ → ℕ
place_in run k = cond (nat_lt k run.to) k run.from

-- the uses from one place to before another rise and are higher than p
abbrev pub AreHigher : List EdgeUse → ℕ → ℕ → Point → Type 0
AreHigher uses from to p = (k : ℕ) (d : EdgeUse) → from ≤ k → k < to → Rises (slice_index_or uses k d).seg × IsHigher p (slice_index_or uses k d).seg
