use Rattle.std.proofs.Common.{◌≡◌, ◌≤◌, ◌==◌, slice_index, count_by}
use Rattle.plane.specs.Label.{numbers_below}
use Rattle.face_walk.proofs.region.Regions.count.Given as goal

abbrev pub invariant-loop-side : goal.invariant-loop-side
invariant-loop-side l = record { low : l.count ≤ l.side; counted : l.count ≡ count_by (λ n. slice_index l.self-inside.least.items n == n) (numbers_below l.side) }
