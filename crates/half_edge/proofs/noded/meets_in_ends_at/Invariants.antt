use Rattle.std.specs.List.{AllWithin}
use Rattle.std.specs.Prelude.{slice_index_or}
use Rattle.cov_types.specs.declared.seg.Seg.{Seg}
use Rattle.plane.specs.Noded.{MeetInEnds}
use Rattle.half_edge.proofs.noded.meets_in_ends_at.Given as goal

abbrev pub invariant-loop-k : goal.invariant-loop-k
invariant-loop-k l = AllWithin (λ k. (d : Seg) → MeetInEnds l.e (slice_index_or l.edges k d)) l.places 0 l.k-index
