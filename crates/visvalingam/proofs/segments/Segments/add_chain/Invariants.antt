use Rattle.std.proofs.Common.{◌≡◌, ◌⊎◌, ◌↔◌, ◌-◌, true}
use Rattle.std.specs.Prelude.{Contains}
use Rattle.cov_types.specs.declared.seg.Seg.{Seg}
use Rattle.visvalingam.specs.Segments.{is_among}
use Rattle.visvalingam.proofs.Begun.{edges_until}
use Rattle.visvalingam.proofs.segments.Segments.add_chain.Given as goal

abbrev pub invariant-loop-i : goal.invariant-loop-i
invariant-loop-i l = (e : Seg) → (is_among l.self.ends e ≡ true) ↔ ((is_among l.initial.self.ends e ≡ true) ⊎ Contains (edges_until (l.i - 1) l.points) e)
