use Rattle.std.proofs.Common.{◌≡◌, ℕ, map, take}
use Rattle.cov_types.specs.declared.coord.Coord.{Coord}
use Rattle.cov_cells.proofs.cells.keyed_points.Given as goal

abbrev pub invariant-loop-p : goal.invariant-loop-p
invariant-loop-p l = map (λ (q : ℕ × Coord). q.1) l.keyed.items ≡ take l.p-index l.points
