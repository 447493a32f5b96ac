use Rattle.face_walk.proofs.Reading.{AreLeastTo}
use Rattle.face_walk.proofs.region.least_sides.Given as goal

abbrev pub invariant-loop-cycle : goal.invariant-loop-cycle
invariant-loop-cycle l = AreLeastTo l.cycles.of.items l.cycles.list.items l.connected l.cycle-index l.least.items
