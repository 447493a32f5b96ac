use Rattle.face_walk.proofs.Cycles.{AreCyclesTo}
use Rattle.face_walk.proofs.cycle.boundary_cycles.Given as goal

abbrev pub invariant-loop-h : goal.invariant-loop-h
invariant-loop-h l = AreCyclesTo l.a l.h l.of.items l.list.items
