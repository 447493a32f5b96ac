use Rattle.cov_build.specs.Members.{AreAllPartPolygons}
use Rattle.cov_build.proofs.build.polygons_of_parts.Given as goal

abbrev pub invariant-loop-part : goal.invariant-loop-part
invariant-loop-part l = AreAllPartPolygons l.boundaries l.owners l.part l.members l.list.items
