use Rattle.face_walk.proofs.Reading.{numbered-shown}
use Rattle.face_walk.proofs.region.Regions.numbers.Goals as goal

pub returns-clause-regions : goal.returns-clause-regions
returns-clause-regions c =
    let numbered = numbered-shown c.self.inside.edges.now c.args.self.now c.self.inside.least.items c.self.inside.outer c.self.view_is c.self.invariant in
    rw c.deref.ensures.value numbered.regions
