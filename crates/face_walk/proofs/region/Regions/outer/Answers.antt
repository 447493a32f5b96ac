use Rattle.face_walk.proofs.Reading.{numbered-shown, outer_region}
use Rattle.face_walk.proofs.region.Regions.outer.Goals as goal

pub returns-clause-region : goal.returns-clause-region
returns-clause-region c =
    let numbered = numbered-shown c.self.inside.edges.now c.args.self.now c.self.inside.least.items c.self.inside.outer c.self.view_is c.self.invariant in
    outer_region c.args.self.now c.self.inside.outer numbered.outermost
