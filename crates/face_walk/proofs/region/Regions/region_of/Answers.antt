use Rattle.face_walk.proofs.Reading.{numbered-shown, side_region, side_joined, side_numbering}
use Rattle.face_walk.proofs.region.Regions.region_of.Goals as goal

pub returns-clause-region : goal.returns-clause-region
returns-clause-region c =
    let table = c.self.inside.least.items in
    let numbered = numbered-shown c.self.inside.edges.now c.args.self.now table c.self.inside.outer c.self.view_is c.self.invariant in
    side_region c.args.self.now table numbered.regions c.args.side c.index.result.now c.requires.within c.index.ensures

pub returns-clause-joined : goal.returns-clause-joined
returns-clause-joined c =
    let table = c.self.inside.least.items in
    let numbered = numbered-shown c.self.inside.edges.now c.args.self.now table c.self.inside.outer c.self.view_is c.self.invariant in
    side_joined c.args.self.now table numbered.regions c.args.side c.index.result.now c.requires.within c.index.ensures

pub returns-clause-numbering : goal.returns-clause-numbering
returns-clause-numbering c =
    let table = c.self.inside.least.items in
    let numbered = numbered-shown c.self.inside.edges.now c.args.self.now table c.self.inside.outer c.self.view_is c.self.invariant in
    side_numbering c.args.self.now table numbered.regions c.args.side c.index.result.now c.requires.within c.index.ensures
