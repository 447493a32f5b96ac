use Rattle.std.proofs.Common.{◌∙◌, ap, ◌/◌, ◌<◌, length, arith}
use Rattle.owner_label.specs.Sides.{length_of}
use Rattle.owner_label.proofs.OwnedSides.{side_unowned, owner_listed}
use Rattle.owner_label.proofs.Sums.{edge_there}
use Rattle.owner_label.proofs.labels.Labels.owned_side.Goals as goal

pub returns-in-Some-clause-each : goal.returns-in-Some-clause-each
returns-in-Some-clause-each c =
    let within = rw (← c.self.view_is) at c.requires.within in
    let edges = c.self.inside.edges.now in
    let inside : c.args.side.number / 2 < length edges = omega (arith, within) in
    let e = edge_there edges (c.args.side.number / 2) inside in
    record {
      edge = e.0;
      long = c.length_of_side.ensures.exact ∙ ap length_of e.1;
      short = c.length_of_side.ensures.small;
      owner = owner_listed c.args.owners.now c.region_across.result c.in-Some.member _ (omega (arith, c.region_across.ensures.within, c.requires.owners)) c.in-Some.is;
    }

pub returns-in-None-clause-exact : goal.returns-in-None-clause-exact
returns-in-None-clause-exact c = λ o member overlay.
    side_unowned o c.args.owners.now c.args.side.number c.region_across.result _ (c.region_across.ensures.across o overlay) (omega (arith, c.region_across.ensures.within, c.requires.owners)) c.in-None.is member
