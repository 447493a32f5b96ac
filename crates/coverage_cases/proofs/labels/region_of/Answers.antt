use Rattle.std.proofs.Common.{refl, sym, ◌∙◌, arith}
use Rattle.owner_label.proofs.Overlays.{region_among}
use Rattle.coverage_cases.proofs.labels.region_of.Goals as goal

pub returns : goal.returns
returns g c = region_among c.args.labels.now.edges c.args.regions.now c.args.labels.now.edges c.args.side c.args.sides c.region_of.result c.requires.walked refl c.requires.sides (omega arith) c.region_of.ensures.region
