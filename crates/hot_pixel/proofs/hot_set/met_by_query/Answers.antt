use Rattle.std.proofs.Common.{◌∙◌, ap}
use Rattle.box_tree.specs.Places.{places}
use Rattle.box_tree.specs.Probe.{reaches}
use Rattle.box_tree.specs.declared.probe.Probe.TheVariants.{Pixels}
use Rattle.hot_pixel.proofs.MetPixels.{all_met, met_reached, near_within}
use Rattle.hot_pixel.proofs.hot_set.met_by_query.Goals as goal

pub met_centres-requires : goal.met_centres-requires
met_centres-requires c =
    near_within (reaches (Pixels c.args.s)) c.args.centres.now c.as_slice.result.now (c.as_slice.ensures.value ∙ c.in_ok-near.ensures ∙ ap (places (reaches (Pixels c.args.s)) 0) c.requires.boxed)

pub returns : goal.returns
returns c =
    all_met (reaches (Pixels c.args.s)) c.args.centres.now c.as_slice.result.now (c.as_slice.ensures.value ∙ c.in_ok-near.ensures ∙ ap (places (reaches (Pixels c.args.s)) 0) c.requires.boxed) c.args.s c.in_ok-met.met.items
    (met_reached c.args.s) c.in_ok-met.ensures
