use Rattle.box_tree.specs.Rect.{is_touching}
use Rattle.hot_pixel.proofs.MetPixels.{all_met, met_in_box, near_within}
use Rattle.hot_pixel.proofs.hot_set.met_in_box.Goals as goal

pub met_centres-requires : goal.met_centres-requires
met_centres-requires c = near_within (is_touching c.args.round) c.args.centres.now c.args.near.now c.requires.near

pub returns : goal.returns
returns c = all_met (is_touching c.args.round) c.args.centres.now c.args.near.now c.requires.near c.args.s c.in_ok-met.met.items (λ r. met_in_box c.args.s c.args.round r c.requires.inside) c.in_ok-met.ensures
