use Rattle.std.proofs.Common.{sym, ◌∙◌, ap}
use Rattle.box_tree.specs.Places.{places}
use Rattle.box_tree.specs.Rect.{box_of_segment, is_touching}
use Rattle.box_tree.specs.declared.rect.Rect.{Rect}
use Rattle.hot_pixel.specs.Near.{is_inside}
use Rattle.hot_pixel.proofs.NearBoxes.{inside_is}
use Rattle.hot_pixel.proofs.hot_set.all_met.Goals as goal

pub met_in_box-requires : goal.met_in_box-requires
met_in_box-requires c = record {
  inside = inside_is (box_of_segment c.args.s) c.args.round (ap (λ (a : Rect). is_inside a c.args.round) (sym c.of_segment.ensures) ∙ sym c.is_inside.ensures ∙ c.if-is_inside.true);
  near = c.requires.near ∙ ap (places (is_touching c.args.round) 0) c.requires.boxed;
}
