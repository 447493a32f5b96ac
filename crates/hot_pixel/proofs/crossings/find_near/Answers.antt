use Rattle.std.proofs.Common.{List, subst, take, drop, ◌-◌}
use Rattle.std.specs.Prelude.{All}
use Rattle.box_tree.specs.Rect.{IsInside}
use Rattle.box_tree.specs.declared.rect.Rect.{Rect}
use Rattle.hot_pixel.proofs.NearBoxes.{near_found}
use Rattle.hot_pixel.proofs.crossings.find_near.Goals as goal

pub returns : goal.returns
returns c =
    near_found c.args.tree.now c.args.first c.args.past c.hull_of-round.result c.meeting_into.new.found.items c.requires.within
    (subst (λ (bs : List Rect). All (λ b. IsInside b c.hull_of-round.result) (take (c.args.past - c.args.first) (drop c.args.first bs))) c.boxes.ensures c.hull_of-round.ensures) c.in_ok-meeting_into.ensures
