use Rattle.std.proofs.Common.{sym, subst}
use Rattle.box_tree.specs.Rect.{IsInside}
use Rattle.box_tree.specs.declared.rect.Rect.{Rect}
use Rattle.box_tree.proofs.Within.{inside_trans}
use Rattle.cov_cells.specs.Slots.{IsRound}
use Rattle.cov_cells.specs.declared.wanted.Wanted.{Wanted}
use Rattle.cov_cells.proofs.search.round.Goals as goal

pub returns-in-InWay : goal.returns-in-InWay
returns-in-InWay c =
    let box = c.hull-in-InWay.result in
    let a = subst (λ (b : Rect). IsInside b c.hull.result) c.of_point-in-InWay.ensures c.hull.ensures.has_self in
    let b = subst (λ (b : Rect). IsInside b c.hull.result) c.of_point-in-InWay-2.ensures c.hull.ensures.has_other in
    let d = subst (λ (b : Rect). IsInside b box) c.of_point-in-InWay-3.ensures c.hull-in-InWay.ensures.has_other in
    subst (λ (w : Wanted). IsRound w box) (sym c.in-InWay.is) (inside_trans a c.hull-in-InWay.ensures.has_self, inside_trans b c.hull-in-InWay.ensures.has_self, d)
