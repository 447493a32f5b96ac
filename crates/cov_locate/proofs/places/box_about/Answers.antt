use Rattle.std.proofs.Common.{pos, subst, inl, inr}
use Rattle.std.proofs.lemmas.Bool.{cases_lt}
use Rattle.box_tree.proofs.Within.{inside_trans}
use Rattle.box_tree.specs.Rect.{IsInside}
use Rattle.box_tree.specs.declared.rect.Rect.{Rect}
use Rattle.cov_locate.proofs.InPlaces.{point_inside}
use Rattle.cov_locate.proofs.places.box_about.Goals as goal

pub loop-number-preserved : goal.loop-number-preserved
loop-number-preserved c = λ k n d h.
    let i = c.loop-number.number-index in
    let hull : Rect = c.hull-about.result in
    elim (cases_lt k i) [
      | inl early ↦ inside_trans (c.loop-number.invariant k n d early) c.hull-about.ensures.has_self
      | inr late ↦ point_inside c.args.points.now c.args.group.now i k n (record { x = pos 0; y = pos 0 }) d hull h late c.loop-number-test.true (c.requires.within i 0 c.loop-number-test.true)
          (subst (λ (b : Rect). IsInside b hull) c.of_point.ensures c.hull-about.ensures.has_other)
    ]
