use Rattle.std.proofs.Common.{◌∙◌, List, subst}
use Rattle.box_tree.specs.Hulls.{AreHulls}
use Rattle.box_tree.specs.declared.rect.Rect.{Rect}
use Rattle.box_tree.proofs.LevelsHold.{IsGrown, grown, long_top}
use Rattle.box_tree.proofs.tree.BoxTree.build.Goals as goal

grows : (c : goal.In_ok-push-2) → IsGrown c.levels.levels.items c.push-in-levels.new.self.items c.levels.top
grows c =
    let above = subst (λ (bs : List Rect). AreHulls c.in_ok-hulls.hulls.items bs) c.as_slice.ensures.value c.in_ok-hulls.ensures in
    grown c.levels.levels.items c.push-in-levels.new.self.items c.levels.top c.index-in-levels.result.now c.in_ok-hulls.hulls
    c.levels.invariant.last c.levels.invariant.packed c.index-in-levels.ensures above c.in_ok-push-2.ensures.items

pub levels-smaller : goal.levels-smaller
levels-smaller c = (grows c).shorter (long_top c.levels.levels.items c.levels.top c.index.result.now _ c.levels.invariant.last c.index.ensures c.len.ensures c.levels-test.true)

pub levels-preserved : goal.levels-preserved
levels-preserved c = let more = grows c in record { packed = more.packed; lowest = more.lowest ∙ c.levels.invariant.lowest; last = more.last }
