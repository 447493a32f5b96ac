use Rattle.std.proofs.Common.{◌-◌, ◌<◌, List, length, sym, ap, subst, arith, Vec, Global}
use Rattle.box_tree.specs.Levels.{level_at}
use Rattle.box_tree.specs.declared.rect.Rect.{Rect}
use Rattle.box_tree.proofs.LevelsHold.{level_at-read}
use Rattle.box_tree.proofs.Under.{number_within}
use Rattle.box_tree.proofs.tree.BoxTree.search.Goals as goal

pub search_under-requires-clause-place : goal.search_under-requires-clause-place
search_under-requires-clause-place g c =
    let levels = c.self.inside.levels in
    let top = c.len-top.result - 1 in
    let v = c.index.result.now in
    let below : top < length levels.items = omega (arith, levels.ok.0, c.self.invariant.some, c.len-top.ensures) in
    let size = ap (λ (bs : List Rect). length bs) (level_at-read levels.items top v below c.index.ensures) in
    let test = c.loop-place-test.true in
    let count = c.len-place-end.ensures in
    subst (λ (ls : List (Vec Rect Global)). c.loop-place.place < length (level_at ls top)) (sym c.as_slice.ensures.value) (omega (arith, test, count, size, v.ok.0))

pub returns-clause-settled : goal.returns-clause-settled
returns-clause-settled g c =
    let levels = c.self.inside.levels in
    let top = c.len-top.result - 1 in
    let v = c.index.result.now in
    let below : top < length levels.items = omega (arith, levels.ok.0, c.self.invariant.some, c.len-top.ensures) in
    let size = ap (λ (bs : List Rect). length bs) (level_at-read levels.items top v below c.index.ensures) in
    let stop = c.loop-place-test.false in
    let count = c.len-place-end.ensures in
    λ k lt.
    let within : k < length (level_at levels.items 0) = subst (λ (bs : List Rect). k < length bs) (sym c.self.view_is) lt in
    let small = number_within levels.items c.self.invariant k top within below in
    c.loop-place.invariant.settled k within (omega (arith, small, stop, count, size, v.ok.0))
