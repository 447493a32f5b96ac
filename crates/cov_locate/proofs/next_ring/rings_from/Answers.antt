use Rattle.std.proofs.Common.{◌<◌, ◌≤◌, All, length, get_or, sym, subst, arith, inl, inr}
use Rattle.box_tree.proofs.Within.{inside_refl}
use Rattle.box_tree.specs.Rect.{IsInside, box_of_point}
use Rattle.cov_locate.specs.Levels.{IsLevel}
use Rattle.cov_locate.proofs.NextRing.{next_far, far_run}
use Rattle.cov_locate.proofs.Placing.{IsFar}
use Rattle.cov_locate.proofs.next_ring.rings_from.Goals as goal

pub returns-in-Beside : goal.returns-in-Beside
returns-in-Beside c =
    let index = c.args.index.now in
    let uses = index.outline.uses.items in
    let runs = index.outline.rings.items in
    let numbers = index.numbers.items in
    let from = c.args.from in
    let to = c.widest_block-block.result.to in
    let p = c.args.p in
    let about = c.requires.index.ring_levels in
    let count = about.boxes_are.count in
    let placed = c.widest_block-block.result.placed in
    let far : IsFar placed = elim c.in-Beside.is [ inl beside ↦ subst IsFar (sym beside) tt | inr higher ↦ subst IsFar (sym higher) tt ] in
    let block = c.widest_block-block.ensures.block about.boxes p (subst (All (IsLevel about.boxes)) (sym c.deref.ensures.value) about.levels_are) (omega (arith, count, c.len.ensures, c.deref.ensures.len)) (subst (IsInside (box_of_point p)) (sym c.of_point-round.ensures) (inside_refl (box_of_point p))) in
    let b = box_of_point p in
    let end : to ≤ length numbers = omega (arith, block.ends, c.len.ensures, c.deref.ensures.len) in
    record {
      some = block.some;
      ends = end;
      next =
          next_far uses runs numbers p c.args.least from to c.len-none.result (omega (arith, c.len-none.ensures))
          (λ k n d low high.
          let number = get_or numbers k n in
          let within : k < length numbers = omega (arith, high, end) in
          far_run uses index.outline.starts.items (get_or runs number d) (get_or about.boxes k b) p placed c.requires.index.levelled.in_range c.requires.point
          (c.requires.index.in_order.round number d (c.requires.index.numbers_are.within k n within)) (about.boxes_are.about k n d b within) (block.placed k b low high) far);
    }
