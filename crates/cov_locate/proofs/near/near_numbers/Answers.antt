use Rattle.std.proofs.Common.{◌≡◌, ◌<◌, ℕ, All, length, get_or, sym, subst, arith}
use Rattle.std.proofs.lemmas.List.Sorted.{All-permutation, IsNonDecreasingBy-from_sort}
use Rattle.box_tree.specs.Rect.{IsInside, box_of_point}
use Rattle.cov_locate.proofs.NearRings.{passed_all, search_more, within_near}
use Rattle.cov_locate.proofs.NextRing.{far_run}
use Rattle.cov_locate.specs.Blocks.{IsBlock}
use Rattle.cov_types.specs.declared.coord.Coord.{Coord}
use Rattle.cov_locate.proofs.near.near_numbers.Goals as goal
use Rattle.cov_locate.specs.Levels.{IsLevel}

pub widest_block-block-requires-clause-levels : goal.widest_block-block-requires-clause-levels
widest_block-block-requires-clause-levels c =
    let about = c.requires.ring_levels in
    let count = about.boxes_are.count in
    (about.boxes, (subst (All (IsLevel about.boxes)) (sym c.deref.ensures.value) about.levels_are, omega (arith, count, c.len-in-loop-from.ensures, c.deref.ensures.len)))

pub loop-from-preserved : goal.loop-from-preserved
loop-from-preserved c =
    let index = c.args.index.now in
    let uses = index.outline.uses.items in
    let runs = index.outline.rings.items in
    let numbers = index.numbers.items in
    let about = c.requires.ring_levels in
    let count = about.boxes_are.count in
    let from = c.loop-from.from in
    let block = c.widest_block-block.result in
    let number : ℕ = c.index.result.now in
    let found = c.loop-from.numbers.items in
    let more = c.add_near.new.numbers.items in
    let within : from < length numbers = omega (arith, c.loop-from-test.true, c.len.ensures) in
    let at : number ≡ get_or numbers from number = c.index.ensures in
    let levels = subst (All (IsLevel about.boxes)) (sym c.deref.ensures.value) about.levels_are in
    let one_block : (p : Coord) → IsInside (box_of_point p) c.args.round → IsBlock about.boxes from (length numbers) p block =
    λ p inside. (let b = c.widest_block-block.ensures.block about.boxes p levels (omega (arith, count, c.len-in-loop-from.ensures, c.deref.ensures.len)) inside in record { some = b.some; ends = omega (arith, b.ends, c.len-in-loop-from.ensures); one = b.one; placed = b.placed }) in (
      within_near (length runs) found more number block.placed c.in_ok-add_near.ensures (subst (λ (m : ℕ). m < length runs) (sym at) (c.requires.numbers_are.within from number within)) c.loop-from.invariant.0,
      search_more uses runs c.args.round numbers from block.to found more number block.placed within at c.in_ok-add_near.ensures c.widest_block-block.ensures.one
          (λ far p hp inside k n d low high.
          let b = one_block p inside in
          let m = get_or numbers k n in
          let inside_k : k < length numbers = omega (arith, high, b.ends) in
          far_run uses index.outline.starts.items (get_or runs m d) (get_or about.boxes k c.args.round) p block.placed c.requires.levelled.in_range hp
          (c.requires.in_order.round m d (c.requires.numbers_are.within k n inside_k)) (about.boxes_are.about k n d c.args.round inside_k) (b.placed k c.args.round low high) far)
          c.loop-from.invariant.1,
    )

pub returns-clause-within : goal.returns-clause-within
returns-clause-within c = All-permutation (λ n. n < length c.args.index.now.outline.rings.items) c.loop-from.numbers.items c.sort_unstable.new.self.items c.sort_unstable.ensures.permutation c.loop-from.invariant.0

pub returns-clause-ascending : goal.returns-clause-ascending
returns-clause-ascending c = IsNonDecreasingBy-from_sort (λ n. n) c.sort_unstable.new.self.items c.sort_unstable.ensures.sorted

pub returns-clause-others : goal.returns-clause-others
returns-clause-others c =
    let index = c.args.index.now in
    passed_all index.outline.uses.items index.outline.rings.items c.args.round index.numbers.items c.loop-from.from c.loop-from.numbers.items c.sort_unstable.new.self.items c.requires.numbers_are
    (omega (arith, c.loop-from-test.false, c.len.ensures)) c.sort_unstable.ensures.permutation c.loop-from.invariant.1
