use Rattle.std.proofs.Common.{◌++◌, List, map, sym, subst, arith}
use Rattle.box_tree.specs.Rect.{box_of_segment}
use Rattle.cov_locate.proofs.Blocks.{blocks_more, blocks_all}
use Rattle.cov_locate.proofs.Passing.{boxes_end}
use Rattle.cov_locate.proofs.near.blocks_about.Goals as goal
use Rattle.cov_locate.specs.Blocks.{AreBlocks}
use Rattle.cov_locate.specs.declared.block.Block.{Block}
use Rattle.cov_types.specs.declared.edge_use.EdgeUse.{EdgeUse}

pub widest_block-block-requires-clause-levels : goal.widest_block-block-requires-clause-levels
widest_block-block-requires-clause-levels c =
    (map (λ (u : EdgeUse). box_of_segment u.seg) c.args.outline.now.uses.items, (c.requires.levelled.levels_are, boxes_end c.args.outline.now.uses.items c.args.run.to c.requires.ends))

pub loop-from-init : goal.loop-from-init
loop-from-init c = (
  omega (arith, c.requires.some),
  λ p inside later h. subst (λ (bs : List Block). AreBlocks (map (λ (u : EdgeUse). box_of_segment u.seg) c.args.outline.now.uses.items) c.args.run.from c.args.run.to p (bs ++ later)) (sym c.new-blocks.ensures.items) h,
)

pub loop-from-preserved : goal.loop-from-preserved
loop-from-preserved c =
    let uses = c.args.outline.now.uses.items in
    let run = c.args.run in
    let boxes = map (λ (u : EdgeUse). box_of_segment u.seg) uses in
    let block = c.widest_block-block.result in (
      c.widest_block-block.ensures.ends,
      λ p inside later h.
          blocks_more boxes run.to p run.from c.loop-from.from c.loop-from.blocks.items c.push.new.self.items block c.in_ok-push.ensures.items
          (c.widest_block-block.ensures.block boxes p c.requires.levelled.levels_are (boxes_end uses run.to c.requires.ends) inside) (c.loop-from.invariant.1 p inside) later h,
    )

pub returns : goal.returns
returns c = λ p inside.
    blocks_all (map (λ (u : EdgeUse). box_of_segment u.seg) c.args.outline.now.uses.items) c.args.run.to p c.args.run.from c.loop-from.from c.loop-from.blocks.items
    (omega (arith, c.loop-from.invariant.0, c.loop-from-test.false)) (c.loop-from.invariant.1 p inside)
