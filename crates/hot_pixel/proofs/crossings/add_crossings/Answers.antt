use Rattle.std.proofs.Common.{arith, ap, sym, subst, ◌∙◌, ◌*◌, List, length}
use Rattle.std.proofs.lemmas.List.{length-map}
use Rattle.box_tree.specs.Rect.{box_of_segment}
use Rattle.box_tree.specs.declared.rect.Rect.{Rect}
use Rattle.hot_pixel.specs.Near.{AreNear}
use Rattle.hot_pixel.proofs.Crossed.{crossed_none, crossed_past, block_more, blocks_all, block_inside}
use Rattle.hot_pixel.proofs.crossings.add_crossings.Goals as goal

pub loop-block-init : goal.loop-block-init
loop-block-init c = crossed_past c.args.segs.now 0 0 _ _ _ (omega arith) (crossed_none c.args.segs.now 0 c.args.centres.now.items)

pub find_near-requires : goal.find_near-requires
find_near-requires c =
    let inside = block_inside _ _ c.loop-block.block c.div_ceil-block-end.ensures c.loop-block-test.true in
    let long = ap length (c.in_ok-tree.ensures ∙ c.in_ok-boxes_of.ensures) in
    record {
      some = omega (arith, c.min-past.ensures);
      within = omega (arith, c.min-past.ensures, long, length-map c.args.segs.now box_of_segment);
    }

pub add_crossings_of_block-requires : goal.add_crossings_of_block-requires
add_crossings_of_block-requires c = record {
  in_range = c.requires;
  boxes = c.boxes.ensures ∙ c.in_ok-tree.ensures ∙ c.in_ok-boxes_of.ensures;
  some = let inside = block_inside _ _ c.loop-block.block c.div_ceil-block-end.ensures c.loop-block-test.true in omega (arith, c.min-past.ensures);
  within = omega (arith, c.min-past.ensures);
  near =
      subst (λ (bs : List Rect). AreNear bs (c.loop-block.block * 8) c.min-past.result c.as_slice.result.now) (sym c.boxes.ensures)
      (subst (AreNear c.in_ok-tree.tree (c.loop-block.block * 8) c.min-past.result) (sym c.as_slice.ensures.value) c.in_ok-find_near.ensures);
}

pub loop-block-preserved : goal.loop-block-preserved
loop-block-preserved c =
    block_more c.args.segs.now c.loop-block.block c.min-past.result _ _ _ c.min-past.ensures (block_inside _ _ c.loop-block.block c.div_ceil-block-end.ensures c.loop-block-test.true) c.loop-block.invariant
    c.in_ok-add_crossings_of_block.ensures

pub returns : goal.returns
returns c = blocks_all c.args.segs.now c.div_ceil-block-end.result c.loop-block.block _ _ c.div_ceil-block-end.ensures c.loop-block-test.false c.loop-block.invariant
