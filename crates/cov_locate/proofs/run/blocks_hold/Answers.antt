use Rattle.std.proofs.Common.{◌≡◌, ◌∙◌, ◌+◌, drop, map, sym, subst, ap, ap₂, arith}
use Rattle.box_tree.specs.Rect.{box_of_segment}
use Rattle.cov_types.specs.declared.edge_use.EdgeUse.{EdgeUse}
use Rattle.cov_locate.proofs.Blocks.{next_block, no_block}
use Rattle.cov_locate.proofs.Passing.{clear_joined}
use Rattle.cov_locate.proofs.run.blocks_hold.Goals as goal
use Rattle.cov_locate.specs.Blocks.{AreBlocks}
use Rattle.cov_locate.specs.Parts.{AreClear}
use Rattle.parity_laws.proofs.Parts.{part-joined}
use Rattle.parity_laws.specs.Paths.{differ}
use Rattle.parity_laws.specs.Runs.{part_holds}
use Rattle.plane.specs.Point.{at_coord}

pub part_from-requires-clause-block : goal.part_from-requires-clause-block
part_from-requires-clause-block c =
    (next_block (map (λ (u : EdgeUse). box_of_segment u.seg) c.args.outline.now.uses.items) c.args.run.to c.args.p c.loop-block.from c.loop-block.block-index _ c.args.blocks.now c.loop-block-test.true c.loop-block.invariant.3).0

pub loop-block-preserved : goal.loop-block-preserved
loop-block-preserved c =
    let uses = c.args.outline.now.uses.items in
    let run = c.args.run in
    let from = c.loop-block.from in
    let to = c.in_ok-part.part.to in
    let part = c.in_ok-part.ensures.told in
    let so_far = c.loop-block.invariant in
    let boxes = map (λ (u : EdgeUse). box_of_segment u.seg) uses in (
      omega (arith, so_far.0, part.begins),
      clear_joined uses run.from from to c.args.p so_far.1 part.clear,
      ap₂ differ so_far.2 part.held ∙ sym (part-joined uses run.from from to (at_coord c.args.p) so_far.0 (omega (arith, part.begins))),
      subst (λ n. AreBlocks boxes n run.to c.args.p (drop (c.loop-block.block-index + 1) c.args.blocks.now)) (sym c.in_ok-part.ensures.to)
          (next_block boxes run.to c.args.p from c.loop-block.block-index _ c.args.blocks.now c.loop-block-test.true so_far.3).1,
    )

pub returns : goal.returns
returns c =
    let uses = c.args.outline.now.uses.items in
    let p = c.args.p in
    let so_far = c.loop-block.invariant in
    let end : c.loop-block.from ≡ c.args.run.to = no_block (map (λ (u : EdgeUse). box_of_segment u.seg) uses) c.args.run.to p c.loop-block.from c.loop-block.block-index c.args.blocks.now (omega (arith, c.loop-block-test.false)) so_far.3 in
    record {
      clear = subst (λ n. AreClear uses c.args.run.from n p) end so_far.1;
      held = so_far.2 ∙ ap (λ n. part_holds uses c.args.run.from n (at_coord p)) end;
    }
