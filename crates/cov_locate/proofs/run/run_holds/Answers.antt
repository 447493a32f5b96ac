use Rattle.std.proofs.Common.{◌∙◌, map, sym, subst, ap₂, arith}
use Rattle.box_tree.proofs.Within.{inside_refl}
use Rattle.box_tree.specs.Rect.{IsInside, box_of_point, box_of_segment}
use Rattle.cov_types.specs.declared.edge_use.EdgeUse.{EdgeUse}
use Rattle.cov_locate.proofs.Passing.{boxes_end, clear_joined}
use Rattle.cov_locate.proofs.run.run_holds.Goals as goal
use Rattle.parity_laws.proofs.Parts.{part-joined}
use Rattle.parity_laws.specs.Paths.{differ}
use Rattle.plane.specs.Point.{at_coord}

pub widest_block-block-requires-clause-levels : goal.widest_block-block-requires-clause-levels
widest_block-block-requires-clause-levels c =
    (map (λ (u : EdgeUse). box_of_segment u.seg) c.args.outline.now.uses.items, (c.requires.levelled.levels_are, boxes_end c.args.outline.now.uses.items c.args.run.to c.requires.ring.uses_end))

pub part_from-requires-clause-block : goal.part_from-requires-clause-block
part_from-requires-clause-block c =
    let p = c.args.p in
    c.widest_block-block.ensures.block (map (λ (u : EdgeUse). box_of_segment u.seg) c.args.outline.now.uses.items) p c.requires.levelled.levels_are (boxes_end c.args.outline.now.uses.items c.args.run.to c.requires.ring.uses_end)
    (subst (IsInside (box_of_point p)) (sym c.of_point.ensures) (inside_refl (box_of_point p)))

pub loop-from-preserved : goal.loop-from-preserved
loop-from-preserved c =
    let uses = c.args.outline.now.uses.items in
    let run = c.args.run in
    let from = c.loop-from.from in
    let to = c.in_ok-part.part.to in
    let part = c.in_ok-part.ensures.told in
    let so_far = c.loop-from.invariant in (
      omega (arith, so_far.0, part.begins),
      part.ends,
      clear_joined uses run.from from to c.args.p so_far.2 part.clear,
      ap₂ differ so_far.3 part.held ∙ sym (part-joined uses run.from from to (at_coord c.args.p) so_far.0 (omega (arith, part.begins))),
    )
