use Rattle.std.proofs.Common.{◌∙◌, sym, ap₂, arith}
use Rattle.cov_valid.proofs.run.run_holds.Goals as goal
use Rattle.parity_laws.proofs.Parts.{part-joined}
use Rattle.parity_laws.specs.Paths.{differ}
use Rattle.plane.specs.Segment.{midpoint}

pub loop-from-preserved : goal.loop-from-preserved
loop-from-preserved c =
    let part = c.part_from-part.ensures.part in (
      omega (arith, c.loop-from.invariant.0, part.begins),
      part.ends,
      ap₂ differ c.loop-from.invariant.2 part.held
          ∙ sym (part-joined c.args.outline.now.uses.items c.args.run.from c.loop-from.from c.part_from-part.result.to (midpoint c.args.s) c.loop-from.invariant.0 part.begins),
    )
