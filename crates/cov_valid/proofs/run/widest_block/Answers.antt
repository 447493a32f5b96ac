use Rattle.std.proofs.Common.{◌≡◌, ◌<◌, ◌/◌, false, length, sym, subst, arith, pos, ◌*ℤ◌, ◌<ℤ◌}
use Rattle.box_tree.specs.Probe.{is_above_point}
use Rattle.cov_types.specs.declared.coord.Coord.{Coord}
use Rattle.cov_valid.proofs.Stabs.{AreIn, block_within, in_level, beside_holds, higher_holds}
use Rattle.cov_valid.proofs.run.widest_block.Goals as goal
use Rattle.cov_valid.proofs.run.widest_block.Goals.{in-Beside, in-Higher}
use Rattle.cov_valid.specs.Levels.{IsLevel, IsPlaced, twice_middle}
use Rattle.cov_valid.specs.Parts.{IsRunPart}

pub index-requires : goal.index-requires
index-requires c =
    let uses = c.args.outline.now.uses.items in
    let level = c.level-item.result in
    let is : IsLevel uses level = subst (IsLevel uses) (sym c.level-item.is) (c.requires.levelled.levels_are c.loop-level.level-index level c.loop-level-test.true) in
    let block = block_within uses level c.args.from is (omega (arith, c.requires.ring.uses_end, c.requires.some)) in
    omega (arith, block)

pub loop-level-preserved : goal.loop-level-preserved
loop-level-preserved c =
    let outline = c.args.outline.now in
    let uses = outline.uses.items in
    let s = c.args.s in
    let from = c.args.from in
    let to = c.end_of_block-to.result in
    let level = c.level-item.result in
    let b = c.index.result.now in
    let end = c.end_of_block-to.ensures in
    let ring = c.requires.ring in
    let is : IsLevel uses level = subst (IsLevel uses) (sym c.level-item.is) (c.requires.levelled.levels_are c.loop-level.level-index level c.loop-level-test.true) in
    let within : from / level.width < length level.boxes.items = block_within uses level from is (omega (arith, ring.uses_end, c.requires.some)) in
    let inside : AreIn uses from to b =
    subst (AreIn uses from to) (sym c.index.ensures) (in_level uses level from to b is within end.block (omega (arith, end.within, ring.uses_end))) in
    let placed : IsPlaced b (twice_middle s) c.place_of.result = subst (λ (m : Coord). IsPlaced b m c.place_of.result) c.twice_middle-middle.ensures c.place_of.ensures in
    elim c.match-place_of.branch [
      | in-Beside w ↦
          let beside : is_above_point (twice_middle s) b ≡ false = subst (IsPlaced b (twice_middle s)) w.in-Beside.is placed in
          subst (IsRunPart outline c.args.run from s) (sym w.part-is)
          (record { begins = omega (arith, end.begins); ends = end.within; held = beside_holds uses from to b s c.requires.levelled.in_range c.requires.in_range (omega (arith, end.within, ring.uses_end)) inside beside })
      | in-Higher w ↦
          let above : (twice_middle s).y <ℤ (pos 2 *ℤ b.lo.y) = subst (IsPlaced b (twice_middle s)) w.in-Higher.is placed in
          subst (IsRunPart outline c.args.run from s) (sym w.part-is)
          (record {
            begins = omega (arith, end.begins);
            ends = end.within;
            held =
                higher_holds uses outline.starts.items c.args.run from to b s w.do_ends_differ-holds.result s.lo c.requires.levelled.in_range ring
                c.requires.begins (omega (arith, end.begins)) end.within inside above (w.do_ends_differ-holds.ensures s.lo);
          })
    ]
