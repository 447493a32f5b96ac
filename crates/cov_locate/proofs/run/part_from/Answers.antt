use Rattle.std.proofs.Common.{◌≡◌, get_or, map, sym, subst, arith}
use Rattle.std.specs.Prelude.{MatchOption}
use Rattle.cov_locate.specs.declared.run.Part.{Part}
use Rattle.box_tree.specs.Rect.{box_of_segment}
use Rattle.cov_types.specs.declared.edge_use.EdgeUse.{EdgeUse}
use Rattle.cov_locate.proofs.Passing.{ArePlaced, placed_uses, placed_clear, beside_holds, above_part}
use Rattle.cov_locate.proofs.run.part_from.Goals as goal
use Rattle.cov_locate.specs.Blocks.{IsPlaced}
use Rattle.cov_locate.specs.declared.block.Placed.TheVariants.{Beside, Higher}

pub part_above-requires-clause-some : goal.part_above-requires-clause-some
part_above-requires-clause-some c = omega (arith, c.requires.block.some, c.requires.block.ends)

pub part_above-requires-clause-ends : goal.part_above-requires-clause-ends
part_above-requires-clause-ends c = omega (arith, c.requires.block.some, c.requires.begins)

pub part_of_one-requires-clause-some : goal.part_of_one-requires-clause-some
part_of_one-requires-clause-some c = omega (arith, c.requires.block.some, c.requires.block.ends)

pub returns-in-Beside-clause-told : goal.returns-in-Beside-clause-told
returns-in-Beside-clause-told c =
    let uses = c.args.outline.now.uses.items in
    let from = c.args.from in
    let to = c.args.block.to in
    let p = c.args.p in
    let boxes = map (λ (u : EdgeUse). box_of_segment u.seg) uses in
    let block = c.requires.block in
    let are : ArePlaced uses from to p Beside =
    placed_uses uses from to p Beside (omega (arith, block.ends, c.requires.ring.uses_end)) (λ k b low high. subst (IsPlaced (get_or boxes k b) p) c.in-Beside.is (block.placed k b low high)) in
    record {
      begins = block.some;
      ends = block.ends;
      clear = placed_clear uses from to p Beside are tt;
      held = beside_holds uses from to p c.requires.uses_in_range c.requires.point (omega (arith, block.ends, c.requires.ring.uses_end)) are;
    }

pub returns-in-Higher-clause-told : goal.returns-in-Higher-clause-told
returns-in-Higher-clause-told c =
    let outline = c.args.outline.now in
    let uses = outline.uses.items in
    let from = c.args.from in
    let to = c.args.block.to in
    let part = c.part_above.result in
    let p = c.args.p in
    let boxes = map (λ (u : EdgeUse). box_of_segment u.seg) uses in
    let block = c.requires.block in
    let are : ArePlaced uses from to p Higher =
    placed_uses uses from to p Higher (omega (arith, block.ends, c.requires.ring.uses_end)) (λ k b low high. subst (IsPlaced (get_or boxes k b) p) c.in-Higher.is (block.placed k b low high)) in
    above_part uses outline.starts.items c.args.run from to p part c.requires.uses_in_range c.requires.ring c.requires.begins block.some block.ends are c.part_above.ensures.to (c.part_above.ensures.holds p)

pub returns-in-Near-clause-to : goal.returns-in-Near-clause-to
returns-in-Near-clause-to c = subst (λ n. MatchOption c.part_of_one.result (Unit {0}) (λ (part : Part). part.to ≡ n)) (sym (c.requires.block.one c.in-Near.is)) c.part_of_one.ensures.to
