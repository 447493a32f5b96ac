use Rattle.std.proofs.Common.{◌≡◌, ◌+◌, ◌-◌, ℕ, ◌∙◌, ap, sym, arith, Vec, Global}
use Rattle.box_tree.specs.Hulls.{AreHulls}
use Rattle.box_tree.specs.Levels.{level_at}
use Rattle.box_tree.specs.Probe.{reaches}
use Rattle.box_tree.proofs.Descent.{blocks_read, descend, scanned}
use Rattle.box_tree.proofs.LevelsHold.{hulls_above, level_at-read}
use Rattle.box_tree.proofs.Upward.{reaches_upward}
use Rattle.box_tree.proofs.tree.BoxTree.meeting_into.Goals as goal

pub loop-depth-init : goal.loop-depth-init
loop-depth-init c =
    let levels = c.self.inside.levels in
    let top = level_at-read levels.items _ c.index.result.now (omega (arith, levels.ok, c.self.invariant.some, c.len-depth.ensures)) c.index.ensures in
    record {
      within = omega (arith, levels.ok, c.self.invariant.some, c.len-depth.ensures);
      places_so_far = scanned (reaches c.args.probe.now) _ _ _ _ (c.as_slice.ensures.value ∙ sym top) c.clear.ensures.items c.in_ok-add_places.ensures;
    }

pub add_children-requires-clause-within : goal.add_children-requires-clause-within
add_children-requires-clause-within c =
    let levels = c.self.inside.levels.items in
    let depth = c.loop-depth.depth in
    let next : (depth - 1) + 1 ≡ depth = omega (arith, c.loop-depth-test.true) in
    let level = level_at-read levels (depth - 1) c.index-in-loop-depth.result.now (omega (arith, c.loop-depth.invariant.within)) c.index-in-loop-depth.ensures in
    let above : AreHulls (level_at levels depth) (level_at levels (depth - 1)) = hulls_above levels depth (depth - 1) c.self.invariant next c.loop-depth.invariant.within in
    blocks_read (reaches c.args.probe.now) _ _ _ _ above (c.as_slice-in-loop-depth.ensures.value ∙ sym level) (c.as_slice-in-loop-depth-2.ensures.value ∙ c.loop-depth.invariant.places_so_far)

pub loop-depth-preserved : goal.loop-depth-preserved
loop-depth-preserved c =
    let levels = c.self.inside.levels.items in
    let depth = c.loop-depth.depth in
    let next : (depth - 1) + 1 ≡ depth = omega (arith, c.loop-depth-test.true) in
    let level = level_at-read levels (depth - 1) c.index-in-loop-depth.result.now (omega (arith, c.loop-depth.invariant.within)) c.index-in-loop-depth.ensures in
    let above : AreHulls (level_at levels depth) (level_at levels (depth - 1)) = hulls_above levels depth (depth - 1) c.self.invariant next c.loop-depth.invariant.within in
    let found = descend (reaches c.args.probe.now) _ _ _ _ _ _ (reaches_upward c.args.probe.now) above (c.as_slice-in-loop-depth.ensures.value ∙ sym level)
    (c.as_slice-in-loop-depth-2.ensures.value ∙ c.loop-depth.invariant.places_so_far) c.clear-in-loop-depth.ensures.items c.in_ok-add_children.ensures in
    record {
      within = omega (arith, c.loop-depth.invariant.within);
      places_so_far = ap (λ (v : Vec ℕ Global). v.items) c.swap.ensures.x_after ∙ found;
    }
