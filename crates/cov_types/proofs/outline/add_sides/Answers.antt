use Rattle.std.proofs.Common.{◌≡◌, ◌∙◌}
use Rattle.cov_types.proofs.Sides.{side_more_next, side_more_last, side_all}
use Rattle.cov_types.proofs.outline.add_sides.Goals as goal
use Rattle.cov_types.proofs.outline.add_sides.Goals.{then-i-points, else-i-points}
use Rattle.cov_types.specs.Rings.{side_starts}
use Rattle.cov_types.specs.Uses.{side_uses}

pub loop-i-preserved : goal.loop-i-preserved
loop-i-preserved c =
    let shown = c.as_slice-points.result.now in
    let same : shown ≡ c.args.ring.now = c.as_slice-points.ensures.value ∙ c.ring.view_is in
    let add = c.in_ok-add_side.ensures in
    elim c.if-i-points.branch [
      | then-i-points w ↦ (
        side_more_next (side_uses c.args.member) c.args.ring.now shown c.loop-i.i _ c.if-i-points.next _ _ _ same w.if-i-points.true w.next-is c.loop-i.invariant.0 add.uses,
        side_more_next side_starts c.args.ring.now shown c.loop-i.i _ c.if-i-points.next _ _ _ same w.if-i-points.true w.next-is c.loop-i.invariant.1 add.starts,
      )
      | else-i-points w ↦ (
        side_more_last (side_uses c.args.member) c.args.ring.now shown c.loop-i.i _ c.if-i-points.next _ _ _ same c.loop-i-test.true w.if-i-points.false w.next-is c.loop-i.invariant.0 add.uses,
        side_more_last side_starts c.args.ring.now shown c.loop-i.i _ c.if-i-points.next _ _ _ same c.loop-i-test.true w.if-i-points.false w.next-is c.loop-i.invariant.1 add.starts,
      )
    ]

pub returns-clause-uses : goal.returns-clause-uses
returns-clause-uses c =
    let shown = c.as_slice-points.result.now in
    let same : shown ≡ c.args.ring.now = c.as_slice-points.ensures.value ∙ c.ring.view_is in
    side_all (side_uses c.args.member) c.args.ring.now shown c.loop-i.i _ _ same c.loop-i-test.false c.loop-i.invariant.0

pub returns-clause-starts : goal.returns-clause-starts
returns-clause-starts c =
    let shown = c.as_slice-points.result.now in
    let same : shown ≡ c.args.ring.now = c.as_slice-points.ensures.value ∙ c.ring.view_is in
    side_all side_starts c.args.ring.now shown c.loop-i.i _ _ same c.loop-i-test.false c.loop-i.invariant.1
