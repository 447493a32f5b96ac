use Rattle.std.proofs.Common.{ap, subst, arith}
use Rattle.visvalingam.specs.Chains.{count_left}
use Rattle.visvalingam.specs.State.{IsFoundSo}
use Rattle.visvalingam.specs.declared.state.State.{State}
use Rattle.visvalingam.specs.declared.task.Task.{Task}
use Rattle.visvalingam.proofs.Running.{goes_on, ends}
use Rattle.visvalingam.proofs.run.removed_points.Goals as goal

pub removals-preserved : goal.removals-preserved
removals-preserved c s asked =
    let task : Task = record { lines = c.args.lines; open_lines = c.args.open_lines; tolerance = c.args.tolerance } in
    let was = c.removals.invariant s asked in
    goes_on s task c.removals.state c.next_corner.new.self c.in_ok-spot.ensures.same was c.remove.new.self c.in-Some.spot c.in-Some.corner
    (subst (IsFoundSo s c.removals.state c.next_corner.new.self) c.in-Some.is (c.in_ok-spot.ensures.found s asked was.tables was.ready)) (λ t g r. c.in_ok-remove.ensures.after s asked t g r)

pub removals-smaller : goal.removals-smaller
removals-smaller c =
    let fewer = c.in_ok-remove.ensures.fewer in
    let same = ap (λ (st : State). count_left st.links.items) c.in_ok-spot.ensures.same in
    omega (arith, fewer, same)

pub returns : goal.returns
returns c s asked =
    let task : Task = record { lines = c.args.lines; open_lines = c.args.open_lines; tolerance = c.args.tolerance } in
    let was = c.removals.invariant s asked in
    ends s task c.removals.state c.next_corner.new.self c.in_ok-spot.ensures.same was
    (subst (IsFoundSo s c.removals.state c.next_corner.new.self) c.in_default.is (c.in_ok-spot.ensures.found s asked was.tables was.ready))
