use Rattle.std.proofs.Common.{◌≡◌, ◌<◌, ◌+◌, ◌/◌, ◌-◌, ℕ, refl, arith}
use Rattle.cov_write.proofs.Places.{step_written, unit_below, all_written}
use Rattle.cov_write.proofs.number.append_fraction.Goals as goal

pub loop-rest-preserved : goal.loop-rest-preserved
loop-rest-preserved c =
    let l = c.loop-rest in
    let unit = c.pow-unit.result in
    let some : 0 < l.rest = omega (arith, c.loop-rest-test.true) in
    record {
      text = step_written _ l.out.items _ l.left l.rest unit c.from.result (48 + l.rest / unit) some l.invariant.below c.from.ensures c.pow-unit.ensures refl l.invariant.text c.in_ok-push-2.ensures.items;
      below = unit_below l.rest unit c.from.result (l.left - 1) c.from.ensures c.pow-unit.ensures;
      few = omega (arith, l.invariant.few);
    }

pub returns : goal.returns
returns c =
    let l = c.loop-rest in
    let none : l.rest ≡ 0 = omega (arith, c.loop-rest-test.false) in
    all_written _ l.out.items l.left l.rest none l.invariant.text
