use Rattle.std.proofs.Common.{[], ◌∷◌, sym, subst, get_or, arith}
use Rattle.owner_label.specs.Sided.{region_on}
use Rattle.owner_label.specs.Spread.{IsReached, AreReachedAcross}
use Rattle.owner_label.proofs.Spreading.{grows-trans, crossed-more, crossed_all}
use Rattle.owner_label.proofs.spread.Spread.leave.Goals as goal

pub cross-requires-clause-within : goal.cross-requires-clause-within
cross-requires-clause-within c = omega (arith, c.of_number.ensures, c.requires.within c.loop-side.side-index 0 c.loop-side-test.true)

pub cross-requires-clause-reached : goal.cross-requires-clause-reached
cross-requires-clause-reached c =
    subst (λ n. IsReached c.loop-side.self (region_on c.args.map.now n)) (sym c.of_number.ensures)
    (c.loop-side.invariant.grows.reached (region_on c.args.map.now (get_or c.args.sides.now c.loop-side.side-index 0)) (c.requires.reached c.loop-side.side-index 0 c.loop-side-test.true))

pub loop-side-preserved : goal.loop-side-preserved
loop-side-preserved c =
    let step = c.in_ok-cross.ensures in
    record {
      spread = step.spread;
      grows = grows-trans c.args.self.now c.loop-side.self c.cross.new.self c.loop-side.invariant.grows step.grows;
      crossed = crossed-more c.args.map.now c.loop-side.self c.cross.new.self c.args.sides.now c.loop-side.side-index c.loop-side-test.true c.loop-side.invariant.crossed step.grows
          (subst (λ n. AreReachedAcross c.args.map.now c.cross.new.self (n ∷ [])) c.of_number.ensures step.crossed);
    }

pub returns-clause-crossed : goal.returns-clause-crossed
returns-clause-crossed c = crossed_all c.args.map.now c.loop-side.self c.args.sides.now c.loop-side.side-index c.loop-side-test.false c.loop-side.invariant.crossed
