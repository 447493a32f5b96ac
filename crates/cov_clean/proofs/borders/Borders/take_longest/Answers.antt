-- One side more, and after the last.
use Rattle.std.proofs.Common.{◌∙◌, ap, ◌<◌, length, get_or, List, arith}
use Rattle.std.proofs.lemmas.List.{length-set, get_or_default}
use Rattle.owner_label.specs.declared.owned_side.OwnedSide.{OwnedSide}
use Rattle.cov_clean.proofs.LongestSides.{best_more, all_clear, none_longest, some_longest}
use Rattle.cov_clean.proofs.borders.Borders.take_longest.Goals as goal

pub loop-side-preserved : goal.loop-side-preserved
loop-side-preserved c =
    let sides : List OwnedSide = c.args.sides.now in
    let k = c.loop-side.side-index in
    let d : OwnedSide = record { member = 0; length = 0 } in
    let s : OwnedSide = get_or sides k d in
    let list = c.loop-side.self.lengths.items in
    let there : s.member < length list = (let h = c.requires.members k d c.loop-side-test.true in let same = c.loop-side.invariant.count in omega (arith, h, same)) in
    record {
      best = best_more sides k s c.loop-side-test.true (get_or_default sides k d s c.loop-side-test.true) list there c.loop-side.best c.loop-side.invariant.best
          c.take.result c.longer-best.result c.take.ensures.member c.take.ensures.length c.longer-best.ensures.one c.longer-best.ensures.best c.longer-best.ensures.other c.take.new.self.lengths.items c.take.ensures.lengths;
      count = ap length c.take.ensures.lengths ∙ length-set list s.member 0 ∙ c.loop-side.invariant.count;
    }

pub returns-then-best-eq0-clause-longest : goal.returns-then-best-eq0-clause-longest
returns-then-best-eq0-clause-longest c =
    none_longest c.args.sides.now c.requires.long c.loop-side.side-index c.loop-side-test.false c.loop-side.self.lengths.items c.loop-side.best c.loop-side.invariant.best c.if-best-eq0.true

pub returns-then-best-eq0-clause-clear : goal.returns-then-best-eq0-clause-clear
returns-then-best-eq0-clause-clear c =
    all_clear c.args.sides.now c.requires.long c.loop-side.side-index c.loop-side-test.false c.loop-side.self.lengths.items c.loop-side.best c.loop-side.invariant.best

pub returns-else-best-eq0-clause-longest : goal.returns-else-best-eq0-clause-longest
returns-else-best-eq0-clause-longest c =
    some_longest c.args.sides.now c.requires.long c.loop-side.side-index c.loop-side-test.false c.loop-side.self.lengths.items c.loop-side.best c.loop-side.invariant.best (omega (arith, c.if-best-eq0.false))

pub returns-else-best-eq0-clause-clear : goal.returns-else-best-eq0-clause-clear
returns-else-best-eq0-clause-clear c =
    all_clear c.args.sides.now c.requires.long c.loop-side.side-index c.loop-side-test.false c.loop-side.self.lengths.items c.loop-side.best c.loop-side.invariant.best
