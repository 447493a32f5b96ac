use Rattle.std.proofs.Common.{ap, ◌∙◌, sym, ◌-◌, take, Vec, Global}
use Rattle.std.proofs.lemmas.List.{get_or_default}
use Rattle.arrangement.specs.declared.odd_use.OddUse.{OddUse}
use Rattle.snap_noder.proofs.Cancel.{odd_start, odd_all, odd_gone, odd_come}
use Rattle.snap_noder.proofs.Lasts.{told_not_last}
use Rattle.snap_noder.proofs.parity.odd_ones.Goals as goal
use Rattle.snap_noder.proofs.parity.odd_ones.Goals.{then-is_last_pair, else-is_last_pair+in_ok-push}

pub loop-o-init : goal.loop-o-init
loop-o-init c = odd_start c.new-odd.result.items c.new-odd.ensures.items

pub loop-o-preserved : goal.loop-o-preserved
loop-o-preserved c =
    elim c.if-is_last_pair.branch [
      | then-is_last_pair w ↦ (
          odd_gone c.args.sorted.now c.loop-o.odd.items c.loop-o.o-index _ c.loop-o-test.true (get_or_default c.args.sorted.now c.loop-o.o-index _ _ c.loop-o-test.true) c.requires c.loop-o.invariant
          (c.is_last_pair.ensures.0 w.if-is_last_pair.true).0 (sym c.as_slice.ensures.value ∙ (c.is_last_pair.ensures.0 w.if-is_last_pair.true).1) _
          (ap (λ (v : Vec OddUse Global). v.items) w.odd-is ∙ w.pop.ensures.rest ∙ ap (λ n. take (n - 1) c.loop-o.odd.items) c.loop-o.odd.ok.0))
      | else-is_last_pair+in_ok-push w ↦ odd_come c.args.sorted.now c.loop-o.odd.items c.loop-o.o-index _ c.loop-o-test.true (get_or_default c.args.sorted.now c.loop-o.o-index _ _ c.loop-o-test.true) c.requires c.loop-o.invariant
          (told_not_last _ _ _ _ c.as_slice.ensures.value c.is_last_pair.ensures w.if-is_last_pair.false) _
          (ap (λ (v : Vec OddUse Global). v.items) w.odd-is ∙ w.in_ok-push.ensures.items)
    ]

pub returns-clause-exact : goal.returns-clause-exact
returns-clause-exact c = (odd_all c.args.sorted.now _ c.loop-o.o-index c.loop-o-test.false c.loop-o.invariant).exact

pub returns-clause-ascending : goal.returns-clause-ascending
returns-clause-ascending c = (odd_all c.args.sorted.now _ c.loop-o.o-index c.loop-o-test.false c.loop-o.invariant).ascending
