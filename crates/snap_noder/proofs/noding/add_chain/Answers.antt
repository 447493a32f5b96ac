use Rattle.std.proofs.Common.{ap, ◌∙◌, Vec, Global, arith}
use Rattle.cov_types.specs.declared.edge_use.EdgeUse.{EdgeUse}
use Rattle.snap_noder.proofs.Snapping.{along_start, along_found, along_none, along_all}
use Rattle.snap_noder.proofs.noding.add_chain.Goals as goal
use Rattle.snap_noder.proofs.noding.add_chain.Goals.{in-Some+in_ok-push, in_default}

pub loop-i-init : goal.loop-i-init
loop-i-init c = along_start c.args.uses.now.items c.args.u c.args.chain.now

pub loop-i-preserved : goal.loop-i-preserved
loop-i-preserved c =
    elim c.match-between.branch [
      | in-Some+in_ok-push w ↦ along_found c.args.uses.now.items c.loop-i.uses.items c.match-between.uses.items c.args.u c.args.chain.now c.loop-i.i _ _ _ (omega arith) (omega arith) c.loop-i.invariant
          c.between.result c.between.ensures.value w.in-Some.seg w.in-Some.is (ap (λ (v : Vec EdgeUse Global). v.items) w.uses-is ∙ w.in_ok-push.ensures.items)
      | in_default w ↦ along_none c.args.uses.now.items c.loop-i.uses.items c.match-between.uses.items c.args.u c.args.chain.now c.loop-i.i _ _ _ (omega arith) (omega arith) c.loop-i.invariant
          c.between.result c.between.ensures.value w.in_default.is (ap (λ (v : Vec EdgeUse Global). v.items) w.uses-is)
    ]

pub returns : goal.returns
returns c = along_all c.args.uses.now.items c.args.u c.args.chain.now c.loop-i.i c.loop-i.uses.items (omega arith) c.loop-i.invariant
