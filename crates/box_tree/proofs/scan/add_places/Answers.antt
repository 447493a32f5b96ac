use Rattle.std.proofs.Common.{ℕ, ap, ◌∙◌, sym, Vec, Global}
use Rattle.box_tree.specs.Probe.{reaches}
use Rattle.box_tree.proofs.Places.{places_kept, places_passed}
use Rattle.box_tree.proofs.scan.add_places.Goals as goal
use Rattle.box_tree.proofs.scan.add_places.Goals.{then-reaches+in_ok-push, else-reaches}

pub loop-i-preserved : goal.loop-i-preserved
loop-i-preserved c =
    let test = reaches c.args.probe.now in
    let read = c.index-boxes-i.is in
    elim c.if-reaches.branch [
      | then-reaches+in_ok-push w ↦ places_kept test c.args.first c.args.boxes.now c.loop-i.i c.index-boxes-i.result _ _ _ c.loop-i-test.true read
          (sym c.reaches.ensures ∙ w.if-reaches.true) c.loop-i.invariant (ap (λ (v : Vec ℕ Global). v.items) w.found-is ∙ w.in_ok-push.ensures.items)
      | else-reaches w ↦ ap (λ (v : Vec ℕ Global). v.items) w.found-is
          ∙ places_passed test c.args.first c.args.boxes.now c.loop-i.i c.index-boxes-i.result _ _ c.loop-i-test.true read (sym c.reaches.ensures ∙ w.if-reaches.false) c.loop-i.invariant
    ]
