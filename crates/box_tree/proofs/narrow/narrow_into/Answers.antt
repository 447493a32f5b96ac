use Rattle.std.proofs.Common.{ℕ, ◌<◌, ap, ◌∙◌, sym, length, get_or, Vec, Global, rules}
use Rattle.box_tree.specs.Rect.{is_touching}
use Rattle.box_tree.proofs.Narrowed.{narrow_kept, narrow_passed, narrow_all, wide_below}
use Rattle.box_tree.proofs.Touching.{touch_wider}
use Rattle.box_tree.proofs.narrow.narrow_into.Goals as goal
use Rattle.box_tree.proofs.narrow.narrow_into.Goals.{then-touches+in_ok-push, else-touches}

pub bounds-boxes-k : goal.bounds-boxes-k
bounds-boxes-k c = wide_below (is_touching c.args.round) c.args.boxes.now c.args.wide.now c.loop-k.k-index c.requires.all c.loop-k-test.true

pub offset_bounds-boxes-k : goal.offset_bounds-boxes-k
offset_bounds-boxes-k c =
    let below : get_or c.args.wide.now c.loop-k.k-index 0 < length c.args.boxes.now = bounds-boxes-k c in
    search rules

pub loop-k-preserved : goal.loop-k-preserved
loop-k-preserved c =
    let test = is_touching c.args.own in
    let below : get_or c.args.wide.now c.loop-k.k-index 0 < length c.args.boxes.now = wide_below (is_touching c.args.round) c.args.boxes.now c.args.wide.now c.loop-k.k-index c.requires.all c.loop-k-test.true in
    elim c.if-touches.branch [
      | then-touches+in_ok-push w ↦ narrow_kept test c.args.boxes.now c.args.wide.now c.loop-k.k-index c.index-boxes-k.result _ _ c.loop-k-test.true below c.index-boxes-k.is
          (sym c.touches.ensures ∙ w.if-touches.true) c.loop-k.invariant (ap (λ (v : Vec ℕ Global). v.items) w.found-is ∙ w.in_ok-push.ensures.items)
      | else-touches w ↦ ap (λ (v : Vec ℕ Global). v.items) w.found-is
          ∙ narrow_passed test c.args.boxes.now c.args.wide.now c.loop-k.k-index c.index-boxes-k.result _ c.loop-k-test.true below c.index-boxes-k.is (sym c.touches.ensures ∙ w.if-touches.false) c.loop-k.invariant
    ]

pub returns : goal.returns
returns c =
    narrow_all (is_touching c.args.own) (is_touching c.args.round) c.args.boxes.now c.args.wide.now _ c.loop-k.k-index (λ b. touch_wider c.args.own c.args.round b c.requires.about) c.requires.all c.loop-k-test.false c.loop-k.invariant
