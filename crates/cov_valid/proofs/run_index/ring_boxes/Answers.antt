use Rattle.std.proofs.Common.{◌≡◌, ◌<◌, ◌∙◌, List, length, get_or, ap, subst, arith}
use Rattle.std.specs.Prelude.{slice_range}
use Rattle.std.proofs.lemmas.List.{get_or_default}
use Rattle.cov_types.specs.declared.edge_use.EdgeUse.{EdgeUse}
use Rattle.cov_types.specs.declared.ring_run.RingRun.{RingRun}
use Rattle.cov_valid.proofs.RingBoxes.{boxes_more}
use Rattle.cov_valid.proofs.Runs.{no_run}
use Rattle.cov_valid.proofs.run_index.ring_boxes.Goals as goal
use Rattle.cov_valid.specs.Levels.{IsAbout}

pub loop-run-preserved : goal.loop-run-preserved
loop-run-preserved c =
    let uses = c.args.outline.now.uses.items in
    let runs = c.args.outline.now.rings.items in
    let shown = c.deref-run-items.result.now in
    let i = c.loop-run.run-index in
    let same : shown ≡ runs = c.deref-run-items.ensures.value in
    let inside : i < length shown = c.loop-run-test.true in
    let within : i < length runs = omega (arith, ap length same) in
    let run : RingRun = get_or shown i no_run in
    let at : run ≡ get_or runs i run = ap (λ (rs : List RingRun). get_or rs i no_run) same ∙ get_or_default runs i no_run run within in
    let about : IsAbout (slice_range uses run.from run.to) c.box_about.result = subst (λ (us : List EdgeUse). IsAbout (slice_range us run.from run.to) c.box_about.result) c.deref.ensures.value c.box_about.ensures in
    boxes_more uses runs i c.loop-run.boxes.items c.push.new.self.items run c.box_about.result within at c.in_ok-push.ensures.items about c.loop-run.invariant
