use Rattle.std.proofs.Common.{◌≡◌, ◌<◌, ◌∙◌, ℕ, List, map, length, get_or, sym, ap, subst, arith}
use Rattle.std.specs.Prelude.{slice_range}
use Rattle.box_tree.specs.Rect.{box_of_segment}
use Rattle.cov_types.specs.declared.edge_use.EdgeUse.{EdgeUse}
use Rattle.std.proofs.lemmas.List.{get_or_default}
use Rattle.cov_locate.proofs.RingBoxes.{boxes_more, boxes_all, about_run, sides_some}
use Rattle.cov_locate.proofs.ring_index.ring_boxes.Goals as goal
use Rattle.cov_locate.specs.Rings.{IsAboutRun}
use Rattle.cov_types.specs.Rings.{IsRing}
use Rattle.cov_types.specs.declared.ring_run.RingRun.{RingRun}

pub hull_of-requires : goal.hull_of-requires
hull_of-requires c =
    let outline = c.args.outline.now in
    let run = c.index-run.result.now in
    let i = c.loop-number.number-index in
    let number : ℕ = get_or c.args.numbers.now i 0 in
    let ring : IsRing outline.uses.items outline.starts.items run =
    subst (IsRing outline.uses.items outline.starts.items) (sym c.index-run.ensures) (c.requires.round number run (c.requires.within i 0 c.loop-number-test.true)) in
    sides_some outline.uses.items run.from run.to c.deref-in-loop-number.result.now (c.deref-in-loop-number.ensures.value ∙ c.in_ok-sides.ensures ∙ ap (λ (us : List EdgeUse). map (λ (u : EdgeUse). box_of_segment u.seg) (slice_range us run.from run.to)) c.deref.ensures.value) ring.some ring.uses_end

pub loop-number-preserved : goal.loop-number-preserved
loop-number-preserved c =
    let outline = c.args.outline.now in
    let uses = outline.uses.items in
    let runs = outline.rings.items in
    let numbers = c.args.numbers.now in
    let run = c.index-run.result.now in
    let i = c.loop-number.number-index in
    let within : i < length numbers = c.loop-number-test.true in
    let number : ℕ = get_or numbers i 0 in
    let inside : number < length runs = c.requires.within i 0 within in
    let ring : IsRing uses outline.starts.items run = subst (IsRing uses outline.starts.items) (sym c.index-run.ensures) (c.requires.round number run inside) in
    let about : IsAboutRun uses run c.hull_of.result =
    about_run uses run c.deref-in-loop-number.result.now c.hull_of.result (c.deref-in-loop-number.ensures.value ∙ c.in_ok-sides.ensures ∙ ap (λ (us : List EdgeUse). map (λ (u : EdgeUse). box_of_segment u.seg) (slice_range us run.from run.to)) c.deref.ensures.value) c.hull_of.ensures ring.uses_end in
    boxes_more uses runs numbers i c.loop-number.boxes.items c.push.new.self.items c.hull_of.result c.in_ok-push.ensures.items
    (λ n d.
    let run_is : run ≡ get_or runs (get_or numbers i n) d = c.index-run.ensures ∙ get_or_default runs number run d inside ∙ ap (λ (j : ℕ). get_or runs j d) (get_or_default numbers i 0 n within) in
    subst (λ (r : RingRun). IsAboutRun uses r c.hull_of.result) run_is about) c.loop-number.invariant

pub returns : goal.returns
returns c =
    boxes_all c.args.outline.now.uses.items c.args.outline.now.rings.items c.args.numbers.now c.loop-number.number-index c.loop-number.boxes.items
    (omega (arith, c.loop-number-test.false, c.loop-number.auto.number-index-end)) c.loop-number.invariant
