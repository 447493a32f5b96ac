use Rattle.std.proofs.Common.{◌≡◌, ◌+◌, ◌++◌, ◌∷◌, [], ◌∙◌, Some, Vec, Global, refl, sym, ap, subst, true≢false}
use Rattle.std.specs.Prelude.{slice_get}
use Rattle.cov_valid.proofs.MarksSoFar.{AreMarksBefore, AreMarksBefore-skip, AreMarksBefore-push, AreMarksBefore-all, use_at}
use Rattle.cov_valid.specs.declared.mark.Kind.TheVariants.{NarrowGap}
use Rattle.cov_valid.specs.declared.mark.Mark.{Mark}
use Rattle.cov_marks.specs.Beside.{IsUseOf}
use Rattle.cov_marks.proofs.marking.marks_of_segments.Goals.{then-has_segment+in_ok-push, else-has_segment}
use Rattle.cov_marks.proofs.marking.marks_of_segments.Goals as goal

pub loop-place-preserved : goal.loop-place-preserved
loop-place-preserved c =
    let uses = c.args.uses.now in
    let segs = c.args.segments.now in
    let i = c.loop-place.place in
    let u = c.index-uses-place.result in
    let at : slice_get uses i ≡ Some u = use_at uses uses i u refl c.loop-place-test.true c.index-uses-place.is in
    elim c.if-has_segment.branch [
      | then-has_segment+in_ok-push w ↦
          let mark : Mark = record { member = u.member; place = i; kind = NarrowGap } in
          let items : c.if-has_segment.marks.items ≡ c.loop-place.marks.items ++ mark ∷ [] = ap (λ (v : Vec Mark Global). v.items) w.marks-is ∙ w.in_ok-push.ensures.items in
          subst (AreMarksBefore (IsUseOf segs) uses (i + 1)) (sym items)
          (AreMarksBefore-push (IsUseOf segs) uses i u mark c.loop-place.marks.items c.loop-place.invariant at refl refl (refl, c.has_segment.ensures.0 w.if-has_segment.true) (λ kind other. sym other.0))
      | else-has_segment w ↦
          let items : c.if-has_segment.marks.items ≡ c.loop-place.marks.items = ap (λ (v : Vec Mark Global). v.items) w.marks-is in
          subst (AreMarksBefore (IsUseOf segs) uses (i + 1)) (sym items)
          (AreMarksBefore-skip (IsUseOf segs) uses i u c.loop-place.marks.items c.loop-place.invariant at (λ kind of. true≢false (sym (c.has_segment.ensures.1 of.1) ∙ w.if-has_segment.false)))
    ]

pub returns : goal.returns
returns c = AreMarksBefore-all (IsUseOf c.args.segments.now) c.args.uses.now c.loop-place.place c.loop-place.marks.items c.loop-place-test.false c.loop-place.invariant
