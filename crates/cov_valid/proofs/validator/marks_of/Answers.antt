use Rattle.std.proofs.Common.{◌≡◌, ◌+◌, ◌++◌, ◌∷◌, [], Option, None, Some, Vec, Global, get_or, refl, sym, ap, ◌∙◌, subst}
use Rattle.std.specs.Prelude.{slice_get}
use Rattle.std.proofs.lemmas.Option.{MatchOption-at_some, MatchOption-at_none}
use Rattle.cov_types.specs.declared.edge_use.EdgeUse.{EdgeUse}
use Rattle.cov_valid.proofs.MarksSoFar.{same_kind, AreMarksBefore, AreMarksBefore-skip, AreMarksBefore-push, AreMarksBefore-all, use_at}
use Rattle.cov_valid.proofs.validator.marks_of.Goals as goal
use Rattle.cov_valid.proofs.validator.marks_of.Goals.{in-Some+in_ok-push, in_default}
use Rattle.cov_valid.specs.Judged.{IsKindOf}
use Rattle.cov_valid.specs.Kinds.{IsFaultOf, IsFaultless}
use Rattle.cov_valid.specs.declared.mark.Kind.{Kind}
use Rattle.cov_valid.specs.declared.mark.Mark.{Mark}

pub loop-place-preserved : goal.loop-place-preserved
loop-place-preserved c =
    let uses = c.args.uses.now in
    let i = c.loop-place.place in
    let u = c.index-uses-place.result in
    let kind : Option Kind = get_or c.args.kinds.now i None in
    let at : slice_get uses i ≡ Some u = use_at uses uses i u refl c.loop-place-test.true c.index-uses-place.is in
    let told : IsKindOf uses u kind = subst (λ (v : EdgeUse). IsKindOf uses v kind) (sym c.index-uses-place.is) (c.requires.each i u None c.loop-place-test.true) in
    elim c.match-kinds-place.branch [
      | in-Some+in_ok-push w ↦
          let fault : IsFaultOf uses u w.in-Some.kind = MatchOption-at_some (IsFaultless uses u) (IsFaultOf uses u) w.in-Some.kind w.in-Some.is told in
          let mark : Mark = record { member = u.member; place = i; kind = w.in-Some.kind } in
          let items : c.match-kinds-place.marks.items ≡ c.loop-place.marks.items ++ mark ∷ [] = ap (λ (v : Vec Mark Global). v.items) w.marks-is ∙ w.in_ok-push.ensures.items in
          subst (AreMarksBefore (IsFaultOf uses) uses (i + 1)) (sym items)
          (AreMarksBefore-push (IsFaultOf uses) uses i u mark c.loop-place.marks.items c.loop-place.invariant at refl refl fault (λ kind other. same_kind uses u w.in-Some.kind kind fault other))
      | in_default w ↦
          let faultless : IsFaultless uses u = MatchOption-at_none (IsFaultless uses u) (IsFaultOf uses u) w.in_default.is told in
          let items : c.match-kinds-place.marks.items ≡ c.loop-place.marks.items = ap (λ (v : Vec Mark Global). v.items) w.marks-is in
          subst (AreMarksBefore (IsFaultOf uses) uses (i + 1)) (sym items)
          (AreMarksBefore-skip (IsFaultOf uses) uses i u c.loop-place.marks.items c.loop-place.invariant at faultless)
    ]

pub returns : goal.returns
returns c = AreMarksBefore-all (IsFaultOf c.args.uses.now) c.args.uses.now c.loop-place.place c.loop-place.marks.items c.loop-place-test.false c.loop-place.invariant
