use Rattle.std.proofs.Common.{◌≡◌, ◌+◌, ◌↔◌, ℕ, false, IsTrue, Option, Vec, Global, length, get_or, drop, sym, ap, ◌∙◌, subst}
use Rattle.std.proofs.lemmas.Bool.{false≢true}
use Rattle.cov_valid.proofs.Judging.{met_is, judged_met, next_group}
use Rattle.cov_valid.proofs.kinds.kinds_of.Goals as goal
use Rattle.cov_valid.proofs.kinds.kinds_of.Goals.{then-met-k+in_ok-add_meets, else-met-k+in_ok-add_group}
use Rattle.cov_valid.specs.Contacts.{IsMet}
use Rattle.cov_valid.specs.Groups.{IsGroup, AreGroupsInRow}
use Rattle.cov_valid.specs.Judged.{AreJudged}
use Rattle.cov_valid.specs.Kinds.{HasBadContact}
use Rattle.cov_valid.specs.declared.group.Group.{Group}
use Rattle.cov_valid.specs.declared.mark.Kind.{Kind}

pub add_group-requires-clause-not_met : goal.add_group-requires-clause-not_met
add_group-requires-clause-not_met c = λ bad.
    let uses = c.args.outline.now.uses.items in
    let groups = c.args.groups.now in
    let k = c.loop-k.k in
    let g = c.index-groups-k.result in
    let told : IsTrue (get_or c.args.met.now k false) ↔ IsMet groups (get_or groups k g).seg = c.requires.contacts.each k g false c.loop-k-test.true in
    let met = (met_is uses c.args.entries.now groups (get_or groups k g).seg c.requires.sorted.entries_are c.requires.grouped).1 (subst (λ (h : Group). HasBadContact uses h.seg) c.index-groups-k.is bad) in
    false≢true (sym c.if-met-k.false ∙ told.1 met)

pub loop-k-preserved : goal.loop-k-preserved
loop-k-preserved c =
    let uses = c.args.outline.now.uses.items in
    let entries = c.args.entries.now in
    let groups = c.args.groups.now in
    let k = c.loop-k.k in
    let g = c.index-groups-k.result in
    let before = c.loop-k.kinds.items in
    let after = c.if-met-k.kinds.items in
    let at : g ≡ get_or groups k g = c.index-groups-k.is in
    let is : IsGroup entries g = subst (IsGroup entries) (sym at) (c.requires.grouped.each k g c.loop-k-test.true) in
    let next = next_group groups k (length before) (length entries) g c.loop-k-test.true c.loop-k.invariant.1 in
    let begins : g.from ≡ length before = ap (λ (h : Group). h.from) at ∙ next.0 in
    let so_far : AreJudged uses entries g.from before = subst (λ (n : ℕ). AreJudged uses entries n before) (sym begins) c.loop-k.invariant.0 in
    let told : IsTrue (get_or c.args.met.now k false) ↔ IsMet groups (get_or groups k g).seg = c.requires.contacts.each k g false c.loop-k-test.true in
    let judged : AreJudged uses entries g.to after =
    elim c.if-met-k.branch [
      | then-met-k+in_ok-add_meets w ↦
          let met : HasBadContact uses (get_or groups k g).seg = (met_is uses entries groups (get_or groups k g).seg c.requires.sorted.entries_are c.requires.grouped).0 (told.0 w.if-met-k.true) in
          let bad : HasBadContact uses g.seg = subst (λ (h : Group). HasBadContact uses h.seg) (sym at) met in
          let adds = w.in_ok-add_meets.ensures in
          subst (AreJudged uses entries g.to) (sym (ap (λ (v : Vec (Option Kind) Global). v.items) w.kinds-is))
          (judged_met uses entries g before w.add_meets.new.kinds.items is bad adds.count adds.kept adds.meets so_far)
      | else-met-k+in_ok-add_group w ↦
          subst (AreJudged uses entries g.to) (sym (ap (λ (v : Vec (Option Kind) Global). v.items) w.kinds-is)) w.in_ok-add_group.ensures
    ] in
    let ends : (get_or groups k g).to ≡ length after = ap (λ (h : Group). h.to) (sym at) ∙ sym judged.count in (
      subst (λ (n : ℕ). AreJudged uses entries n after) (sym judged.count) judged,
      subst (λ (n : ℕ). AreGroupsInRow n (drop (k + 1) groups) (length entries)) ends next.1,
    )
