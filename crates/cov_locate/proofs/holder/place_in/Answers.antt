use Rattle.std.proofs.Common.{◌≡◌, ◌<◌, ◌∙◌, Bool, true, false, not, List, length, get_or, sym, ap, subst, arith}
use Rattle.std.proofs.lemmas.Bool.{ne_eqb}
use Rattle.std.proofs.lemmas.List.{get_or_default}
use Rattle.cov_locate.proofs.LeastHolder.{seen_more, settled_where, other_holds}
use Rattle.cov_locate.proofs.holder.place_in.Goals as goal
use Rattle.cov_locate.proofs.holder.place_in.Goals.{else-odd-via-then-odd+else-owner-member, else-odd-via-else-odd, then-owner-member-2, else-owner-member-2}
use Rattle.cov_locate.specs.Where.{IsWhere}
use Rattle.cov_types.specs.declared.ring_run.RingRun.{RingRun}

pub returns-then-number-rings : goal.returns-then-number-rings
returns-then-number-rings c =
    let outline = c.args.index.now.outline in
    let seen = c.loop-number.invariant in
    let order = c.requires.index.in_order in
    subst (IsWhere outline.uses.items c.args.p) (sym c.settled.ensures)
    (settled_where outline.uses.items outline.rings.items c.args.p outline.starts.items order.in_row order.round c.loop-number.passed c.in-Some.number c.loop-number.member c.loop-number.odd seen c.in-Some.ensures
    (omega (arith, c.if-number-rings.true, ap length c.as_slice-rings.ensures.value)))

pub returns-then-owner-member : goal.returns-then-owner-member
returns-then-owner-member c =
    let outline = c.args.index.now.outline in
    let runs = outline.rings.items in
    let order = c.requires.index.in_order in
    let shown = c.as_slice-rings.result.now in
    let same : shown ≡ runs = c.as_slice-rings.ensures.value in
    let number = c.in-Some.number in
    let is = c.in-Some.ensures in
    let within : number < length runs = omega (arith, c.if-number-rings.false, ap length same, is.ends) in
    let none : RingRun = record { member = 0; from = 0; to = 0 } in
    let run : RingRun = get_or shown number none in
    let at : run ≡ get_or runs number run = ap (λ (rs : List RingRun). get_or rs number none) same ∙ get_or_default runs number none run within in (
      is.clear,
      other_holds outline.uses.items runs c.args.p outline.starts.items order.in_row order.round c.loop-number.passed number c.loop-number.member c.loop-number.odd run order.ascending c.loop-number.invariant is within at
          (λ e. c.if-owner-member.true e) c.if-odd.true,
    )

pub loop-number-preserved : goal.loop-number-preserved
loop-number-preserved c =
    let outline = c.args.index.now.outline in
    let runs = outline.rings.items in
    let order = c.requires.index.in_order in
    let shown = c.as_slice-rings.result.now in
    let same : shown ≡ runs = c.as_slice-rings.ensures.value in
    let number = c.in-Some.number in
    let is = c.in-Some.ensures in
    let within : number < length runs = omega (arith, c.if-number-rings.false, ap length same, is.ends) in
    let none : RingRun = record { member = 0; from = 0; to = 0 } in
    let run : RingRun = get_or shown number none in
    let at : run ≡ get_or runs number run = ap (λ (rs : List RingRun). get_or rs number none) same ∙ get_or_default runs number none run within in
    let odd : Bool = c.loop-number.odd in
    let more : Bool = c.if-owner-member-2.odd in
    let turned : run.member ≡ c.loop-number.member → more ≡ not odd = λ e. elim c.if-owner-member-2.branch [
      | then-owner-member-2 w ↦ absurd (w.if-owner-member-2.true e)
      | else-owner-member-2 w ↦ w.odd-is
    ] in
    let began : ¬ (run.member ≡ c.loop-number.member) → (odd ≡ false) × (more ≡ true) = λ apart. (
      elim c.else-odd.branch [
        | else-odd-via-then-odd+else-owner-member w ↦ absurd (apart w.if-owner-member.false)
        | else-odd-via-else-odd w ↦ w.if-odd.false
      ],
      elim c.if-owner-member-2.branch [
        | then-owner-member-2 w ↦ w.odd-is ∙ ap not (ne_eqb run.member c.loop-number.member apart)
        | else-owner-member-2 w ↦ absurd (apart w.if-owner-member-2.false)
      ],
    ) in
    seen_more outline.uses.items runs c.args.p c.loop-number.passed number c.loop-number.member run.member odd more run order.ascending c.loop-number.invariant is within at (λ i. run.member) turned began
