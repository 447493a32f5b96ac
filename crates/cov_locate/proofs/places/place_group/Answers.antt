use Rattle.std.proofs.Common.{◌≡◌, ◌<◌, ◌∙◌, ℕ, pos, length, get_or, set, length-set, sym, ap, subst, arith, inl, inr}
use Rattle.std.proofs.lemmas.Bool.{cases_lt}
use Rattle.std.proofs.lemmas.List.{get_or_default}
use Rattle.cov_locate.proofs.InPlaces.{right_here, right_still}
use Rattle.cov_locate.proofs.places.place_group.Goals as goal
use Rattle.cov_locate.specs.Near.{AreNear}
use Rattle.cov_types.specs.declared.coord.Coord.{Coord}
use Rattle.cov_locate.specs.Places.{IsRightAt}

abbrev origin : Coord
origin = record { x = pos 0; y = pos 0 }

pub place_among-requires-clause-near : goal.place_among-requires-clause-near
place_among-requires-clause-near c =
    let outline = c.args.index.now.outline in
    let i = c.loop-number.number-index in
    let number : ℕ = get_or c.args.group.now i 0 in
    let within : number < length c.args.points.now = c.requires.within i 0 c.loop-number-test.true in
    let p : Coord = get_or c.args.points.now number origin in
    subst (AreNear outline.uses.items outline.rings.items p 0) (sym c.deref.ensures.value) (c.in_ok-near.ensures p (c.requires.points number origin within) (c.box_about-round.ensures i 0 origin c.loop-number-test.true))

pub loop-number-init : goal.loop-number-init
loop-number-init c = (c.requires.places, λ n right. right, λ k e h. absurd (omega (arith, h)))

pub loop-number-preserved : goal.loop-number-preserved
loop-number-preserved c =
    let uses = c.args.index.now.outline.uses.items in
    let points = c.args.points.now in
    let places = c.loop-number.places.items in
    let i = c.loop-number.number-index in
    let number : ℕ = get_or c.args.group.now i 0 in
    let place = c.place_among.result in
    let (count, still, own) = c.loop-number.invariant in (
      length-set places number place ∙ count,
      λ n right. right_still uses points places number n origin place count c.place_among.ensures (still n right),
      λ k e h. elim (cases_lt k i) [
        | inl early ↦ right_still uses points places number (get_or c.args.group.now k e) origin place count c.place_among.ensures (own k e early)
        | inr late ↦
            let here : i ≡ k = omega (arith, h, late) in
            let same : number ≡ get_or c.args.group.now k e = get_or_default c.args.group.now i 0 e c.loop-number-test.true ∙ ap (λ (j : ℕ). get_or c.args.group.now j e) here in
            subst (IsRightAt uses points (set places number place)) same (right_here uses points places number origin place count c.place_among.ensures)
      ],
    )

pub returns-clause-length : goal.returns-clause-length
returns-clause-length c = c.loop-number.invariant.0

pub returns-clause-group : goal.returns-clause-group
returns-clause-group c = λ n (k, within, at). subst (IsRightAt c.args.index.now.outline.uses.items c.args.points.now c.loop-number.places.items) at (c.loop-number.invariant.2 k n (omega (arith, within, c.loop-number-test.false, c.loop-number.auto.number-index-end)))

pub returns-clause-others : goal.returns-clause-others
returns-clause-others c = λ n right. c.loop-number.invariant.1 n right
