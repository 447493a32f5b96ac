use Rattle.std.proofs.Common.{◌∙◌, refl, sym, ap, subst, inl, inr, true≢false}
use Rattle.std.specs.Prelude.{Contains, slice_index}
use Rattle.cov_marks.proofs.edges.is_beside.Goals as goal

pub returns-then-has_number : goal.returns-then-has_number
returns-then-has_number c = λ numbers are.
    (let above = c.region_of-above.ensures.numbering numbers are ∙ ap (slice_index numbers) (c.number.ensures ∙ c.upper.ensures) in (
      (λ t. inl (subst (Contains c.args.regions.now) above (c.has_number.ensures.0 c.if-has_number.true))),
      (λ h. refl),
    ))

pub returns : goal.returns
returns c = λ numbers are.
    (let above = c.region_of-above.ensures.numbering numbers are ∙ ap (slice_index numbers) (c.number.ensures ∙ c.upper.ensures) in
    let below = c.region_of-below.ensures.numbering numbers are ∙ ap (slice_index numbers) (c.number-2.ensures ∙ c.lower.ensures) in (
      (λ t. inr (subst (Contains c.args.regions.now) below (c.has_number-2.ensures.0 t))),
      (λ h. elim h [
        | inl up ↦ absurd (true≢false (sym (c.has_number.ensures.1 (subst (Contains c.args.regions.now) (sym above) up)) ∙ c.if-has_number.false))
        | inr down ↦ c.has_number-2.ensures.1 (subst (Contains c.args.regions.now) (sym below) down)
      ]),
    ))
