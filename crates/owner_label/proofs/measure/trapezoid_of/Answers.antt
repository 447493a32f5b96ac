use Rattle.std.proofs.Common.{sym, ◌∙◌, ap}
use Rattle.std.proofs.lemmas.Option.{slice_get-get_or, same_Some}
use Rattle.arrangement.specs.Measure.{trapezoid}
use Rattle.owner_label.proofs.Trapezoids.{small_is}
use Rattle.owner_label.proofs.measure.trapezoid_of.Goals as goal

pub returns-clause-exact : goal.returns-clause-exact
returns-clause-exact c = λ e at.
    small_is c.trapezoid.result c.trapezoid.ensures.small ∙ c.trapezoid.ensures.exact
    ∙ ap trapezoid (c.index-edges-k.is ∙ same_Some _ e (sym (slice_get-get_or c.args.edges.now c.args.k c.index-edges-k.result c.requires.within) ∙ at))
