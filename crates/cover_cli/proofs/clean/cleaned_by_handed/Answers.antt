-- The rule at the place came back in another state, and under its name.
use Rattle.std.proofs.Common.{ap, get_or, refl}
use Rattle.std.proofs.Math.Seq.{map-set_same}
use Rattle.cov_rules.specs.Asked.{IsAskedAll, IsAskedUntil}
use Rattle.cover_cli.proofs.Handing.{back_ok, back_err}
use Rattle.cover_cli.proofs.clean.cleaned_by_handed.Goals as goal

pub returns-clause-names : goal.returns-clause-names
returns-clause-names g c = map-set_same _ _ _ _ c.index-rules-place.result refl

pub returns-clause-asked : goal.returns-clause-asked
returns-clause-asked g c =
    back_ok (IsAskedAll c.args.c.now c.args.gap c.args.gaps_too) _ _ _ _ _ c.requires.place (ap (λ d. get_or c.args.rules.now c.args.place d) c.index-rules-place.is) _ c.cleaned_by_hired.ensures.asked

pub returns-clause-no_memory : goal.returns-clause-no_memory
returns-clause-no_memory g c =
    back_err (IsAskedUntil c.args.c.now c.args.gap c.args.gaps_too) _ _ _ _ _ c.requires.place (ap (λ d. get_or c.args.rules.now c.args.place d) c.index-rules-place.is) _ c.cleaned_by_hired.ensures.no_memory
