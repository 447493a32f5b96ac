-- Where the input is refused, no rule has changed.
use Rattle.cover_cli.proofs.Handing.{kept_unmade, of_error, unchanged}
use Rattle.cover_cli.specs.Handed.{chosen_place, AreHandedBack, IsUnmadeAsked}
use Rattle.cover_cli.specs.declared.making.Made.{Made}
use Rattle.cover_cli.specs.declared.outcome.Outcome.{Outcome}
use Rattle.cover_cli.proofs.clean.make.Goals as goal

pub returns-in_err-features-clause-unasked : goal.returns-in_err-features-clause-unasked
returns-in_err-features-clause-unasked g c =
    let way = c.args.way.now in
    of_error {T = Made} {E = Outcome} c.from_residual.result
    (λ o. AreHandedBack (IsUnmadeAsked way.from.now way.scale c.args.input.items way.gap way.gaps_too o) (chosen_place c.args.rule) _ _)
    (λ o. unchanged (IsUnmadeAsked way.from.now way.scale c.args.input.items way.gap way.gaps_too o) (kept_unmade way.from.now way.scale c.args.input.items way.gap way.gaps_too o) (chosen_place c.args.rule) _)
