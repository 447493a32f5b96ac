-- Without memory for the text the rule was asked for all.
use Rattle.cover_cli.proofs.Handing.{all_until, left_as, of_error}
use Rattle.cover_cli.proofs.clean.cleaning.Goals as goal

pub returns-in_err-text-clause-no_memory : goal.returns-in_err-text-clause-no_memory
returns-in_err-text-clause-no_memory g c =
    of_error _ _ (λ _. left_as _ _ (all_until c.args.f.coverage c.args.way.now.gap c.args.way.now.gaps_too) _ _ _ c.in_ok-coverage.ensures.asked)
