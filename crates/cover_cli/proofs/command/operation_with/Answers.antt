-- There are as many names as rules.
use Rattle.std.proofs.Common.{◌∙◌, ℕ, ap, length, subst}
use Rattle.std.specs.Prelude.{IfOk, IfSome}
use Rattle.cover_cli.proofs.Handing.{same_length}
use Rattle.cover_words.specs.Named.{named}
use Rattle.cover_words.specs.Words.{IsWithinLimit}
use Rattle.cover_cli.proofs.command.operation_with.Goals as goal

pub returns-clause-within : goal.returns-clause-within
returns-clause-within g c =
    subst (λ (rules : ℕ). IfOk c.operation_named.result (λ o. IfSome o (λ operation. IsWithinLimit rules (named operation))))
    (ap length c.deref.ensures.value ∙ same_length _ _ _ _ c.in_ok-names.ensures) c.operation_named.ensures.within
