use Rattle.std.proofs.Common.{◌≡◌, Bool, true, false, refl}
use Rattle.clap.specs.Simple.{is_simple}
use Rattle.clap.specs.Faults.{is_simple_and_free}
use Rattle.clap.specs.Simple.{app_of}
use Rattle.clap.proofs.WalkLemmas.{both}
use Rattle.cover_words.proofs.Faultless.{faultless_takes}
use Rattle.cover_words.proofs.matched.matched.Goals as goal

never_true : (b : Bool) → (b ≡ true → ⊥) → b ≡ false
never_true true h = absurd (h refl)
never_true false h = refl

pub returns-in-Ok : goal.returns-in-Ok
returns-in-Ok c =
    let free : is_simple_and_free (app_of c.args.command) ≡ true = (both _ _ c.requires).0 in
    let simple : is_simple (app_of c.args.command) ≡ true = (both _ _ free).0 in
    (faultless_takes (app_of c.args.command) _ c.requires (c.in-Ok.ensures.kinds free), (c.in-Ok.ensures.matches simple).0)

pub returns : goal.returns
returns c = never_true _ (λ t. c.in_default.not-OutOfMemory (rw c.kind.ensures (c.in-Err.ensures.passes t)))
