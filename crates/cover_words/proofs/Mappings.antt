-- The words of a mapping name one exactly where those of a validation in their place are accepted.
use Rattle.std.proofs.Common.{◌≡◌, ◌∙◌, ℕ, Bool, true, false, cond, refl, ap, codes, [], Option, Some, None, is_some, option_and_then}
use Rattle.clap.specs.Simple.{matches_of}
use Rattle.clap.specs.Takes.{takes}
use Rattle.clap.specs.Walk.{Text}
use Rattle.cover_words.specs.Accepted.{MappingLaw}
use Rattle.cover_words.specs.Commands.{validate_command}
use Rattle.cover_words.specs.Values.{number_at, scale_at, text_at}
use Rattle.cover_words.specs.Words.{Operation, Validate, MapFaults, map_of, suits, validate_with, validation_of}
use Rattle.cover_words.proofs.AcceptedWords.{accepted}

-- where an operation that has a mapping is named or not by a test, so is its mapping
tested : (b : Bool) (o m : Operation) → map_of o ≡ Some m → is_some (option_and_then map_of (cond b (Some o) None)) ≡ is_some (cond b (Some o) None)
tested true o m has = ap is_some has
tested false o m has = refl

of_values : (f t : Option Text) (g s : Option ℕ) → is_some (option_and_then map_of (validate_with f t g s)) ≡ is_some (validate_with f t g s)
of_values (Some f) (Some t) (Some g) s = tested (suits s f) (Validate g s f t) (MapFaults g s f t) refl
of_values (Some f) (Some t) None s = refl
of_values (Some f) None g s = refl
of_values None t g s = refl

of_taken : (b : Bool) (x : Option Operation) → is_some (option_and_then map_of x) ≡ is_some x → is_some (option_and_then map_of (cond b x None)) ≡ is_some (cond b x None)
of_taken true x same = same
of_taken false x same = refl

pub mapping_accepted : MappingLaw
mapping_accepted words =
    let all = validation_of words in
    let rows = matches_of validate_command all in
    of_taken (takes validate_command all) _ (of_values (text_at (codes "IN") rows) (text_at (codes "OUT") rows) (number_at (codes "gap") rows) (scale_at rows)) ∙ accepted [] all
