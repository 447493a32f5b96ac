-- What a parse that takes the words tells of the operation.
use Rattle.std.proofs.Common.{◌≡◌, ◌∙◌, ◌≤◌, List, [], ◌∷◌, Option, Some, Result, IfOk, Global, String, ap, arith, length, map, get_or, subst}
use Rattle.std.specs.String.{string_bytes}
use Rattle.clap.specs.Matches.{found_of}
use Rattle.clap.specs.Walk.{Row, Text, rows_of}
use Rattle.clap.specs.Simple.{App}
use Rattle.clap.specs.declared.parser.matches.ArgMatches.{ArgMatches}
use Rattle.cover_words.specs.Matched.{IsMatched}
use Rattle.cover_words.specs.Named.{IsNamed}
use Rattle.cover_words.specs.Words.{Operation, operation_by, operation_of, taken}
use Rattle.cover_words.specs.declared.operation.Operation as code

-- the operation of the matches is that of the words that the command takes
pub taken_named : (a command : App) (operation : List Row → Option Operation) (words : List Text) (matched : Option ArgMatches) (m : ArgMatches) (r : Option code.Operation)
    → a ≡ command → IsMatched a words matched → matched ≡ Some m → IsNamed (operation (rows_of (found_of m))) r → IsNamed (taken command operation words) r
taken_named a command operation words matched m r same found is named =
    let here : IsMatched command words (Some m) = subst (λ (x : App). IsMatched x words (Some m)) same (subst (λ (o : Option ArgMatches). IsMatched a words o) is found) in
    rw here.0 (rw (← here.1) named)

-- the words are read by the command of the first
pub first_names : {E : Type 0} (names : List Text) (words : List (String Global)) (first : String Global) (word : Text) (r : Result (Option code.Operation) E)
    → 1 ≤ length words → first ≡ get_or words 0 first → word ≡ string_bytes first
    → IfOk r (IsNamed (operation_by names word (map string_bytes words))) → IfOk r (IsNamed (operation_of names (map string_bytes words)))
first_names names [] first word r some at is named = absurd (omega arith)
first_names names (x ∷ xs) first word r some at is named =
    subst (λ w. IfOk r (IsNamed (operation_by names w (map string_bytes (x ∷ xs))))) (is ∙ ap string_bytes at) named
