-- What a parse of a command tells of the words.
use Rattle.std.specs.Prelude.{◌≡◌, ◌&&◌, Bool, true, false, List, Option, Some, None}
use Rattle.std.specs.List.{list_all}
use Rattle.clap.specs.Walk.{Text, is_empty, rows_of}
use Rattle.clap.specs.Matches.{found_of}
use Rattle.clap.specs.Simple.{App, built, matches_of}
use Rattle.clap.specs.Takes.{default_passes, takes}
use Rattle.clap.specs.Faults.{is_simple_and_free}
use Rattle.clap.specs.declared.parser.matches.ArgMatches.{ArgMatches}

-- the command is simple, no argument has a rule on another, there is no subcommand, and each default passes
abbrev pub is_plain : App → Bool
is_plain a = is_simple_and_free a && (is_empty (built a).subs && list_all default_passes (built a).top.rules)

-- the matches of the words where the command takes them, and none where it doesn't
abbrev pub IsMatched : App → List Text → Option ArgMatches → Type 0
IsMatched a words None = takes a words ≡ false
IsMatched a words (Some m) = (takes a words ≡ true) × (rows_of (found_of m) ≡ matches_of a words)
