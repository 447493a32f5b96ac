use Rattle.std.proofs.Common.{map}
use Rattle.clap.specs.Simple.{app_of}
use Rattle.cover_words.specs.Commands.{clean_command}
use Rattle.cover_words.specs.Words.{clean_in}
use Rattle.cover_words.proofs.Takings.{taken_named}
use Rattle.cover_words.proofs.clean.clean_named.Goals as goal

pub returns-in-Some : goal.returns-in-Some
returns-in-Some c = taken_named (app_of c.in_ok-command.field-0) clean_command (clean_in (map (λ n. n.now) c.args.names.now)) _ c.in_ok-matches.field-0 c.in-Some.matches c.named.result
    c.in_ok-command.ensures c.in_ok-matches.ensures c.in-Some.is c.named.ensures
