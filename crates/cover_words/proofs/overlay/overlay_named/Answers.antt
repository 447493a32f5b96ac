use Rattle.clap.specs.Simple.{app_of}
use Rattle.cover_words.specs.Commands.{overlay_command}
use Rattle.cover_words.specs.Words.{overlay_in}
use Rattle.cover_words.proofs.Takings.{taken_named}
use Rattle.cover_words.proofs.overlay.overlay_named.Goals as goal

pub returns-in-Some : goal.returns-in-Some
returns-in-Some c = taken_named (app_of c.in_ok-command.field-0) overlay_command overlay_in _ c.in_ok-matches.field-0 c.in-Some.matches c.named.result
    c.in_ok-command.ensures c.in_ok-matches.ensures c.in-Some.is c.named.ensures
