-- Memory that runs out while the words are read.
use Rattle.std.proofs.Common.{[], map}
use Rattle.std.specs.String.{string_bytes}
use Rattle.cover_cli.proofs.Running.{unnamed}
use Rattle.cover_words.specs.Words.{mapping_of}
use Rattle.cover_cli.proofs.command.map_faults.Goals as goal

pub returns-in-Err-clause-answered : goal.returns-in-Err-clause-answered
returns-in-Err-clause-answered g c = unnamed (mapping_of (map string_bytes c.args.words.now)) [] _

pub returns-clause-answered : goal.returns-clause-answered
returns-clause-answered g c = unnamed (mapping_of (map string_bytes c.args.words.now)) [] _
