-- What is promised of the two names.
use Rattle.std.proofs.Common.{All, subst}
use Rattle.cov_io.specs.Calls.{IsPromised}
use Rattle.cover_words.specs.Named.{names_in}
use Rattle.cover_words.specs.declared.inputs.Inputs.{Inputs}
use Rattle.cover_cli.proofs.input.read_inputs.Goals as goal

pub returns-in-Two-clause-promised : goal.returns-in-Two-clause-promised
returns-in-Two-clause-promised g c = λ all.
    c.read_files-in-Two.ensures.promised (subst (λ (names : Inputs). All (λ name. IsPromised name (g.F.Files.state c.args.files.now)) (names_in names)) c.in-Two.is all)
